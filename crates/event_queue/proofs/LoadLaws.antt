-- Events whose loads lie in a slab, before and after a change.
use Rattle.std.proofs.Common.{◌≡◌, ◌≢◌, ℕ, ◌≤◌, ◌==◌, true, false, List, [], ◌∷◌, Option, Some, None, IsSome, is_some, slice_index_or, refl, sym, ap, subst, ◌∙◌, inl, inr, arith}
use Rattle.std.proofs.lemmas.Bool.{cases_Bool}
use Rattle.std.proofs.lemmas.Bool.Decides.{eqb_tells}
use Rattle.std.specs.List.{AllByRecursion, IsDistinct}
use Rattle.sim_base.specs.declared.key.Key.{Key}
use Rattle.sim_base.specs.declared.time.Time.{Time}
use Rattle.sim_base.specs.KeyOrder.{before, insert_by, IsRising}
use Rattle.sim_base.proofs.KeyLaws.{before-time}
use Rattle.event_queue.specs.Pending.{key_of, first_key, NoneBelow}
use Rattle.event_queue.specs.Loads.{events_at, HoldsLoads}
use Rattle.event_queue.proofs.InOrder.{all-weaken, all-insert}

-- ---- places

distinct-insert : (key : Key) (place : ℕ) (entries : List (Key × ℕ)) → AllByRecursion (λ entry. entry.1 ≢ place) entries →
    IsDistinct (λ a b. a.1 == b.1) entries → IsDistinct (λ a b. a.1 == b.1) (insert_by key_of (key, place) entries)
unfolding insert_by IsDistinct
distinct-insert key place [] away d = (tt, tt)
distinct-insert key place (e ∷ es) away d = elim (cases_Bool (before key e.0)) [
  | inl t ↦ rw t (all-weaken (λ entry. entry.1 ≢ place) (λ entry. (place == entry.1) ≡ false) (λ entry ne. differ place entry.1 (λ s. ne (sym s))) (e ∷ es) away, d)
  | inr f ↦ rw f (all-insert key_of (λ entry. (e.1 == entry.1) ≡ false) (key, place) es (differ e.1 place away.0) d.0, distinct-insert key place es away.1 d.1)
]
  where
    differ : (a b : ℕ) → a ≢ b → (a == b) ≡ false
    differ a b ne = elim (eqb_tells a b) [ inl same ↦ absurd (ne same.1) | inr other ↦ other.0 ]

-- an entry with another number has another place
apart_from : (place other : ℕ) → (place == other) ≡ false → other ≢ place
apart_from place other differs same =
    elim (eqb_tells place other) [
      | inl e ↦ let d : true ≡ false = sym e.0 ∙ differs in cc
      | inr ne ↦ ne.1 (sym same)
    ]

other_places : (place : ℕ) (entries : List (Key × ℕ)) → AllByRecursion (λ entry. (place == entry.1) ≡ false) entries →
    AllByRecursion (λ entry. entry.1 ≢ place) entries
other_places place [] d = tt
other_places place (entry ∷ entries) d = (apart_from place entry.1 d.0, other_places place entries d.1)

module _ {Load : Type 0} where
  abbrev load_at : List (Option Load) → ℕ → Option Load
  load_at slots place = slice_index_or slots place None

  abbrev IsHeld : List (Option Load) → Key × ℕ → Type 0
  IsHeld slots entry = IsSome (load_at slots entry.1)

  -- there is a load
  some_load : (o : Option Load) → IsSome o → (load : Load) × (o ≡ Some load)
  some_load None h = absurd (let d : false ≡ true = h in cc)
  some_load (Some load) h = (load, refl)

  -- no entry has a vacant place
  pub places-free : (slots : List (Option Load)) (place : ℕ) (entries : List (Key × ℕ)) → AllByRecursion (IsHeld slots) entries → load_at slots place ≡ None →
      AllByRecursion (λ entry. entry.1 ≢ place) entries
  places-free slots place [] held vacant = tt
  places-free slots place (entry ∷ entries) held vacant = (
    λ same. let d : false ≡ true = ap is_some (sym vacant) ∙ ap (λ p. is_some (load_at slots p)) (sym same) ∙ held.0 in cc,
    places-free slots place entries held.1 vacant,
  )

  events-cons : (slots : List (Option Load)) (entry : Key × ℕ) (load : Load) (entries : List (Key × ℕ)) → load_at slots entry.1 ≡ Some load →
      events_at slots (entry ∷ entries) ≡ (entry.0, load) ∷ events_at slots entries
  events-cons slots entry load entries is = rw is refl

  pub holds-empty : (slots : List (Option Load)) → HoldsLoads slots []
  unfolding IsDistinct
  holds-empty slots = record { held = tt; apart = tt }

  -- ---- what the events have of the entries

  pub all_of_events : (slots : List (Option Load)) (P : Key → Type 0) (entries : List (Key × ℕ)) → AllByRecursion (IsHeld slots) entries →
      AllByRecursion (λ event. P event.0) (events_at slots entries) → AllByRecursion (λ entry. P entry.0) entries
  all_of_events slots P [] h a = tt
  all_of_events slots P (entry ∷ entries) h a =
      let s = some_load (load_at slots entry.1) h.0 in
      let b = subst (AllByRecursion (λ event. P event.0)) (events-cons slots entry s.0 entries s.1) a in
      (b.0, all_of_events slots P entries h.1 b.1)

  pub all_events : (slots : List (Option Load)) (P : Key → Type 0) (entries : List (Key × ℕ)) → AllByRecursion (IsHeld slots) entries →
      AllByRecursion (λ entry. P entry.0) entries → AllByRecursion (λ event. P event.0) (events_at slots entries)
  all_events slots P [] h a = tt
  all_events slots P (entry ∷ entries) h a =
      let s = some_load (load_at slots entry.1) h.0 in
      subst (AllByRecursion (λ event. P event.0)) (sym (events-cons slots entry s.0 entries s.1)) (a.0, all_events slots P entries h.1 a.1)

  pub rising_events : (slots : List (Option Load)) (entries : List (Key × ℕ)) → AllByRecursion (IsHeld slots) entries →
      IsRising key_of entries → IsRising key_of (events_at slots entries)
  rising_events slots [] h r = tt
  rising_events slots (entry ∷ entries) h r =
      let s = some_load (load_at slots entry.1) h.0 in
      subst (IsRising key_of) (sym (events-cons slots entry s.0 entries s.1))
      (all_events slots (λ key. before entry.0 key ≡ true) entries h.1 r.0, rising_events slots entries h.1 r.1)

  pub first_key-events : (slots : List (Option Load)) (entries : List (Key × ℕ)) → AllByRecursion (IsHeld slots) entries →
      first_key (events_at slots entries) ≡ first_key entries
  first_key-events slots [] h = refl
  first_key-events slots (entry ∷ entries) h =
      let s = some_load (load_at slots entry.1) h.0 in ap first_key (events-cons slots entry s.0 entries s.1)

  -- ---- the end

  pub none_where_empty : (end : Time) (events : List (Key × Load)) → first_key events ≡ None → NoneBelow end events
  none_where_empty end [] e = tt
  none_where_empty end (event ∷ events) e = absurd (let d : Some event.0 ≡ None = e in cc)

  pub none_below : (end : Time) (key : Key) (events : List (Key × Load)) → IsRising key_of events → first_key events ≡ Some key →
      end.0 ≤ key.time.0 → NoneBelow end events
  none_below end key [] r e late = tt
  none_below end key (event ∷ events) r e late =
      let same : event.0 ≡ key = cc in
      let first : end.0 ≤ event.0.time.0 = subst (λ k. end.0 ≤ k.time.0) (sym same) late in (
        first,
        all-weaken (λ other. before event.0 other.0 ≡ true) (λ other. end.0 ≤ other.0.time.0)
            (λ other up. let t = before-time event.0 other.0 up in omega arith) events r.0,
      )

  -- ---- an event more

  events-insert : (slots : List (Option Load)) (entry : Key × ℕ) (load : Load) (entries : List (Key × ℕ)) → load_at slots entry.1 ≡ Some load →
      AllByRecursion (IsHeld slots) entries → events_at slots (insert_by key_of entry entries) ≡ insert_by key_of (entry.0, load) (events_at slots entries)
  unfolding insert_by
  events-insert slots entry load [] is h = rw is refl
  events-insert slots entry load (e ∷ es) is h =
      let s = some_load (load_at slots e.1) h.0 in
      let tail = events-insert slots entry load es is h.1 in
      elim (cases_Bool (before entry.0 e.0)) [
        | inl t ↦ rw (t, is, s.1, t) refl
        | inr f ↦ rw (f, s.1, f) (ap (λ l. (e.0, s.0) ∷ l) tail)
      ]

  same_events : (old new : List (Option Load)) (entries : List (Key × ℕ)) → AllByRecursion (λ entry. load_at new entry.1 ≡ load_at old entry.1) entries →
      events_at new entries ≡ events_at old entries
  same_events old new [] a = refl
  same_events old new (entry ∷ entries) a = rw (a.0, same_events old new entries a.1) refl

  still_held : (old new : List (Option Load)) (entries : List (Key × ℕ)) → AllByRecursion (λ entry. load_at new entry.1 ≡ load_at old entry.1) entries →
      AllByRecursion (IsHeld old) entries → AllByRecursion (IsHeld new) entries
  still_held old new [] a h = tt
  still_held old new (entry ∷ entries) a h = (rw a.0 h.0, still_held old new entries a.1 h.1)

  -- no entry has a place at which nothing lies
  elsewhere : (slots : List (Option Load)) (place : ℕ) (entries : List (Key × ℕ)) → load_at slots place ≡ None → AllByRecursion (IsHeld slots) entries →
      AllByRecursion (λ entry. entry.1 ≢ place) entries
  elsewhere slots place entries vacant h =
      all-weaken (IsHeld slots) (λ entry. entry.1 ≢ place)
      (λ entry held same. let none : load_at slots entry.1 ≡ None = rw same vacant in
      let d : false ≡ true = ap is_some (sym none) ∙ held in cc) entries h

  -- the other places keep their loads
  same_elsewhere : (old new : List (Option Load)) (place : ℕ) (entries : List (Key × ℕ)) →
      ((other : ℕ) → other ≢ place → load_at new other ≡ load_at old other) → AllByRecursion (λ entry. entry.1 ≢ place) entries →
      AllByRecursion (λ entry. load_at new entry.1 ≡ load_at old entry.1) entries
  same_elsewhere old new place entries others away =
      all-weaken (λ entry. entry.1 ≢ place) (λ entry. load_at new entry.1 ≡ load_at old entry.1) (λ entry ne. others entry.1 ne) entries away

  pub holds-pushed : (old new : List (Option Load)) (key : Key) (place : ℕ) (load : Load) (entries : List (Key × ℕ)) → HoldsLoads old entries →
      load_at old place ≡ None → load_at new place ≡ Some load → ((other : ℕ) → other ≢ place → load_at new other ≡ load_at old other) →
      HoldsLoads new (insert_by key_of (key, place) entries)
  holds-pushed old new key place load entries h vacant is others =
      let away = elsewhere old place entries vacant h.held in
      let same = same_elsewhere old new place entries others away in
      record {
        held = all-insert key_of (IsHeld new) (key, place) entries (ap is_some is) (still_held old new entries same h.held);
        apart = distinct-insert key place entries away h.apart;
      }

  pub events-pushed : (old new : List (Option Load)) (key : Key) (place : ℕ) (load : Load) (entries : List (Key × ℕ)) → HoldsLoads old entries →
      load_at old place ≡ None → load_at new place ≡ Some load → ((other : ℕ) → other ≢ place → load_at new other ≡ load_at old other) →
      events_at new (insert_by key_of (key, place) entries) ≡ insert_by key_of (key, load) (events_at old entries)
  events-pushed old new key place load entries h vacant is others =
      let same = same_elsewhere old new place entries others (elsewhere old place entries vacant h.held) in
      events-insert new (key, place) load entries is (still_held old new entries same h.held)
      ∙ ap (insert_by key_of (key, load)) (same_events old new entries same)

  -- ---- an event less

  pub holds-popped : (old new : List (Option Load)) (key : Key) (place : ℕ) (entries : List (Key × ℕ)) → HoldsLoads old ((key, place) ∷ entries) →
      ((other : ℕ) → other ≢ place → load_at new other ≡ load_at old other) → HoldsLoads new entries
  unfolding IsDistinct
  holds-popped old new key place entries h others =
      let same = same_elsewhere old new place entries others (other_places place entries h.apart.0) in
      record { held = still_held old new entries same h.held.1; apart = h.apart.1 }

  pub events-popped : (old new : List (Option Load)) (key : Key) (place : ℕ) (load : Load) (entries : List (Key × ℕ)) → HoldsLoads old ((key, place) ∷ entries) →
      load_at old place ≡ Some load → ((other : ℕ) → other ≢ place → load_at new other ≡ load_at old other) →
      events_at old ((key, place) ∷ entries) ≡ (key, load) ∷ events_at new entries
  unfolding IsDistinct
  events-popped old new key place load entries h is others =
      let same = same_elsewhere old new place entries others (other_places place entries h.apart.0) in
      events-cons old (key, place) load entries is ∙ ap (λ l. (key, load) ∷ l) (sym (same_events old new entries same))
