-- One window: the plain run goes through it as every full list of groups does.
use Rattle.std.proofs.Common.{◌≡◌, ℕ, ◌<◌, ◌≤◌, ◌+◌, zero, suc, length, Bool, true, false, List, [], ◌∷◌, ◌++◌, refl, sym, ap, ◌∙◌, subst, arith, inl, inr, ◌⊎◌, Option, Some, None, length-append, filter}
use Rattle.std.proofs.lemmas.Bool.Decides.{nat_tests}
use Rattle.std.specs.List.{AllByRecursion}
use Rattle.sim_base.specs.declared.key.Key.{Key}
use Rattle.sim_base.specs.KeyOrder.{before, IsRising}
use Rattle.round_core.specs.Order.{insert_each}
use Rattle.round_core.specs.World.{Event, Firing, Limit, Rules, World, Ready, reaction, scheduled, first, without_first, next, after, after_next, fire, Rests, in_order, IsPast}
use Rattle.round_core.specs.Rounds.{below, in_group, group_firings, IsFull, plain_firings}
use Rattle.round_core.specs.Laws.{Health, IsSound, IsLawful, KeepsLans, IsClosed, BeginsAt}
use Rattle.sim_base.proofs.KeyLaws.{before-not_back, time-before, before-trans}
use Rattle.round_core.proofs.ListLaws.{all-map, all-insert_each, first-holds, first-passes, all-snoc, rising-snoc, in_key_order-rising, length-insert, insert_each-behind, without-behind, first-behind, filter-insert, filter-all}
use Rattle.round_core.proofs.Settling.{next-found, settled, settled_next, settle}
use Rattle.round_core.proofs.Commute.{settled-sound, ready-owed, all-scheduled, settle-fits, settled-fits, reaction-elsewhere, ready-group, settle_all, IsQuiet, settle_all-quiet, settle_all-commute, in_order-firings, full-quiet}
use Rattle.round_core.proofs.Plain.{first-head, first-none, next-none, fire-idle, fire-moves, plain-groups, plain-idle, stuck-refused, refused-next, first-of_head}

in_group-below : (group_of : ℕ → ℕ) (end g : ℕ) (k : Key) → in_group group_of end g k ≡ true → below end k ≡ true
in_group-below group_of end g k t = grind (arith, nat_tests)

-- what stays behind the first event of a list in the order of keys comes after it
pub first-least : {Load : Type 0} (end : ℕ) (l : List (Event Load)) (e : Event Load) → IsRising (λ x. x.key) l →
    first (below end) l ≡ Some e → AllByRecursion (λ y. before e.key y.key ≡ true) (without_first (below end) l)
unfolding without_first
first-least {Load} end l e rising is =
    let h = first-head end l e rising is in
    let P : List (Event Load) → Type 0 = λ x. IsRising (λ y. y.key) x in
    let Q : List (Event Load) → Type 0 = λ x. AllByRecursion (λ y. before e.key y.key ≡ true) (without_first (below end) x) in
    let passes = first-passes (below end) l e is in
    subst Q (sym h.1) (rw passes (subst P h.1 rising).0)

pub below-time : (end : ℕ) (k : Key) → below end k ≡ true → k.time.0 < end
below-time end k t = grind (arith, nat_tests)

module _ {Node Lan Load Text : Type 0} (rules : Rules Node Lan Load Text) (ok : Health Node Lan Load) (lawful : IsLawful rules ok) where
  after-sound : (test : Key → Bool) (w : World Node Lan Load Text) (r : Ready Node Lan Load Text) → IsSound rules ok w →
      next rules test w ≡ Some r → IsSound rules ok (after rules test w r)
  unfolding settled
  after-sound test w r sound is = let s = settled-sound rules ok lawful test w r sound is in
      record { health = record { nodes = s.health.nodes; lans = s.health.lans; pending = s.health.pending }; rising = s.rising; counted = s.counted }

  pub fire-sound : (test : Key → Bool) (w : World Node Lan Load Text) → IsSound rules ok w → IsSound rules ok (fire rules test w)
  unfolding fire
  fire-sound test w sound = go (next rules test w) refl
    where
      go : (o : Option (Ready Node Lan Load Text)) → next rules test w ≡ o → IsSound rules ok (after_next rules test w o)
      go None is = sound
      go (Some r) is = after-sound test w r sound is

  after-past : (end : ℕ) (w : World Node Lan Load Text) (r : Ready Node Lan Load Text) → IsSound rules ok w → IsPast w →
      next rules (below end) w ≡ Some r → IsPast (after rules (below end) w r)
  unfolding after
  after-past end w r sound past is =
      let found = next-found rules (below end) w r is in
      let owed = ready-owed rules ok lawful (below end) w r sound.health is in
      let f : Firing Text = record { key = r.event.key; texts = r.effect.texts } in
      let gone = first-holds (below end) (λ e. AllByRecursion (λ x. before x.key e.key ≡ true) w.fired) w.pending r.event past.behind found.event in
      let later : (k : Key) → before r.event.key k ≡ true → AllByRecursion (λ x. before x.key k ≡ true) (w.fired ++ f ∷ []) =
      λ k up. all-snoc _ w.fired f (all-map _ _ (λ x b. before-trans x.key r.event.key k b up) w.fired gone) up in
      record {
        rising = rising-snoc (λ x. x.key) w.fired f past.rising gone;
        behind = all-insert_each _ (λ e. AllByRecursion (λ x. before x.key e.key ≡ true) (w.fired ++ f ∷ [])) _ _
            (all-map _ _ (λ e up. later e.key (time-before r.event.key e.key up)) _
            (all-scheduled (λ time target. r.event.key.time.0 < time) _ _ _ owed.later))
            (all-map _ _ (λ e up. later e.key up) _ (first-least end w.pending r.event sound.rising found.event));
      }

  pub fire-past : (end : ℕ) (w : World Node Lan Load Text) → IsSound rules ok w → IsPast w → IsPast (fire rules (below end) w)
  unfolding fire
  fire-past end w sound past = go (next rules (below end) w) refl
    where
      go : (o : Option (Ready Node Lan Load Text)) → next rules (below end) w ≡ o → IsPast (after_next rules (below end) w o)
      go None is = past
      go (Some r) is = after-past end w r sound past is

  pub plain-sound : (end n : ℕ) (w : World Node Lan Load Text) → IsSound rules ok w → IsSound rules ok (plain_firings rules end n w)
  unfolding plain_firings
  plain-sound end zero w sound = sound
  plain-sound end (suc n) w sound = plain-sound end n (fire rules (below end) w) (fire-sound (below end) w sound)

  pub plain-past : (end n : ℕ) (w : World Node Lan Load Text) → IsSound rules ok w → IsPast w → IsPast (plain_firings rules end n w)
  unfolding plain_firings
  plain-past end zero w sound past = past
  plain-past end (suc n) w sound past = plain-past end n (fire rules (below end) w) (fire-sound (below end) w sound) (fire-past end w sound past)

  pub fire-fits : (from : ℕ) (test : Key → Bool) (w : World Node Lan Load Text) → BeginsAt rules ok from w → BeginsAt rules ok from (fire rules test w)
  unfolding fire settled
  fire-fits from test w fits = go (next rules test w) refl
    where
      go : (o : Option (Ready Node Lan Load Text)) → next rules test w ≡ o → BeginsAt rules ok from (after_next rules test w o)
      go None is = fits
      go (Some r) is = record { sound = after-sound test w r fits.sound is; above = (settled-fits rules ok lawful from test w r fits is).above }

  pub plain-fits : (from end n : ℕ) (w : World Node Lan Load Text) → BeginsAt rules ok from w → BeginsAt rules ok from (plain_firings rules end n w)
  unfolding plain_firings
  plain-fits from end zero w fits = fits
  plain-fits from end (suc n) w fits = plain-fits from end n (fire rules (below end) w) (fire-fits from (below end) w fits)

  pub in_order-past : (w : World Node Lan Load Text) → IsPast w → in_order w ≡ w
  in_order-past w past = let e = in_key_order-rising (λ (f : Firing Text). f.key) w.fired past.rising in λ i. record w { fired = e i }

  after-length : (test : Key → Bool) (w : World Node Lan Load Text) (r : Ready Node Lan Load Text) → next rules test w ≡ Some r →
      length (fire rules test w).fired ≡ suc (length w.fired)
  unfolding after
  after-length test w r is = rw (fire-moves rules test w r is)
      (omega (arith, length-append w.fired (record { key = r.event.key; texts = r.effect.texts } ∷ [])))

  -- plain firings come to rest, or each of them fires an event
  plain-moves : (end n : ℕ) (w : World Node Lan Load Text) →
      Rests rules (below end) (plain_firings rules end n w) ⊎ (length (plain_firings rules end n w).fired ≡ length w.fired + n)
  unfolding plain_firings
  plain-moves end zero w = inr (omega arith)
  plain-moves end (suc n) w = go (next rules (below end) w) refl (plain-moves end n (fire rules (below end) w))
    where
      go : (o : Option (Ready Node Lan Load Text)) → next rules (below end) w ≡ o →
          (Rests rules (below end) (plain_firings rules end n (fire rules (below end) w)) ⊎
          (length (plain_firings rules end n (fire rules (below end) w)).fired ≡ length (fire rules (below end) w).fired + n)) →
          Rests rules (below end) (plain_firings rules end n (fire rules (below end) w)) ⊎
          (length (plain_firings rules end n (fire rules (below end) w)).fired ≡ length w.fired + suc n)
      go None is h = inl (ap (λ x. next rules (below end) (plain_firings rules end n x)) (fire-idle rules (below end) w is)
          ∙ ap (next rules (below end)) (plain-idle rules end n w is) ∙ is)
      go (Some r) is (inl rests) = inl rests
      go (Some r) is (inr grown) = inr (let one = after-length (below end) w r is in omega arith)

  settle-grows : (test : Key → Bool) (w : World Node Lan Load Text) →
      (length w.fired ≤ length (settle rules test w).fired) × (length (settle rules test w).fired ≤ suc (length w.fired))
  unfolding settle settled
  settle-grows test w = elim (next rules test w) as (λ o. (length w.fired ≤ length (settled_next rules test w o).fired) ×
      (length (settled_next rules test w o).fired ≤ suc (length w.fired))) [
        | None ↦ (omega arith, omega arith)
        | Some r ↦ let e = length-insert (λ (f : Firing Text). f.key) (record { key = r.event.key; texts = r.effect.texts }) w.fired in
            (omega arith, omega arith)
      ]

  settle_all-grows : (group_of : ℕ → ℕ) (end : ℕ) (gs : List ℕ) (w : World Node Lan Load Text) →
      (length w.fired ≤ length (settle_all rules group_of end gs w).fired) ×
      (length (settle_all rules group_of end gs w).fired ≤ length w.fired + length gs)
  unfolding settle_all
  settle_all-grows group_of end [] w = (omega arith, omega arith)
  settle_all-grows group_of end (g ∷ gs) w =
      let one = settle-grows (in_group group_of end g) w in
      let rest = settle_all-grows group_of end gs (settle rules (in_group group_of end g) w) in
      (omega arith, omega arith)

  module _ (group_of : ℕ → ℕ) (keeps : KeepsLans rules group_of) (from end : ℕ) (closed : IsClosed rules ok group_of from end) where
    -- what a full list of groups leaves is what it leaves of the world after any number of plain firings
    pub full-after_plain : (gs : List ℕ) (n : ℕ) (w : World Node Lan Load Text) → BeginsAt rules ok from w → IsPast w →
        IsFull rules group_of end gs w →
        in_order (group_firings rules group_of end gs w) ≡ settle_all rules group_of end gs (plain_firings rules end n w)
    full-after_plain gs n w fits past full =
        let plain = plain-groups rules group_of end n w in
        let ps = plain.0 in
        let here = in_order-past w past in
        let there = in_order-past (plain_firings rules end n w) (plain-past end n w fits.sound past) in
        let by_groups : settle_all rules group_of end ps w ≡ plain_firings rules end n w =
        sym (in_order-firings rules ok lawful group_of keeps from end closed ps w ∙ ap (settle_all rules group_of end ps) here)
        ∙ ap in_order plain.1 ∙ there in
        let to_w : in_order (group_firings rules group_of end gs w) ≡ settle_all rules group_of end gs w =
        in_order-firings rules ok lawful group_of keeps from end closed gs w ∙ ap (settle_all rules group_of end gs) here in
        let quiet : IsQuiet rules group_of end (settle_all rules group_of end gs w) =
        λ g. ap (λ x. next rules (in_group group_of end g) (settle_all rules group_of end gs x)) (sym here)
        ∙ full-quiet rules ok lawful group_of keeps from end closed gs w full g in
        to_w
        ∙ sym (settle_all-quiet rules ok lawful group_of keeps from end closed ps (settle_all rules group_of end gs w) quiet)
        ∙ settle_all-commute rules ok lawful group_of keeps from end closed ps gs w fits
        ∙ ap (settle_all rules group_of end gs) by_groups

    -- as many plain firings as a full list has entries, and one more, come to rest
    pub plain-rests : (gs : List ℕ) (w : World Node Lan Load Text) → BeginsAt rules ok from w → IsPast w →
        IsFull rules group_of end gs w → Rests rules (below end) (plain_firings rules end (suc (length gs)) w)
    plain-rests gs w fits past full = elim (plain-moves end (suc (length gs)) w) [
      | inl rests ↦ rests
      | inr grown ↦
          let v = plain_firings rules end (suc (length gs)) w in
          let here = ap (settle_all rules group_of end gs) (in_order-past w past) in
          let e : settle_all rules group_of end gs w ≡ settle_all rules group_of end gs v =
          sym (in_order-firings rules ok lawful group_of keeps from end closed gs w ∙ here)
          ∙ full-after_plain gs (suc (length gs)) w fits past full in
          let l = ap (λ (x : World Node Lan Load Text). length x.fired) e in
          let low = settle_all-grows group_of end gs w in
          let high = settle_all-grows group_of end gs v in
          absurd (omega arith)
    ]

    nothing-quiet : (w : World Node Lan Load Text) → first (below end) w.pending ≡ None → IsQuiet rules group_of end w
    nothing-quiet w none g = next-none rules (in_group group_of end g) w
        (first-none (below end) (in_group group_of end g) (λ k t. in_group-below group_of end g k t) w.pending none)

    -- where nothing is left below the end, a full list leaves what the plain firings leave
    pub full-is_plain : (gs : List ℕ) (n : ℕ) (w : World Node Lan Load Text) → BeginsAt rules ok from w → IsPast w →
        IsFull rules group_of end gs w → first (below end) (plain_firings rules end n w).pending ≡ None →
        in_order (group_firings rules group_of end gs w) ≡ plain_firings rules end n w
    full-is_plain gs n w fits past full none =
        full-after_plain gs n w fits past full
        ∙ settle_all-quiet rules ok lawful group_of keeps from end closed gs (plain_firings rules end n w)
        (nothing-quiet (plain_firings rules end n w) none)

    -- the world is at rest at the event e, whose node may not go on, with these firings before it
    pub record IsStuck (e : Event Load) (done : List (Firing Text)) (w : World Node Lan Load Text) : Type 0 where
      pub rest : List (Event Load)
      pub head : w.pending ≡ e ∷ rest
      pub refused : reaction rules w e ≡ Limit
      pub before_it : filter (λ f. before f.key e.key) w.fired ≡ done

    -- where the plain firings come to rest with an event left below the end
    pub rests-stuck : (w : World Node Lan Load Text) (e : Event Load) → IsSound rules ok w → IsPast w →
        first (below end) w.pending ≡ Some e → Rests rules (below end) w → IsStuck e w.fired w
    rests-stuck w e sound past is rests = let h = first-head end w.pending e sound.rising is in record {
      rest = h.0;
      head = h.1;
      refused = stuck-refused rules (below end) w e is rests;
      before_it = filter-all (λ f. before f.key e.key) w.fired
          (first-holds (below end) (λ x. AllByRecursion (λ f. before f.key x.key ≡ true) w.fired) w.pending e past.behind is);
    }

    own-group : (g : ℕ) (k : Key) → g ≡ group_of k.node.0 → k.time.0 < end → in_group group_of end g k ≡ true
    own-group g k e l = grind (arith, nat_tests)

    other-group : (g : ℕ) (k : Key) → (g ≡ group_of k.node.0 → ⊥) → in_group group_of end g k ≡ false
    other-group g k ne = grind (arith, nat_tests)

    -- a firing of another group leaves it stuck
    stuck-moves : (e : Event Load) (done : List (Firing Text)) (g : ℕ) (w : World Node Lan Load Text) (r : Ready Node Lan Load Text) →
        e.key.time.0 < end → BeginsAt rules ok from w → (g ≡ group_of e.key.node.0 → ⊥) → next rules (in_group group_of end g) w ≡ Some r →
        IsStuck e done w → IsStuck e done (settled rules (in_group group_of end g) w r)
    unfolding settled after
    stuck-moves e done g w r low fits ne is stuck =
        let q = in_group group_of end g in
        let apart = other-group g e.key ne in
        let found = next-found rules q w r is in
        let owed = ready-owed rules ok lawful q w r fits.sound.health is in
        let P : List (Event Load) → Type 0 = λ l. IsRising (λ x. x.key) l in
        let rising = subst P stuck.head fits.sound.rising in
        let behind : before e.key r.event.key ≡ true = first-holds q (λ x. before e.key x.key ≡ true) stuck.rest r.event rising.0
        (sym (first-behind q e stuck.rest apart) ∙ ap (first q) (sym stuck.head) ∙ found.event) in
        let sends = scheduled r.event.key (rules.counter (w.nodes r.event.key.node.0)) r.effect.sends in
        let after_it : AllByRecursion (λ x. before x.key e.key ≡ false) sends =
        all-map _ _ (λ x up. before-not_back _ _ (before-trans _ _ _ behind (time-before r.event.key x.key up))) sends
        (all-scheduled (λ time target. r.event.key.time.0 < time) _ _ _ owed.later) in
        record {
          rest = insert_each (λ x. x.key) sends (without_first q stuck.rest);
          head = ap (λ l. insert_each (λ x. x.key) sends (without_first q l)) stuck.head
              ∙ ap (insert_each (λ x. x.key) sends) (without-behind q e stuck.rest apart)
              ∙ insert_each-behind (λ x. x.key) sends e (without_first q stuck.rest) after_it;
          refused = reaction-elsewhere rules ok lawful group_of keeps from end closed (group_of e.key.node.0) g w r (λ x. ne (sym x))
              (ready-group rules ok lawful group_of keeps from end closed g w r is) e refl ∙ stuck.refused;
          before_it = filter-insert (λ f. f.key) (λ f. before f.key e.key) (record { key = r.event.key; texts = r.effect.texts }) w.fired
              (before-not_back _ _ behind) ∙ stuck.before_it;
        }

    stuck-settle : (e : Event Load) (done : List (Firing Text)) (g : ℕ) (w : World Node Lan Load Text) →
        e.key.time.0 < end → BeginsAt rules ok from w → IsStuck e done w → IsStuck e done (settle rules (in_group group_of end g) w)
    unfolding settle
    stuck-settle e done g w low fits stuck = go (next rules (in_group group_of end g) w) refl
      where
        go : (o : Option (Ready Node Lan Load Text)) → next rules (in_group group_of end g) w ≡ o →
            IsStuck e done (settled_next rules (in_group group_of end g) w o)
        go None is = stuck
        go (Some r) is = stuck-moves e done g w r low fits (λ same.
            let none = refused-next rules (in_group group_of end g) w e
            (ap (first (in_group group_of end g)) stuck.head ∙ first-of_head (in_group group_of end g) e stuck.rest (own-group g e.key same low))
            stuck.refused in
            let both : None ≡ Some r = sym none ∙ is in cc) is stuck

    stuck-settle_all : (e : Event Load) (done : List (Firing Text)) (gs : List ℕ) (w : World Node Lan Load Text) →
        e.key.time.0 < end → BeginsAt rules ok from w → IsStuck e done w → IsStuck e done (settle_all rules group_of end gs w)
    unfolding settle_all
    stuck-settle_all e done [] w low fits stuck = stuck
    stuck-settle_all e done (g ∷ gs) w low fits stuck = stuck-settle_all e done gs (settle rules (in_group group_of end g) w) low
        (settle-fits rules ok lawful from (in_group group_of end g) w fits) (stuck-settle e done g w low fits stuck)

    -- where a full list leaves an event below the end, the plain firings come to rest at that event, and what the
    -- list fired before it is what they fired
    pub full-limited : (gs : List ℕ) (w : World Node Lan Load Text) (e : Event Load) → BeginsAt rules ok from w → IsPast w →
        IsFull rules group_of end gs w → first (below end) (plain_firings rules end (suc (length gs)) w).pending ≡ Some e →
        IsStuck e (plain_firings rules end (suc (length gs)) w).fired (in_order (group_firings rules group_of end gs w))
    full-limited gs w e fits past full is =
        let n = suc (length gs) in
        let v = plain_firings rules end n w in
        let P : World Node Lan Load Text → Type 0 = λ x. IsStuck e v.fired x in
        let low : e.key.time.0 < end = below-time end e.key (first-passes (below end) v.pending e is) in
        subst P (sym (full-after_plain gs n w fits past full))
        (stuck-settle_all e v.fired gs v low (plain-fits from end n w fits)
        (rests-stuck v e (plain-sound end n w fits.sound) (plain-past end n w fits.sound past) is (plain-rests gs w fits past full)))

module _ {Node Lan Load Text : Type 0} (rules : Rules Node Lan Load Text) (ok : Health Node Lan Load) (lawful : IsLawful rules ok) where
  -- firings of groups keep a world sound
  pub groups-sound : (group_of : ℕ → ℕ) (end : ℕ) (gs : List ℕ) (w : World Node Lan Load Text) → IsSound rules ok w →
      IsSound rules ok (group_firings rules group_of end gs w)
  unfolding group_firings
  groups-sound group_of end [] w sound = sound
  groups-sound group_of end (g ∷ gs) w sound = groups-sound group_of end gs (fire rules (in_group group_of end g) w)
      (fire-sound rules ok lawful (in_group group_of end g) w sound)

  -- another log doesn't matter
  pub log-sound : (log : List (Firing Text)) (w : World Node Lan Load Text) → IsSound rules ok w → IsSound rules ok (record w { fired = log })
  log-sound log w sound = record {
    health = record { nodes = sound.health.nodes; lans = sound.health.lans; pending = sound.health.pending };
    rising = sound.rising;
    counted = sound.counted;
  }
