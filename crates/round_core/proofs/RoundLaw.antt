-- A run in rounds ends as the plain run does.
use Rattle.std.proofs.Common.{◌≡◌, ℕ, ◌<◌, ◌≤◌, zero, suc, length, Bool, true, false, List, [], ◌∷◌, ◌++◌, refl, sym, ap, ◌∙◌, subst, arith, inl, inr, ◌⊎◌, Option, Some, None, filter, append_assoc}
use Rattle.std.proofs.lemmas.Bool.{cases_Bool}
use Rattle.std.proofs.lemmas.Bool.Decides.{nat_tests}
use Rattle.std.proofs.lemmas.List.{append-nil}
use Rattle.std.specs.List.{AllByRecursion}
use Rattle.sim_base.specs.declared.key.Key.{Key}
use Rattle.sim_base.specs.KeyOrder.{before, IsRising}
use Rattle.round_core.specs.World.{Event, Firing, Limit, Rules, World, Ready, reaction, first, next, after, after_next, fire, Rests, in_order, IsPast}
use Rattle.round_core.specs.Rounds.{below, group_firings, IsFull, plain_firings, IsPlainRun, Ending, Limited, ending_at, PlainEnds, Cut, IsAllowed, IsRound, RunsInRounds, Ends, Stops, Goes_on}
use Rattle.round_core.specs.Laws.{Health, IsSound, IsLawful, KeepsLans, IsClosed, BeginsAt}
use Rattle.sim_base.proofs.KeyLaws.{before-time}
use Rattle.round_core.proofs.ListLaws.{all-map, first-passes}
use Rattle.round_core.proofs.Plain.{first-head, first-narrow, next-none, fire-same, plain-idle, stuck-refused, refused-next, first-of_head}
use Rattle.round_core.proofs.Window.{below-time, fire-sound, plain-sound, plain-past, plain-rests, full-is_plain, full-limited}

pub time-below : (end : ℕ) (k : Key) → k.time.0 < end → below end k ≡ true
time-below end k h = grind (arith, nat_tests)

not-below : (end : ℕ) (k : Key) → below end k ≡ false → end ≤ k.time.0
not-below end k h = grind (arith, nat_tests)

-- where no event is below an end, all are above it
pub all-above : {Load : Type 0} (end : ℕ) (l : List (Event Load)) → first (below end) l ≡ None → AllByRecursion (λ e. end ≤ e.key.time.0) l
unfolding first
all-above end [] none = tt
all-above end (y ∷ ys) none = elim (cases_Bool (below end y.key)) [
  | inl t ↦ absurd (let d : Some y ≡ None = rw t at none in cc)
  | inr f ↦ (not-below end y.key f, all-above end ys (rw f at none))
]

module _ {Node Lan Load Text : Type 0} (rules : Rules Node Lan Load Text) where
  -- a world at rest stays as it is, so two plain runs end alike
  pub plain-meet : (stop n m : ℕ) (w : World Node Lan Load Text) → Rests rules (below stop) (plain_firings rules stop n w) →
      Rests rules (below stop) (plain_firings rules stop m w) → plain_firings rules stop n w ≡ plain_firings rules stop m w
  unfolding plain_firings
  plain-meet stop zero zero w a b = refl
  plain-meet stop zero (suc m) w a b = sym (plain-idle rules stop (suc m) w a)
  plain-meet stop (suc n) zero w a b = plain-idle rules stop (suc n) w b
  plain-meet stop (suc n) (suc m) w a b = plain-meet stop n m (fire rules (below stop) w) a b

  -- firings after firings
  pub plain-more : (stop n m : ℕ) (w : World Node Lan Load Text) →
      (k : ℕ) × (plain_firings rules stop k w ≡ plain_firings rules stop m (plain_firings rules stop n w))
  unfolding plain_firings
  plain-more stop zero m w = (m, refl)
  plain-more stop (suc n) m w = let rest = plain-more stop n m (fire rules (below stop) w) in (suc rest.0, rest.1)

  after-fired : (test : Key → Bool) (w : World Node Lan Load Text) → (new : List (Firing Text)) × ((fire rules test w).fired ≡ w.fired ++ new)
  unfolding fire after
  after-fired test w = go (next rules test w)
    where
      go : (o : Option (Ready Node Lan Load Text)) → (new : List (Firing Text)) × ((after_next rules test w o).fired ≡ w.fired ++ new)
      go None = ([], sym (append-nil w.fired))
      go (Some r) = (record { key = r.event.key; texts = r.effect.texts } ∷ [], refl)

  -- what has been fired stays
  pub plain-prefix : (stop n : ℕ) (w : World Node Lan Load Text) →
      (new : List (Firing Text)) × ((plain_firings rules stop n w).fired ≡ w.fired ++ new)
  unfolding plain_firings
  plain-prefix stop zero w = ([], sym (append-nil w.fired))
  plain-prefix stop (suc n) w =
      let one = after-fired (below stop) w in
      let rest = plain-prefix stop n (fire rules (below stop) w) in
      (one.0 ++ rest.0, rest.1 ∙ ap (λ l. l ++ rest.0) one.1 ∙ append_assoc w.fired one.0 rest.0)

pub none-some : {A B : Type 0} (o : Option A) (x : A) → o ≡ None → o ≡ Some x → B
none-some o x n s = absurd (let d : None ≡ Some x = sym n ∙ s in cc)

pub some-same : {A : Type 0} (o : Option A) (x y : A) → o ≡ Some x → o ≡ Some y → x ≡ y
some-same o x y a b = let d : Some x ≡ Some y = sym a ∙ b in cc

-- the first below an end is the first below a later one
first-wider : {Load : Type 0} (end stop : ℕ) (l : List (Event Load)) (e : Event Load) → end ≤ stop → IsRising (λ x. x.key) l →
    first (below end) l ≡ Some e → first (below stop) l ≡ Some e
first-wider end stop l e le rising is =
    let h = first-head end l e rising is in
    let low = below-time end e.key (first-passes (below end) l e is) in
    ap (first (below stop)) h.1 ∙ first-of_head (below stop) e h.0 (time-below stop e.key (omega arith))

module _ {Node Lan Load Text : Type 0} (rules : Rules Node Lan Load Text) (ok : Health Node Lan Load) (lawful : IsLawful rules ok) where
  fire-wider : (end stop : ℕ) (w : World Node Lan Load Text) (e : Event Load) → end ≤ stop → IsSound rules ok w →
      first (below end) w.pending ≡ Some e → fire rules (below end) w ≡ fire rules (below stop) w
  fire-wider end stop w e le sound is =
      let wide = first-wider end stop w.pending e le sound.rising is in
      let narrow = first-narrow (below stop) (below end) (λ k t. let low = below-time end k t in time-below stop k (omega arith)) w.pending e wide
      (first-passes (below end) w.pending e is) in
      fire-same rules (below end) (below stop) w (is ∙ sym wide) narrow.1

  -- the plain firings below an end are plain firings below a later one
  pub plain-wider : (end stop n : ℕ) (w : World Node Lan Load Text) → end ≤ stop → IsSound rules ok w →
      (m : ℕ) × (plain_firings rules stop m w ≡ plain_firings rules end n w)
  unfolding plain_firings
  plain-wider end stop zero w le sound = (zero, refl)
  plain-wider end stop (suc n) w le sound =
      go (first (below end) w.pending) refl (plain-wider end stop n (fire rules (below end) w) le (fire-sound rules ok lawful (below end) w sound))
    where
      go : (o : Option (Event Load)) → first (below end) w.pending ≡ o →
          ((m : ℕ) × (plain_firings rules stop m (fire rules (below end) w) ≡ plain_firings rules end n (fire rules (below end) w))) →
          (m : ℕ) × (plain_firings rules stop m w ≡ plain_firings rules end n (fire rules (below end) w))
      go None is rest = (zero, sym (plain-idle rules end (suc n) w (next-none rules (below end) w is)))
      go (Some e) is rest = (suc rest.0, ap (plain_firings rules stop rest.0) (sym (fire-wider end stop w e le sound is)) ∙ rest.1)

  -- a window that begins at the least pending time
  pub begins-fits : (stop : ℕ) (w : World Node Lan Load Text) (e : Event Load) → IsSound rules ok w → first (below stop) w.pending ≡ Some e →
      BeginsAt rules ok e.key.time.0 w
  begins-fits stop w e sound is =
      let h = first-head stop w.pending e sound.rising is in
      let P : List (Event Load) → Type 0 = λ l. IsRising (λ x. x.key) l in
      let Q : List (Event Load) → Type 0 = λ l. AllByRecursion (λ x. e.key.time.0 ≤ x.key.time.0) l in
      record {
        sound = sound;
        above = subst Q (sym h.1) (omega arith, all-map _ _ (λ x up. before-time e.key x.key up) h.0 (subst P h.1 sound.rising).0);
      }

  -- a round that met a limit at the event e, beside the plain firings in its window
  pub record MeetsLimit (end : ℕ) (v mid : World Node Lan Load Text) (e : Event Load) : Type 0 where
    pub plain_first : first (below end) v.pending ≡ Some e
    pub first_left : first (below end) mid.pending ≡ Some e
    pub refused : reaction rules v e ≡ Limit
    pub before_it : filter (λ f. before f.key e.key) mid.fired ≡ v.fired

  -- how the plain run ends where a round met a limit
  pub stops : (stop : ℕ) (w mid : World Node Lan Load Text) (groups : List ℕ) (end : ℕ) (e : Event Load) → IsSound rules ok w → end ≤ stop →
      MeetsLimit end (plain_firings rules end (suc (length groups)) w) mid e →
      PlainEnds rules stop w (Limited e.key (filter (λ f. before f.key e.key) mid.fired))
  stops stop w mid groups end e sound le limit =
      let v = plain_firings rules end (suc (length groups)) w in
      let wider = plain-wider end stop (suc (length groups)) w le sound in
      let least = first-wider end stop v.pending e le (plain-sound rules ok lawful end (suc (length groups)) w sound).rising limit.plain_first in
      record {
        final = v;
        run = record { steps = wider.0; reached = wider.1; rests = refused-next rules (below stop) v e least limit.refused };
        ends = ap (ending_at v) least ∙ ap (Limited e.key) (sym limit.before_it);
      }

  -- the plain run goes on from where a round ends
  goes_on : (stop : ℕ) (w mid : World Node Lan Load Text) (n end : ℕ) (ending : Ending Node Lan Load Text) → IsSound rules ok w → end ≤ stop →
      mid ≡ plain_firings rules end n w → PlainEnds rules stop mid ending → PlainEnds rules stop w ending
  goes_on stop w mid n end ending sound le same rest =
      let wider = plain-wider end stop n w le sound in
      let more = plain-more rules stop wider.0 rest.run.steps w in
      record {
        final = rest.final;
        run = record {
          steps = more.0;
          reached = more.1 ∙ ap (plain_firings rules stop rest.run.steps) (wider.1 ∙ sym same) ∙ rest.run.reached;
          rests = rest.run.rests;
        };
        ends = rest.ends;
      }

  -- how a full list leaves a window, beside the plain firings in it
  pub window-turn : (group_of : ℕ → ℕ) (keeps : KeepsLans rules group_of) (from end : ℕ) (closed : IsClosed rules ok group_of from end)
      (groups : List ℕ) (w : World Node Lan Load Text) → BeginsAt rules ok from w → IsPast w → IsFull rules group_of end groups w →
      ((in_order (group_firings rules group_of end groups w) ≡ plain_firings rules end (suc (length groups)) w)
      × (first (below end) (group_firings rules group_of end groups w).pending ≡ None))
      ⊎ ((e : Event Load) × MeetsLimit end (plain_firings rules end (suc (length groups)) w)
      (in_order (group_firings rules group_of end groups w)) e)
  window-turn group_of keeps from end closed groups w fits past full = go (first (below end) v.pending) refl
    where
      v : World Node Lan Load Text
      v = plain_firings rules end (suc (length groups)) w

      mid : World Node Lan Load Text
      mid = in_order (group_firings rules group_of end groups w)

      go : (o : Option (Event Load)) → first (below end) v.pending ≡ o →
          ((mid ≡ v) × (first (below end) mid.pending ≡ None)) ⊎ ((e : Event Load) × MeetsLimit end v mid e)
      go None is =
          let same : mid ≡ v = full-is_plain rules ok lawful group_of keeps from end closed groups (suc (length groups)) w fits past full is in
          inl (same, ap (λ (x : World Node Lan Load Text). first (below end) x.pending) same ∙ is)
      go (Some e) is =
          let stuck = full-limited rules ok lawful group_of keeps from end closed groups w e fits past full is in
          let rests = plain-rests rules ok lawful group_of keeps from end closed groups w fits past full in
          inr (
            e,
            record {
              plain_first = is;
              first_left = ap (first (below end)) stuck.head ∙ first-of_head (below end) e stuck.rest (first-passes (below end) v.pending e is);
              refused = stuck-refused rules (below end) v e is rests;
              before_it = stuck.before_it;
            },
          )

  module _ (group_of : ℕ → ℕ) (keeps : KeepsLans rules group_of) (from end : ℕ) (closed : IsClosed rules ok group_of from end) where
    -- where a full list leaves no event below the end, it leaves what the plain run to the end leaves
    pub window-done : (groups : List ℕ) (w : World Node Lan Load Text) → BeginsAt rules ok from w → IsPast w →
        IsFull rules group_of end groups w → first (below end) (group_firings rules group_of end groups w).pending ≡ None →
        IsPlainRun rules end w (in_order (group_firings rules group_of end groups w))
    window-done groups w fits past full none = elim (window-turn group_of keeps from end closed groups w fits past full) [
      | inl plain ↦ record {
        steps = suc (length groups);
        reached = sym plain.0;
        rests = next-none rules (below end) (in_order (group_firings rules group_of end groups w)) none;
      }
      | inr limit ↦ none-some _ limit.0 none limit.1.first_left
    ]

    -- where it leaves an event below the end, the plain run meets its limit there, behind the firings before it
    pub window-limited : (groups : List ℕ) (w : World Node Lan Load Text) (e : Event Load) → BeginsAt rules ok from w → IsPast w →
        IsFull rules group_of end groups w → first (below end) (group_firings rules group_of end groups w).pending ≡ Some e →
        PlainEnds rules end w (Limited e.key (filter (λ f. before f.key e.key) (in_order (group_firings rules group_of end groups w)).fired))
    window-limited groups w e fits past full left = elim (window-turn group_of keeps from end closed groups w fits past full) [
      | inl plain ↦ none-some _ e plain.1 left
      | inr limit ↦
          let mid = in_order (group_firings rules group_of end groups w) in
          let P : Event Load → Type 0 = λ x. PlainEnds rules end w (Limited x.key (filter (λ f. before f.key x.key) mid.fired)) in
          subst P (some-same _ limit.0 e limit.1.first_left left) (stops end w mid groups end limit.0 fits.sound (omega arith) limit.1)
    ]

  module _ (stop : ℕ) (cut : Cut) (allowed_cut : IsAllowed rules ok stop cut) where
    least-low : (w : World Node Lan Load Text) (e : Event Load) → first (below stop) w.pending ≡ Some e → e.key.time.0 < stop
    least-low w e is = below-time stop e.key (first-passes (below stop) w.pending e is)

    -- how a round ends, beside the plain firings in its window
    round-turn : (w mid : World Node Lan Load Text) (groups : List ℕ) (end : ℕ) → IsSound rules ok w → IsPast w →
        IsRound rules stop cut w groups end mid →
        ((mid ≡ plain_firings rules end (suc (length groups)) w) × (first (below end) mid.pending ≡ None))
        ⊎ ((e : Event Load) × MeetsLimit end (plain_firings rules end (suc (length groups)) w) mid e)
    round-turn w mid groups end sound past round =
        let low = least-low w round.least round.begins in
        let P : ℕ → Type 0 = λ x. IsClosed rules ok cut.group_of round.least.key.time.0 x in
        let closed = subst P round.ends (allowed_cut.closed round.least.key.time.0 low) in
        let v = plain_firings rules end (suc (length groups)) w in
        let Q : World Node Lan Load Text → Type 0 = λ x. ((x ≡ v) × (first (below end) x.pending ≡ None)) ⊎ ((e : Event Load) × MeetsLimit end v x e) in
        subst Q round.leaves (window-turn cut.group_of allowed_cut.lans round.least.key.time.0 end closed groups w
        (begins-fits stop w round.least sound round.begins) past round.full)

    end-within : (w mid : World Node Lan Load Text) (groups : List ℕ) (end : ℕ) → IsRound rules stop cut w groups end mid → end ≤ stop
    end-within w mid groups end round =
        let le = allowed_cut.within round.least.key.time.0 (least-low w round.least round.begins) in let e = round.ends in omega arith

    -- what a round that leaves nothing below its end keeps
    pub round-keeps : (w mid : World Node Lan Load Text) (groups : List ℕ) (end : ℕ) → IsSound rules ok w → IsPast w →
        IsRound rules stop cut w groups end mid → first (below end) mid.pending ≡ None →
        (mid ≡ plain_firings rules end (suc (length groups)) w) × IsSound rules ok mid × IsPast mid
    round-keeps w mid groups end sound past round none = go (round-turn w mid groups end sound past round)
      where
        go : (((mid ≡ plain_firings rules end (suc (length groups)) w) × (first (below end) mid.pending ≡ None))
            ⊎ ((e : Event Load) × MeetsLimit end (plain_firings rules end (suc (length groups)) w) mid e)) →
            (mid ≡ plain_firings rules end (suc (length groups)) w) × IsSound rules ok mid × IsPast mid
        go (inl plain) =
            let P : World Node Lan Load Text → Type 0 = λ x. IsSound rules ok x in
            let Q : World Node Lan Load Text → Type 0 = λ x. IsPast x in (
              plain.0,
              subst P (sym plain.0) (plain-sound rules ok lawful end (suc (length groups)) w sound),
              subst Q (sym plain.0) (plain-past rules ok lawful end (suc (length groups)) w sound past),
            )
        go (inr limit) = none-some _ limit.0 none limit.1.first_left

    -- a run in rounds ends as the plain run does
    pub rounds-end : (w : World Node Lan Load Text) (rounds : List (List ℕ)) (ending : Ending Node Lan Load Text) →
        IsSound rules ok w → IsPast w → RunsInRounds rules stop cut w rounds ending → PlainEnds rules stop w ending
    unfolding plain_firings
    rounds-end w rounds ending sound past (Ends none) = record {
      final = w;
      run = record { steps = zero; reached = refl; rests = next-none rules (below stop) w none };
      ends = ap (ending_at w) none;
    }
    rounds-end w rounds ending sound past (Stops {groups = groups} end mid e round left) =
        elim (round-turn w mid groups end sound past round) [
          | inl plain ↦ none-some _ e plain.1 left
          | inr limit ↦
              let P : Event Load → Type 0 = λ x. PlainEnds rules stop w (Limited x.key (filter (λ f. before f.key x.key) mid.fired)) in
              subst P (some-same _ limit.0 e limit.1.first_left left)
              (stops stop w mid groups end limit.0 sound (end-within w mid groups end round) limit.1)
        ]
    rounds-end w rounds ending sound past (Goes_on {groups = groups} {more = more} end mid round none run) =
        let kept = round-keeps w mid groups end sound past round none in
        goes_on stop w mid (suc (length groups)) end ending sound (end-within w mid groups end round) kept.0
        (rounds-end mid more ending kept.1 kept.2 run)
