-- There are full lists of groups, and runs in rounds.
use Rattle.std.proofs.Common.{◌≡◌, ℕ, ◌<◌, ◌≤◌, zero, suc, Bool, length, List, [], ◌∷◌, refl, sym, ap, ◌∙◌, subst, arith, inl, inr, ◌⊎◌, Option, Some, None, filter}
use Rattle.std.specs.List.{AllByRecursion}
use Rattle.sim_base.specs.declared.key.Key.{Key}
use Rattle.round_core.specs.Bound.{IsBounded, most_firings}
use Rattle.round_core.specs.Laws.{Health, IsSound, IsLawful}
use Rattle.sim_base.specs.KeyOrder.{before}
use Rattle.round_core.specs.Rounds.{below, in_group, group_firings, IsFull, plain_firings, Ending, Done, Limited, Cut, IsAllowed, IsRound, RunsInRounds, Ends, Stops, Goes_on}
use Rattle.round_core.specs.World.{Event, Rules, World, Ready, first, next, fire, in_order, IsPast}
use Rattle.round_core.proofs.ListLaws.{first-holds, first-passes}
use Rattle.round_core.proofs.Commute.{in_group-true}
use Rattle.round_core.proofs.Plain.{next-none, fire-idle, fire-moves, plain-idle}
use Rattle.round_core.proofs.Window.{fire-sound}
use Rattle.round_core.proofs.RoundLaw.{round-keeps, none-some}
use Rattle.round_core.proofs.Counts.{least-below}
use Rattle.round_core.proofs.Ending.{fire-spends}

module _ {Node Lan Load Text : Type 0} (rules : Rules Node Lan Load Text) (ok : Health Node Lan Load) (lawful : IsLawful rules ok)
    (count : ℕ) (room : Node → ℕ) (bounded : IsBounded rules ok count room) where
  abbrev left : World Node Lan Load Text → ℕ
  left w = most_firings count room w

  fire-less : (test : Key → Bool) (w : World Node Lan Load Text) (r : Ready Node Lan Load Text) → IsSound rules ok w →
      next rules test w ≡ Some r → suc (left (fire rules test w)) ≤ left w
  fire-less test w r sound is = let less = fire-spends rules ok lawful count room bounded test w r sound.health is in
      let same = ap left (fire-moves rules test w r is) in omega arith

  fire-le : (test : Key → Bool) (w : World Node Lan Load Text) → IsSound rules ok w → left (fire rules test w) ≤ left w
  fire-le test w sound = go (next rules test w) refl
    where
      go : (o : Option (Ready Node Lan Load Text)) → next rules test w ≡ o → left (fire rules test w) ≤ left w
      go None is = let same = ap left (fire-idle rules test w is) in omega arith
      go (Some r) is = let less = fire-less test w r sound is in omega arith

  plain-le : (end n : ℕ) (w : World Node Lan Load Text) → IsSound rules ok w → left (plain_firings rules end n w) ≤ left w
  unfolding plain_firings
  plain-le end zero w sound = omega arith
  plain-le end (suc n) w sound =
      let one = fire-le (below end) w sound in
      let rest = plain-le end n (fire rules (below end) w) (fire-sound rules ok lawful (below end) w sound) in omega arith

  module _ (group_of : ℕ → ℕ) (end : ℕ) where
    abbrev ReadyIn : World Node Lan Load Text → Type 0
    ReadyIn w = (g : ℕ) × (r : Ready Node Lan Load Text) × (next rules (in_group group_of end g) w ≡ Some r)

    -- some group of these events has one to fire, or none has
    ready-among : (w : World Node Lan Load Text) (l : List (Event Load)) →
        ReadyIn w ⊎ AllByRecursion (λ e. next rules (in_group group_of end (group_of e.key.node.0)) w ≡ None) l
    ready-among w [] = inr tt
    ready-among w (e ∷ es) = go (next rules (in_group group_of end (group_of e.key.node.0)) w) refl (ready-among w es)
      where
        go : (o : Option (Ready Node Lan Load Text)) → next rules (in_group group_of end (group_of e.key.node.0)) w ≡ o →
            ReadyIn w ⊎ AllByRecursion (λ x. next rules (in_group group_of end (group_of x.key.node.0)) w ≡ None) es →
            ReadyIn w ⊎ ((next rules (in_group group_of end (group_of e.key.node.0)) w ≡ None)
            × AllByRecursion (λ x. next rules (in_group group_of end (group_of x.key.node.0)) w ≡ None) es)
        go (Some r) is rest = inl (group_of e.key.node.0, r, is)
        go None is (inl found) = inl found
        go None is (inr none) = inr (is, none)

    none-ready : (w : World Node Lan Load Text) → AllByRecursion (λ e. next rules (in_group group_of end (group_of e.key.node.0)) w ≡ None) w.pending →
        (g : ℕ) → next rules (in_group group_of end g) w ≡ None
    none-ready w all g = go (first (in_group group_of end g) w.pending) refl
      where
        go : (o : Option (Event Load)) → first (in_group group_of end g) w.pending ≡ o → next rules (in_group group_of end g) w ≡ None
        go None is = next-none rules (in_group group_of end g) w is
        go (Some e) is = let P : ℕ → Type 0 = λ x. next rules (in_group group_of end x) w ≡ None in
            subst P (in_group-true group_of end g e.key (first-passes (in_group group_of end g) w.pending e is)).0
            (first-holds (in_group group_of end g) (λ x. next rules (in_group group_of end (group_of x.key.node.0)) w ≡ None) w.pending e all is)

    -- there is a full list of groups
    pub full-exists : (n : ℕ) (w : World Node Lan Load Text) → IsSound rules ok w → left w ≤ n →
        (groups : List ℕ) × IsFull rules group_of end groups w
    unfolding group_firings
    full-exists zero w sound le = elim (ready-among w w.pending) [
      | inl found ↦ absurd (let less = fire-less (in_group group_of end found.0) w found.1 sound found.2 in omega arith)
      | inr none ↦ ([], none-ready w none)
    ]
    full-exists (suc n) w sound le = elim (ready-among w w.pending) [
      | inl found ↦
          let less = fire-less (in_group group_of end found.0) w found.1 sound found.2 in
          let rest = full-exists n (fire rules (in_group group_of end found.0) w)
          (fire-sound rules ok lawful (in_group group_of end found.0) w sound) (omega arith) in
          (found.0 ∷ rest.0, rest.1)
      | inr none ↦ ([], none-ready w none)
    ]

  module _ (stop : ℕ) (cut : Cut) (allowed_cut : IsAllowed rules ok stop cut) where
    abbrev Run : World Node Lan Load Text → Type 0
    Run w = (rounds : List (List ℕ)) × (ending : Ending Node Lan Load Text) × RunsInRounds rules stop cut w rounds ending

    -- a round that leaves nothing below its end leaves less
    round-less : (w mid : World Node Lan Load Text) (groups : List ℕ) (end : ℕ) → IsSound rules ok w → IsPast w →
        IsRound rules stop cut w groups end mid → first (below end) mid.pending ≡ None → left mid < left w
    unfolding plain_firings
    round-less w mid groups end sound past round none =
        let kept = round-keeps rules ok lawful stop cut allowed_cut w mid groups end sound past round none in
        let same = ap left kept.0 in
        go (next rules (below end) w) refl kept.0 same
      where
        go : (o : Option (Ready Node Lan Load Text)) → next rules (below end) w ≡ o → mid ≡ plain_firings rules end (suc (length groups)) w →
            left mid ≡ left (plain_firings rules end (suc (length groups)) w) → left mid < left w
        go None rests is same = none-some _ round.least
            (ap (λ (x : World Node Lan Load Text). first (below end) x.pending) (sym (is ∙ plain-idle rules end (suc (length groups)) w rests)) ∙ none)
            (least-below rules ok lawful stop cut allowed_cut w mid groups end sound round)
        go (Some r) ready is same =
            let one = fire-less (below end) w r sound ready in
            let rest = plain-le end (length groups) (fire rules (below end) w) (fire-sound rules ok lawful (below end) w sound) in omega arith

    -- a run from a world, where there is one from each world with less left
    one-round : (w : World Node Lan Load Text) → IsSound rules ok w → IsPast w →
        ((mid : World Node Lan Load Text) → left mid < left w → IsSound rules ok mid → IsPast mid → Run mid) → Run w
    one-round w sound past more = go (first (below stop) w.pending) refl
      where
        turn : (e : Event Load) (groups : List ℕ) (mid : World Node Lan Load Text) →
            IsRound rules stop cut w groups (cut.end_of e.key.time.0) mid → (o : Option (Event Load)) →
            first (below (cut.end_of e.key.time.0)) mid.pending ≡ o → Run w
        turn e groups mid round (Some x) is = (groups ∷ [], Limited x.key (filter (λ f. before f.key x.key) mid.fired), Stops (cut.end_of e.key.time.0) mid x round is)
        turn e groups mid round None is =
            let kept = round-keeps rules ok lawful stop cut allowed_cut w mid groups (cut.end_of e.key.time.0) sound past round is in
            let rest = more mid (round-less w mid groups (cut.end_of e.key.time.0) sound past round is) kept.1 kept.2 in
            (groups ∷ rest.0, rest.1, Goes_on (cut.end_of e.key.time.0) mid round is rest.2)

        go : (o : Option (Event Load)) → first (below stop) w.pending ≡ o → Run w
        go None is = ([], Done w, Ends is)
        go (Some e) is =
            let full = full-exists cut.group_of (cut.end_of e.key.time.0) (left w) w sound (omega arith) in
            let mid = in_order (group_firings rules cut.group_of (cut.end_of e.key.time.0) full.0 w) in
            turn e full.0 mid (record { least = e; begins = is; ends = refl; full = full.1; leaves = refl })
            (first (below (cut.end_of e.key.time.0)) mid.pending) refl

    -- there is a run in rounds
    pub rounds-exist : (n : ℕ) (w : World Node Lan Load Text) → IsSound rules ok w → IsPast w → left w ≤ n → Run w
    rounds-exist zero w sound past le = one-round w sound past (λ mid less sound_mid past_mid. absurd (omega arith))
    rounds-exist (suc n) w sound past le =
        one-round w sound past (λ mid less sound_mid past_mid. rounds-exist n mid sound_mid past_mid (omega arith))
