-- Plain runs end in one way, what has been fired stays, and the rounds are the windows of the plain run.
use Rattle.std.proofs.Common.{◌≡◌, ℕ, ◌<◌, ◌≤◌, zero, suc, length, true, List, [], ◌∷◌, ◌++◌, refl, sym, ap, ◌∙◌, subst, arith, Option, Some, None, append_assoc}
use Rattle.std.proofs.lemmas.Bool.{le-ltb, lt-ltb}
use Rattle.std.proofs.lemmas.List.{append-nil}
use Rattle.std.specs.List.{AllByRecursion}
use Rattle.sim_base.specs.KeyOrder.{before, IsRising}
use Rattle.round_core.specs.World.{Event, Firing, Rules, World, Ready, first, next, after, after_next, fire, IsPast}
use Rattle.round_core.specs.Rounds.{below, plain_firings, Ending, Done, Limited, ending_at, PlainEnds, Cut, IsAllowed, IsRound, RunsInRounds, Ends, Stops, Goes_on, windows, times_of, firings_of, IsPrefixOf}
use Rattle.round_core.specs.Laws.{Health, IsSound, IsLawful}
use Rattle.round_core.proofs.ListLaws.{first-holds, first-passes, all-append}
use Rattle.round_core.proofs.Settling.{next-found}
use Rattle.round_core.proofs.Plain.{first-head, fire-moves, plain-idle, first-of_head}
use Rattle.round_core.proofs.Window.{below-time}
use Rattle.round_core.proofs.RoundLaw.{plain-meet, plain-prefix, all-above, round-keeps, none-some, some-same, time-below}

module _ {Node Lan Load Text : Type 0} (rules : Rules Node Lan Load Text) (stop : ℕ) where
  -- the plain run from a world ends in one way
  pub plain-unique : (w : World Node Lan Load Text) (a b : Ending Node Lan Load Text) → PlainEnds rules stop w a →
      PlainEnds rules stop w b → a ≡ b
  plain-unique w a b p q =
      let rests_p = ap (next rules (below stop)) p.run.reached ∙ p.run.rests in
      let rests_q = ap (next rules (below stop)) q.run.reached ∙ q.run.rests in
      let same : p.final ≡ q.final = sym p.run.reached ∙ plain-meet rules stop p.run.steps q.run.steps w rests_p rests_q ∙ q.run.reached in
      sym p.ends ∙ ap (λ (x : World Node Lan Load Text). ending_at x (first (below stop) x.pending)) same ∙ q.ends

  pub firings-at : (w : World Node Lan Load Text) (o : Option (Event Load)) → firings_of (ending_at w o) ≡ w.fired
  firings-at w None = refl
  firings-at w (Some e) = refl

  -- what has been fired is a prefix of what the plain run fires
  pub plain-extends : (w : World Node Lan Load Text) (ending : Ending Node Lan Load Text) → PlainEnds rules stop w ending →
      IsPrefixOf w.fired (firings_of ending)
  plain-extends w ending p =
      let new = plain-prefix rules stop p.run.steps w in (
        new.0,
        sym new.1 ∙ ap (λ (x : World Node Lan Load Text). x.fired) p.run.reached
            ∙ sym (firings-at p.final (first (below stop) p.final.pending)) ∙ ap firings_of p.ends,
      )

pub windows-open : (end_of : ℕ → ℕ) (end time : ℕ) (times : List ℕ) → end ≤ time →
    windows end_of end (time ∷ times) ≡ suc (windows end_of (end_of time) times)
windows-open end_of end time times le = rw (le-ltb time end le) refl

pub windows-inside : {Text : Type 0} (end_of : ℕ → ℕ) (end : ℕ) (inside later : List (Firing Text)) →
    AllByRecursion (λ f. f.key.time.0 < end) inside → windows end_of end (times_of (inside ++ later)) ≡ windows end_of end (times_of later)
windows-inside end_of end [] later h = refl
windows-inside end_of end (f ∷ fs) later h = rw (lt-ltb f.key.time.0 end h.0) (windows-inside end_of end fs later h.1)

module _ {Node Lan Load Text : Type 0} (rules : Rules Node Lan Load Text) where
  after-inside : (end : ℕ) (w : World Node Lan Load Text) →
      (new : List (Firing Text)) × ((fire rules (below end) w).fired ≡ w.fired ++ new) × AllByRecursion (λ f. f.key.time.0 < end) new
  unfolding fire after
  after-inside end w = go (next rules (below end) w) refl
    where
      go : (o : Option (Ready Node Lan Load Text)) → next rules (below end) w ≡ o →
          (new : List (Firing Text)) × ((after_next rules (below end) w o).fired ≡ w.fired ++ new) × AllByRecursion (λ f. f.key.time.0 < end) new
      go None is = ([], sym (append-nil w.fired), tt)
      go (Some r) is = (
        record { key = r.event.key; texts = r.effect.texts } ∷ [],
        refl,
        (below-time end r.event.key (first-passes (below end) w.pending r.event (next-found rules (below end) w r is).event), tt),
      )

  -- plain firings below an end are below it
  plain-inside : (end n : ℕ) (w : World Node Lan Load Text) →
      (new : List (Firing Text)) × ((plain_firings rules end n w).fired ≡ w.fired ++ new) × AllByRecursion (λ f. f.key.time.0 < end) new
  unfolding plain_firings
  plain-inside end zero w = ([], sym (append-nil w.fired), tt)
  plain-inside end (suc n) w =
      let one = after-inside end w in
      let rest = plain-inside end n (fire rules (below end) w) in (
        one.0 ++ rest.0,
        rest.1 ∙ ap (λ l. l ++ rest.0) one.1 ∙ append_assoc w.fired one.0 rest.0,
        all-append (λ f. f.key.time.0 < end) one.0 rest.0 one.2 rest.2,
      )

-- where the plain firings of a window begin at its least event
pub record BeginsWith {Text : Type 0} (time end : ℕ) (before_it after_it : List (Firing Text)) : Type 0 where
  pub head : Firing Text
  pub inside : List (Firing Text)
  pub at : head.key.time.0 ≡ time
  pub fired : after_it ≡ before_it ++ head ∷ inside
  pub low : AllByRecursion (λ f. f.key.time.0 < end) inside

module _ {Node Lan Load Text : Type 0} (rules : Rules Node Lan Load Text) where
  after-begins : (end : ℕ) (w : World Node Lan Load Text) (r : Ready Node Lan Load Text) → next rules (below end) w ≡ Some r →
      (fire rules (below end) w).fired ≡ w.fired ++ record { key = r.event.key; texts = r.effect.texts } ∷ []
  unfolding after
  after-begins end w r is = rw (fire-moves rules (below end) w r is) refl

  -- where an event below the end is gone, it was the first to fire
  plain-begins : (end n : ℕ) (w : World Node Lan Load Text) (e : Event Load) → first (below end) w.pending ≡ Some e →
      first (below end) (plain_firings rules end (suc n) w).pending ≡ None →
      BeginsWith e.key.time.0 end w.fired (plain_firings rules end (suc n) w).fired
  unfolding plain_firings
  plain-begins end n w e is none = go (next rules (below end) w) refl
    where
      go : (o : Option (Ready Node Lan Load Text)) → next rules (below end) w ≡ o →
          BeginsWith e.key.time.0 end w.fired (plain_firings rules end (suc n) w).fired
      go None rests = none-some _ e (ap (λ (x : World Node Lan Load Text). first (below end) x.pending) (sym (plain-idle rules end (suc n) w rests)) ∙ none) is
      go (Some r) ready =
          let rest = plain-inside rules end n (fire rules (below end) w) in
          record {
            head = record { key = r.event.key; texts = r.effect.texts };
            inside = rest.0;
            at = ap (λ (x : Event Load). x.key.time.0) (some-same _ r.event e (next-found rules (below end) w r ready).event is);
            fired = rest.1 ∙ ap (λ l. l ++ rest.0) (after-begins end w r ready)
                ∙ append_assoc w.fired (record { key = r.event.key; texts = r.effect.texts } ∷ []) rest.0;
            low = rest.2;
          }

module _ {Node Lan Load Text : Type 0} (rules : Rules Node Lan Load Text) (ok : Health Node Lan Load) (lawful : IsLawful rules ok)
    (stop : ℕ) (cut : Cut) (allowed_cut : IsAllowed rules ok stop cut) where
  -- as many rounds as windows
  abbrev CountsWindows : ℕ → World Node Lan Load Text → List (List ℕ) → Ending Node Lan Load Text → Type 0
  CountsWindows last w rounds (Done final) =
      (new : List (Firing Text)) × (final.fired ≡ w.fired ++ new) × (windows cut.end_of last (times_of new) ≡ length rounds)
  CountsWindows last w rounds (Limited key done) = Unit {0}

  pub least-below : (w mid : World Node Lan Load Text) (groups : List ℕ) (end : ℕ) → IsSound rules ok w →
      (round : IsRound rules stop cut w groups end mid) → first (below end) w.pending ≡ Some round.least
  least-below w mid groups end sound round =
      let h = first-head stop w.pending round.least sound.rising round.begins in
      let low = below-time stop round.least.key (first-passes (below stop) w.pending round.least round.begins) in
      let up = allowed_cut.above round.least.key.time.0 low in
      let e = round.ends in
      let under : round.least.key.time.0 < end = omega arith in
      ap (first (below end)) h.1 ∙ first-of_head (below end) round.least h.0 (time-below end round.least.key under)

  pub window-begins : (w mid : World Node Lan Load Text) (groups : List ℕ) (end : ℕ) → IsSound rules ok w → IsPast w →
      (round : IsRound rules stop cut w groups end mid) → first (below end) mid.pending ≡ None →
      BeginsWith round.least.key.time.0 end w.fired mid.fired
  window-begins w mid groups end sound past round none =
      let kept = round-keeps rules ok lawful stop cut allowed_cut w mid groups end sound past round none in
      let P : World Node Lan Load Text → Type 0 = λ x. BeginsWith round.least.key.time.0 end w.fired x.fired in
      subst P (sym kept.0) (plain-begins rules end (length groups) w round.least (least-below w mid groups end sound round)
      (ap (λ (x : World Node Lan Load Text). first (below end) x.pending) (sym kept.0) ∙ none))

  one-window : (last time end : ℕ) (fired : List (Firing Text)) (w mid : World Node Lan Load Text) (groups : List ℕ) (more : List (List ℕ))
      (ending : Ending Node Lan Load Text) → last ≤ time → cut.end_of time ≡ end → BeginsWith time end w.fired mid.fired →
      CountsWindows end mid more ending → CountsWindows last w (groups ∷ more) ending
  one-window last time end fired w mid groups more (Limited key done) le is begins rest = tt
  one-window last time end fired w mid groups more (Done final) le is begins rest = (
    begins.head ∷ (begins.inside ++ rest.0),
    rest.1 ∙ ap (λ l. l ++ rest.0) begins.fired ∙ append_assoc w.fired (begins.head ∷ begins.inside) rest.0,
    let le_head : last ≤ begins.head.key.time.0 = let e = begins.at in omega arith in
        windows-open cut.end_of last begins.head.key.time.0 (times_of (begins.inside ++ rest.0)) le_head
        ∙ ap (λ t. suc (windows cut.end_of t (times_of (begins.inside ++ rest.0)))) (ap cut.end_of begins.at ∙ is)
        ∙ ap suc (windows-inside cut.end_of end begins.inside rest.0 begins.low ∙ rest.2),
  )

  pub counts-windows : (last : ℕ) (w : World Node Lan Load Text) (rounds : List (List ℕ)) (ending : Ending Node Lan Load Text) →
      IsSound rules ok w → IsPast w → AllByRecursion (λ e. last ≤ e.key.time.0) w.pending → RunsInRounds rules stop cut w rounds ending →
      CountsWindows last w rounds ending
  counts-windows last w rounds ending sound past up (Ends none) = ([], sym (append-nil w.fired), refl)
  counts-windows last w rounds ending sound past up (Stops end mid e round left) = tt
  counts-windows last w rounds ending sound past up (Goes_on {groups = groups} {more = more} end mid round none run) =
      let kept = round-keeps rules ok lawful stop cut allowed_cut w mid groups end sound past round none in
      one-window last round.least.key.time.0 end [] w mid groups more ending
      (first-holds (below stop) (λ e. last ≤ e.key.time.0) w.pending round.least up round.begins) round.ends
      (window-begins w mid groups end sound past round none)
      (counts-windows end mid more ending kept.1 kept.2 (all-above end mid.pending none) run)

  -- from an empty log
  pub counts-done : (w final : World Node Lan Load Text) (rounds : List (List ℕ)) → IsSound rules ok w → w.fired ≡ [] →
      RunsInRounds rules stop cut w rounds (Done final) → length rounds ≡ windows cut.end_of 0 (times_of final.fired)
  counts-done w final rounds sound none run =
      let P : List (Firing Text) → Type 0 = λ l. IsRising (λ f. f.key) l in
      let Q : List (Firing Text) → Type 0 = λ l. AllByRecursion (λ e. AllByRecursion (λ f. before f.key e.key ≡ true) l) w.pending in
      let past : IsPast w = record { rising = subst P (sym none) tt; behind = subst Q (sym none) (all-true w.pending) } in
      let counts = counts-windows 0 w rounds (Done final) sound past (all-zero w.pending) run in
      sym counts.2 ∙ ap (λ l. windows cut.end_of 0 (times_of l)) (sym (counts.1 ∙ ap (λ l. l ++ counts.0) none))
    where
      all-true : (l : List (Event Load)) → AllByRecursion (λ e. Unit {0}) l
      all-true [] = tt
      all-true (x ∷ xs) = (tt, all-true xs)

      all-zero : (l : List (Event Load)) → AllByRecursion (λ e. 0 ≤ e.key.time.0) l
      all-zero [] = tt
      all-zero (x ∷ xs) = (omega arith, all-zero xs)
