-- The rounds of a kernel, each a round of parts, by the plain run.
use Rattle.std.proofs.Common.{◌≡◌, ℕ, ◌<◌, ◌≤◌, zero, suc, filter, length, true, List, [], ◌∷◌, ◌++◌, refl, sym, ap, ◌∙◌, subst, arith, ◌⊎◌, Option, Some, None, append_assoc}
use Rattle.std.proofs.lemmas.List.{append-nil}
use Rattle.sim_base.specs.declared.key.Key.{Key}
use Rattle.sim_base.specs.KeyOrder.{before, IsRising}
use Rattle.round_core.specs.World.{Event, Firing, Rules, World, first, in_order, IsPast, unlogged, with_log}
use Rattle.round_core.specs.Rounds.{below, plain_firings, Done, Limited, ending_at, PlainEnds, Cut, IsAllowed, IsRound, group_firings, IsFull, windows, times_of, fired_by, Stops, firings_of}
use Rattle.round_core.specs.Laws.{Health, IsSound, IsLawful, IsClosed}
use Rattle.round_core.specs.Parts.{Part, PartRuns, AreParts, AreMerged, AreHandedOver}
use Rattle.round_core.specs.Kernel.{ComesBy, FillsWindows}
use Rattle.round_core.proofs.ListLaws.{first-holds, first-passes}
use Rattle.round_core.proofs.Plain.{next-none}
use Rattle.round_core.proofs.Window.{below-time, groups-sound, log-sound, plain-past}
use Rattle.round_core.proofs.RoundLaw.{plain-more, plain-wider, begins-fits, round-keeps, rounds-end, all-above}
use Rattle.round_core.proofs.Counts.{window-begins, windows-open, windows-inside, firings-at}
use Rattle.round_core.proofs.PartRounds.{parts-run, parts-empty, parts-least}
use Rattle.round_core.proofs.HandOver.{empty-past, merged-all, merged-before, handed-over, plain-log, next-log, own-firings}

module _ {Node Lan Load Text : Type 0} (rules : Rules Node Lan Load Text) (ok : Health Node Lan Load) (lawful : IsLawful rules ok)
    (stop : ℕ) (start : World Node Lan Load Text) where
  -- a run begins where it begins
  pub comes-first : start.fired ≡ [] → IsSound rules ok start → ComesBy rules ok stop start [] start
  unfolding plain_firings
  comes-first none sound = record { steps = zero; reached = refl; unlogged = none; sound = sound }

  -- and ends where nothing is pending below stop
  pub comes-last : (written : List (Firing Text)) (w : World Node Lan Load Text) → ComesBy rules ok stop start written w →
      first (below stop) w.pending ≡ None → PlainEnds rules stop start (Done (with_log written w))
  comes-last written w comes none = record {
    final = with_log written w;
    run = record { steps = comes.steps; reached = comes.reached; rests = next-none rules (below stop) (with_log written w) none };
    ends = ap (ending_at (with_log written w)) none;
  }

  -- plain firings of what is left
  comes-more : (written : List (Firing Text)) (w mid : World Node Lan Load Text) (n end : ℕ) → ComesBy rules ok stop start written w →
      end ≤ stop → mid ≡ plain_firings rules end n w →
      (k : ℕ) × (plain_firings rules stop k start ≡ with_log written mid)
  comes-more written w mid n end comes le same =
      let wide = plain-wider rules ok lawful end stop n w le comes.sound in
      let more = plain-more rules stop comes.steps wide.0 start in (
        more.0,
        more.1 ∙ ap (plain_firings rules stop wide.0) comes.reached ∙ plain-log rules stop wide.0 written w
            ∙ ap (with_log written) (wide.1 ∙ sym same),
      )

  limited-ends : (written done : List (Firing Text)) (key : Key) (final : World Node Lan Load Text) (o : Option (Event Load)) →
      ending_at final o ≡ Limited key done → ending_at (with_log written final) o ≡ Limited key (written ++ done)
  limited-ends written done key final None h = absurd (let d : Done final ≡ Limited key done = h in cc)
  limited-ends written done key final (Some e) h =
      let l : Limited e.key final.fired ≡ Limited key done = h in
      let keys : e.key ≡ key = cc in
      let logs : final.fired ≡ done = cc in
      ap (λ (k : Key). Limited k (written ++ final.fired)) keys ∙ ap (λ (d : List (Firing Text)). Limited key (written ++ d)) logs

  -- the plain run of what is left meets a limit
  limited-after : (written done : List (Firing Text)) (key : Key) (w : World Node Lan Load Text) → ComesBy rules ok stop start written w →
      PlainEnds rules stop w (Limited key done) → PlainEnds rules stop start (Limited key (written ++ done))
  limited-after written done key w comes p =
      let more = plain-more rules stop comes.steps p.run.steps start in
      record {
        final = with_log written p.final;
        run = record {
          steps = more.0;
          reached = more.1 ∙ ap (plain_firings rules stop p.run.steps) comes.reached ∙ plain-log rules stop p.run.steps written w
              ∙ ap (with_log written) p.run.reached;
          rests = next-log rules (below stop) written p.final ∙ p.run.rests;
        };
        ends = limited-ends written done key p.final (first (below stop) p.final.pending) p.ends;
      }

  -- A round of parts, up to its end: the parts have run, and their firings are merged
  module _ (cut : Cut) (allowed_cut : IsAllowed rules ok stop cut) (count : ℕ) (within : (n : ℕ) → cut.group_of n < count)
      (written : List (Firing Text)) (w : World Node Lan Load Text) (comes : ComesBy rules ok stop start written w)
      (least : Event Load) (begins : first (below stop) w.pending ≡ Some least) (end : ℕ) (ends : cut.end_of least.key.time.0 ≡ end)
      (parts news : ℕ → Part Node Lan Load Text) (are : AreParts rules cut.group_of end parts w)
      (runs : (g : ℕ) → g < count → PartRuns rules cut.group_of g end (parts g) (news g))
      (rest : (g : ℕ) → count ≤ g → news g ≡ parts g)
      (fired : List (Firing Text)) (merged : AreMerged news fired) where
    past : IsPast w
    past = empty-past w comes.unlogged

    low : least.key.time.0 < stop
    low = below-time stop least.key (first-passes (below stop) w.pending least begins)

    closed : IsClosed rules ok cut.group_of least.key.time.0 end
    closed = let P : ℕ → Type 0 = λ x. IsClosed rules ok cut.group_of least.key.time.0 x in subst P ends (allowed_cut.closed least.key.time.0 low)

    end_low : end ≤ stop
    end_low = let le = allowed_cut.within least.key.time.0 low in omega arith

    made : (gs : List ℕ) × IsFull rules cut.group_of end gs w × AreParts rules cut.group_of end news (in_order (group_firings rules cut.group_of end gs w))
    made = parts-run rules ok lawful cut.group_of allowed_cut.lans least.key.time.0 end closed parts news w count
        (begins-fits rules ok lawful stop w least comes.sound begins) past are within runs rest

    mid : World Node Lan Load Text
    mid = in_order (group_firings rules cut.group_of end made.0 w)

    round : IsRound rules stop cut w made.0 end mid
    unfolding mid
    round = record { least = least; begins = begins; ends = ends; full = made.1; leaves = refl }

    same_least : round.least ≡ least
    unfolding round
    same_least = refl

    are_mid : AreParts rules cut.group_of end news mid
    unfolding mid
    are_mid = made.2

    sound_mid : IsSound rules ok mid
    unfolding mid
    sound_mid = let x = group_firings rules cut.group_of end made.0 w in
        log-sound rules ok lawful (in_order x).fired x (groups-sound rules ok lawful cut.group_of end made.0 w comes.sound)

    -- the firings of a plain run that met a limit stand in the order of their keys
    limited-rising : (key : Key) (done : List (Firing Text)) → PlainEnds rules stop w (Limited key done) → IsRising (λ f. f.key) done
    limited-rising key done p =
        let P : World Node Lan Load Text → Type 0 = λ x. IsPast x in
        let Q : List (Firing Text) → Type 0 = λ l. IsRising (λ f. f.key) l in
        let final_past = subst P p.run.reached (plain-past rules ok lawful stop p.run.steps w comes.sound past) in
        subst Q (sym (firings-at rules stop p.final (first (below stop) p.final.pending)) ∙ ap firings_of p.ends) final_past.rising

    -- where some part has an event left, the plain run meets a limit at the least of these
    pub round-stops : (g : ℕ) (e : Event Load) → first (below end) (news g).world.pending ≡ Some e →
        ((h : ℕ) (x : Event Load) → first (below end) (news h).world.pending ≡ Some x → (x ≡ e) ⊎ (before e.key x.key ≡ true)) →
        PlainEnds rules stop start (Limited e.key (written ++ filter (λ f. before f.key e.key) fired))
    round-stops g e is least_left =
        let left = parts-least rules ok lawful cut.group_of allowed_cut.lans least.key.time.0 end closed news mid g e sound_mid are_mid is least_left in
        let ended = rounds-end rules ok lawful stop cut allowed_cut w (made.0 ∷ []) (Limited e.key (filter (λ f. before f.key e.key) mid.fired))
        comes.sound past (Stops end mid e round left) in
        let same = merged-before rules cut.group_of end news mid fired e.key are_mid merged (limited-rising e.key _ ended) in
        let P : List (Firing Text) → Type 0 = λ l. PlainEnds rules stop start (Limited e.key (written ++ l)) in
        subst P (sym same) (limited-after written (filter (λ f. before f.key e.key) mid.fired) e.key w comes ended)

    -- where none has, the run goes on with what they hand over
    module _ (next_parts : ℕ → Part Node Lan Load Text) (none : (g : ℕ) → first (below end) (news g).world.pending ≡ None)
        (over : AreHandedOver cut.group_of news next_parts) where
      empty : first (below end) mid.pending ≡ None
      empty = parts-empty rules ok lawful cut.group_of allowed_cut.lans least.key.time.0 end closed news mid are_mid none

      kept : (mid ≡ plain_firings rules end (suc (length made.0)) w) × IsSound rules ok mid × IsPast mid
      kept = round-keeps rules ok lawful stop cut allowed_cut w mid made.0 end comes.sound past round empty

      all_fired : fired ≡ mid.fired
      all_fired = merged-all rules cut.group_of end news mid fired are_mid merged kept.2

      moved_log : with_log written mid ≡ with_log (written ++ fired) (unlogged mid)
      moved_log = let e : written ++ mid.fired ≡ (written ++ fired) ++ [] =
          ap (λ l. written ++ l) (sym all_fired) ∙ sym (append-nil (written ++ fired)) in
          λ i. record mid { fired = e i }

      goes_on-comes : ComesBy rules ok stop start (written ++ fired) (unlogged mid)
      goes_on-comes = let more = comes-more written w mid (suc (length made.0)) end comes end_low kept.0 in
          record { steps = more.0; reached = more.1 ∙ moved_log; unlogged = refl; sound = log-sound rules ok lawful [] mid kept.1 }

      goes_on-windows : (rounds last : ℕ) → FillsWindows cut written rounds last w → FillsWindows cut (written ++ fired) (suc rounds) end (unlogged mid)
      goes_on-windows rounds last fills =
          let begins_with = window-begins rules ok lawful stop cut allowed_cut w mid made.0 end comes.sound past round empty in
          let le = first-holds (below stop) (λ e. last ≤ e.key.time.0) w.pending least fills.above begins in
          let split : fired ≡ begins_with.head ∷ begins_with.inside =
          all_fired ∙ begins_with.fired ∙ ap (λ l. l ++ (begins_with.head ∷ begins_with.inside)) comes.unlogged in
          record {
            above = all-above end mid.pending empty;
            count = λ more.
                let at : begins_with.head.key.time.0 ≡ least.key.time.0 = begins_with.at ∙ ap (λ (x : Event Load). x.key.time.0) same_least in
                let le_head : last ≤ begins_with.head.key.time.0 = omega arith in
                let one : windows cut.end_of last (times_of (fired ++ more)) ≡ suc (windows cut.end_of end (times_of more)) =
                ap (λ l. windows cut.end_of last (times_of (l ++ more))) split
                ∙ windows-open cut.end_of last begins_with.head.key.time.0 (times_of (begins_with.inside ++ more)) le_head
                ∙ ap (λ t. suc (windows cut.end_of t (times_of (begins_with.inside ++ more)))) (ap cut.end_of at ∙ ends)
                ∙ ap suc (windows-inside cut.end_of end begins_with.inside more begins_with.low) in
                let before_it = ap (λ l. windows cut.end_of 0 (times_of l)) (append_assoc written fired more) ∙ fills.count (fired ++ more) in
                omega arith;
          }

      goes_on-own : (g : ℕ) → length (news g).world.fired ≡ fired_by cut.group_of g fired
      goes_on-own g = own-firings rules cut.group_of end news mid g are_mid kept.2 ∙ ap (fired_by cut.group_of g) (sym all_fired)

      pub round-goes_on : (x : World Node Lan Load Text) × ComesBy rules ok stop start (written ++ fired) x
          × ((later : ℕ) → AreParts rules cut.group_of later next_parts x)
          × ((rounds last : ℕ) → FillsWindows cut written rounds last w → FillsWindows cut (written ++ fired) (suc rounds) end x)
          × ((g : ℕ) → length (news g).world.fired ≡ fired_by cut.group_of g fired)
      round-goes_on = (
        unlogged mid,
        goes_on-comes,
        (λ later. handed-over rules cut.group_of end later news next_parts mid are_mid over),
        goes_on-windows,
        goes_on-own,
      )
