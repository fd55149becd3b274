-- What a run in rounds has put, by the plain run.
use Rattle.std.proofs.Common.{◌≡◌, ◌↔◌, ℕ, ◌<◌, ◌≤◌, ◌^◌, suc, true, List, [], ◌++◌, All, filter, length, map, Option, Some, None, slice_get, refl, sym, ap, ◌∙◌, subst}
use Rattle.std.proofs.lemmas.Grind.{flat_map-append}
use Rattle.std.proofs.lemmas.List.{append-nil, map-append}
use Rattle.std.proofs.lemmas.List.Elements.{All-from_recursion}
use Rattle.sim_base.specs.Packet.{Packet}
use Rattle.csma_dev.specs.declared.bus.Bus.{Bus}
use Rattle.sim_base.specs.declared.key.Key.{Key}
use Rattle.sim_base.specs.declared.key.NodeId.{NodeId}
use Rattle.sim_base.specs.declared.time.Time.{Time}
use Rattle.sim_base.specs.KeyOrder.{before}
use Rattle.pkt_face.specs.declared.line.Line.{Line}
use Rattle.pkt_face.specs.Seen.{plain_line}
use Rattle.partition_cut.specs.declared.network.Cut.{Cut}
use Rattle.round_core.specs.Bound.{plain_run}
use Rattle.round_core.specs.Kernel.{ComesBy}
use Rattle.round_core.specs.Laws.{IsSound}
use Rattle.round_core.specs.Lines.{lines_of, numbered}
use Rattle.round_core.specs.Lookahead.{window_end}
use Rattle.round_core.specs.Opening.{HaveOwnKeys}
use Rattle.round_core.specs.Parts.{IsIn}
use Rattle.round_core.specs.Rounds.{Ending, IsPlainRun, IsPrefixOf, Limited, PlainEnds, below, ending_of, firings_of, plain_firings}
use Rattle.round_core.specs.World.{Event, Firing, first, with_log}
use Rattle.round_core.proofs.Counts.{plain-extends}
use Rattle.round_core.proofs.Ending.{plain-is_run, plain_ends}
use Rattle.round_core.proofs.Members.{all-in, in-all, in-append_left, in-append_right}
use Rattle.round_core.proofs.RoundLaw.{plain-more}
use Rattle.round_core.proofs.Window.{log-sound}
use Rattle.node_step.specs.declared.loads.Load.{Load}
use Rattle.node_step.specs.Firing.{Text}
use Rattle.node_step.specs.Node.{PlainNode}
use Rattle.node_rules.specs.Firings.{trace_line}
use Rattle.node_rules.specs.Health.{health}
use Rattle.node_rules.specs.Rules.{room, rules}
use Rattle.node_rules.proofs.RuleLaws.{bounded, lawful}
use Rattle.lp_run.specs.Lp.{PlainLp}
use Rattle.sim_world.specs.Opening.{OpensRuns}
use Rattle.sim_world.specs.World.{PlainWorld}
use Rattle.trace_merge.specs.Lines.{IsInTime}
use Rattle.trace_merge.specs.Merge.{AreGroups, IsInSome}
use Rattle.plain_kernel.specs.Run.{ending, run_lines, RunWorld, shape_in, start}
use Rattle.plain_kernel.specs.Stop.{MeetsLimit}
use Rattle.plain_kernel.proofs.Times.{AreBelow, own-times, run-below}
use Rattle.plain_kernel.proofs.Whole.{sound}
use Rattle.round_kernel.specs.Cut.{Fits, group_of, nanoseconds, rounds_cut}
use Rattle.round_kernel.specs.Groups.{Between}
use Rattle.round_kernel.specs.Handing.{CanGet, HaveGot, with_events}
use Rattle.round_kernel.specs.Left.{HavePlayed, emptied, lines_in, lps_of}
use Rattle.round_kernel.specs.Rounds.{AreHanded, HaveRun, all_sends, handed_to, lines_at}
use Rattle.round_kernel.specs.Stops.{HaveGone, gone_lines}
use Rattle.round_kernel.specs.Window.{Gone, before_stop, least_time}
use Rattle.round_kernel.proofs.Begin.{some-mapped}
use Rattle.round_kernel.proofs.GroupLists.{at-group, group-at, have-run, length-lps}
use Rattle.round_kernel.proofs.LeftLaws.{at-some, sends-are, some-at}
use Rattle.round_kernel.proofs.NextRound.{Fired, next-between, round-lines, round-next, sends-known, sends-new, sends-own}
use Rattle.round_kernel.proofs.StopRound as stopping
use Rattle.round_kernel.proofs.TimeLaws.{begins-at}
use Rattle.round_kernel.proofs.Turns.{moves}
use Rattle.std.proofs.lemmas.List.{length-map}
use Rattle.std.proofs.lemmas.Option.{slice_get-map}

-- the lines of firings, and then those of more
pub lines-append : (some more : List (Firing Text)) →
    map trace_line (lines_of (some ++ more)) ≡ map trace_line (lines_of some) ++ map trace_line (lines_of more)
lines-append some more =
    ap (map trace_line) (flat_map-append (λ (f : Firing Text). numbered f.key 0 f.texts) some more)
    ∙ map-append trace_line (lines_of some) (lines_of more)

-- what stands behind a beginning is below an end, where all is
back-below : (end : ℕ) (some more rest lines : List (Line Packet)) → (some ++ more) ++ rest ≡ lines → AreBelow end lines → AreBelow end more
back-below end some more rest lines are low = all-in (λ (l : Line Packet). l.key.time.0 < end) more
    (λ l i. in-all (λ (x : Line Packet). x.key.time.0 < end) lines low l
    (subst (λ (xs : List (Line Packet)). IsIn l xs) are (in-append_left l (some ++ more) rest (in-append_right l some more i))))

module _ (w : PlainWorld) (opens : OpensRuns w) where
  -- how the plain run ends
  pub ends-so : (o : Ending PlainNode Bus (Load Packet) Text) → PlainEnds (rules w.limit (shape_in w)) w.stop.0 (start w) o → ending w ≡ o
  unfolding ending
  ends-so o p = (plain-is_run (rules w.limit (shape_in w)) (health (shape_in w)) (lawful w.limit (shape_in w)) (length w.nodes) (room w.limit)
      (bounded w.limit (shape_in w)) w.stop.0 (start w) o (sound w opens)).0 p

  pub ending-lines : (o : Ending PlainNode Bus (Load Packet) Text) → ending w ≡ o → map trace_line (lines_of (firings_of o)) ≡ run_lines w
  unfolding run_lines
  ending-lines o is = ap (λ x. map trace_line (lines_of (firings_of x))) (sym is)

  -- what is written on the way is a beginning of what the plain run writes
  pub put-prefix : (written : List (Firing Text)) (v : RunWorld) → ComesBy (rules w.limit (shape_in w)) (health (shape_in w)) w.stop.0 (start w) written v →
      IsPrefixOf (map trace_line (lines_of written)) (run_lines w)
  put-prefix written v comes = (
    map trace_line (lines_of prefix.0),
    sym (lines-append written prefix.0) ∙ ap (λ l. map trace_line (lines_of l)) firings ∙ ending-lines last is_ending,
  )
    where
      now : RunWorld
      now = with_log written v

      now_sound : IsSound (rules w.limit (shape_in w)) (health (shape_in w)) now
      now_sound = log-sound (rules w.limit (shape_in w)) (health (shape_in w)) (lawful w.limit (shape_in w)) (written ++ v.fired) v comes.sound

      final : RunWorld
      final = plain_run (rules w.limit (shape_in w)) w.stop.0 (length w.nodes) (room w.limit) now

      run : IsPlainRun (rules w.limit (shape_in w)) w.stop.0 now final
      run = plain_ends (rules w.limit (shape_in w)) (health (shape_in w)) (lawful w.limit (shape_in w)) (length w.nodes) (room w.limit)
          (bounded w.limit (shape_in w)) w.stop.0 now now_sound

      last : Ending PlainNode Bus (Load Packet) Text
      last = ending_of w.stop.0 final

      more : (k : ℕ) × (plain_firings (rules w.limit (shape_in w)) w.stop.0 k (start w)
          ≡ plain_firings (rules w.limit (shape_in w)) w.stop.0 run.steps (plain_firings (rules w.limit (shape_in w)) w.stop.0 comes.steps (start w)))
      more = plain-more (rules w.limit (shape_in w)) w.stop.0 comes.steps run.steps (start w)

      is_ending : ending w ≡ last
      is_ending = ends-so last (record {
        final = final;
        run = record {
          steps = more.0;
          reached = more.1 ∙ ap (plain_firings (rules w.limit (shape_in w)) w.stop.0 run.steps) comes.reached ∙ run.reached;
          rests = run.rests;
        };
        ends = refl;
      })

      prefix : IsPrefixOf now.fired (firings_of last)
      prefix = plain-extends (rules w.limit (shape_in w)) w.stop.0 now last (record { final = final; run = run; ends = refl })

      firings : written ++ prefix.0 ≡ firings_of last
      firings = ap (λ l. l ++ prefix.0) (sym (append-nil written) ∙ ap (λ l. written ++ l) (sym comes.unlogged)) ∙ prefix.1

module _ (w : PlainWorld) (opens : OpensRuns w) (cut : Cut) (fits : Fits w cut) (lps : List PlainLp) (written : List (Firing Text))
    (rounds last : ℕ) (at : Between w cut lps written rounds last) where
  abbrev pub Put : List (Line Packet)
  Put = map trace_line (lines_of written)

  pub put-so-far : IsPrefixOf Put (run_lines w)
  put-so-far = put-prefix w opens written at.next.world at.next.comes

  module _ (least : Event (Load Packet)) (end : ℕ) (begins : first (below w.stop.0) at.next.world.pending ≡ Some least)
      (ends : (rounds_cut w cut).end_of least.key.time.0 ≡ end) where
    -- what groups leave in a round can be merged
    pub can-merge : (gone : List Gone) → HaveGone end lps gone → AreGroups (lines_in gone)
    can-merge gone have = stopping.lines-apart w cut fits lps written rounds last at end gone have least begins ends

    -- a round in which no group has stopped: its firings come next in the plain run, and the groups can get what was sent
    pub record GoesOn (after : List PlainLp) (lines : List (Line Packet)) (sends : List (Event (Load Packet))) : Type 0 where
      pub fired : List (Firing Text)
      pub lines_are : lines ≡ map trace_line (lines_of fired)
      pub can : CanGet (group_of cut) after sends
      pub known : All (λ e. e.key.node.0 < length w.nodes) sends
      pub next : (later : List PlainLp) → HaveGot (group_of cut) sends after later → Between w cut later (written ++ fired) (suc rounds) end

    pub goes-on : (after : List PlainLp) (lines : List (Line Packet)) (sends : List (Event (Load Packet))) →
        HavePlayed end lps after lines sends None → GoesOn after lines sends
    goes-on after lines sends played = record {
      fired = Fired w cut fits lps written rounds last at end ran run least begins ends;
      lines_are = round-lines w cut fits lps written rounds last at end ran run least begins ends lines played.merged.rise members;
      can = record {
        own = subst (HaveOwnKeys (λ (e : Event (Load Packet)). e.key)) all_sent
            (sends-own w cut fits lps written rounds last at end ran run least begins ends);
        new = λ e x lp i there j.
            let group = in-after (group_of cut e.key.node.0) lp there in
            sends-new w cut fits lps written rounds last at end ran run least begins ends e x group.0.0
            (subst (λ (l : List (Event (Load Packet))). IsIn e l) (sym all_sent) i) (at-group played.gone (group_of cut e.key.node.0) group.0 group.1)
            (subst (λ (l : PlainLp). IsIn x l.pending) group.2 j);
      };
      known = All-from_recursion (λ (e : Event (Load Packet)). e.key.node.0 < length w.nodes) sends
          (all-in (λ (e : Event (Load Packet)). e.key.node.0 < length w.nodes) sends (λ e i.
          sends-known w cut fits lps written rounds last at end ran run least begins ends e
          (subst (λ (l : List (Event (Load Packet))). IsIn e l) (sym all_sent) i)));
      next = λ later got. next-between w cut fits lps written rounds last at end ran run least begins ends later (handed later got);
    }
      where
        ran : List PlainLp
        ran = lps_of played.gone

        run : HaveRun end lps ran
        run = have-run end lps played.gone played.are_gone played.stops

        all_sent : all_sends ran (length ran) ≡ sends
        all_sent = sends-are played.gone ∙ sym played.sent

        -- a group after the round
        in-after : (g : ℕ) (lp : PlainLp) → slice_get after g ≡ Some lp →
            (group : Gone) × (slice_get played.gone g ≡ Some group) × (lp ≡ emptied group.0)
        in-after g lp is = some-mapped (λ (group : Gone). emptied group.0) (slice_get played.gone g) lp
            (sym (slice_get-map (λ (group : Gone). emptied group.0) played.gone g) ∙ ap (λ l. slice_get l g) (sym played.left) ∙ is)

        in-some : (l : Line Packet) (g : ℕ) (o : Option PlainLp) → slice_get ran g ≡ o → IsIn l (lines_at o) → IsInSome l (lines_in played.gone)
        in-some l g None is i = absurd i
        in-some l g (Some lp) is i = let group = group-at played.gone g lp is in
            at-some l played.gone g group.0 group.1 (subst (λ (x : PlainLp). IsIn l x.lines) group.2 i)

        members : (l : Line Packet) → IsIn l lines ↔ ((g : ℕ) × IsIn l (lines_at (slice_get ran g)))
        members l = (
          (λ i. let there = some-at l played.gone ((played.merged.members l).0 i).0 in
              (there.0, subst (λ (o : Option PlainLp). IsIn l (lines_at o)) (sym (at-group played.gone there.0 there.1 there.2)) there.3)),
          (λ there. (played.merged.members l).1 (in-some l there.0 (slice_get ran there.0) refl there.1, refl)),
        )

        handed : (later : List PlainLp) → HaveGot (group_of cut) sends after later → AreHanded cut ran later
        handed later got = record {
          count = got.count ∙ ap length played.left ∙ length-map played.gone (λ (group : Gone). emptied group.0) ∙ sym (length-lps played.gone);
          each = λ g lp is.
              let from = got.each g lp is in
              let group = in-after g from.0 from.1 in (
                group.0.0,
                at-group played.gone g group.0 group.1,
                from.2 ∙ ap (with_events (group_of cut) g sends) group.2
                    ∙ ap (λ (l : List (Event (Load Packet))). handed_to cut l g group.0.0) (sym all_sent),
              );
        }

    -- a round in which a group has stopped: the plain run meets its limit there
    pub record Stops (lines : List (Line Packet)) (key : Key) (node : NodeId) : Type 0 where
      pub meets : MeetsLimit w key node
      pub all : Put ++ lines ≡ run_lines w

    pub stops : (after : List PlainLp) (lines : List (Line Packet)) (sends : List (Event (Load Packet))) (key : Key) (node : NodeId) →
        HavePlayed end lps after lines sends (Some (key, node)) → Stops lines key node
    stops after lines sends key node played = record {
      meets = record {
        fired = written ++ fired;
        ends = is;
        node_is = stopping.node-is w cut fits lps written rounds last at end played.gone played.are_gone least begins ends key node played.stops;
      };
      all = ap (λ l. Put ++ l) lines_are ∙ sym (lines-append written fired) ∙ ending-lines w opens (Limited key (written ++ fired)) is;
    }
      where
        fired : List (Firing Text)
        fired = filter (λ f. before f.key key)
            (stopping.Fired w cut fits lps written rounds last at end played.gone played.are_gone least begins ends key node played.stops)

        is : ending w ≡ Limited key (written ++ fired)
        is = ends-so w opens (Limited key (written ++ fired))
            (stopping.limited w cut fits lps written rounds last at end played.gone played.are_gone least begins ends key node played.stops)

        in-some : (l : Line Packet) (g : ℕ) (o : Option Gone) → slice_get played.gone g ≡ o → IsIn l (gone_lines o) → IsInSome l (lines_in played.gone)
        in-some l g None is i = absurd i
        in-some l g (Some group) is i = at-some l played.gone g group is i

        members : (l : Line Packet) → IsIn l lines ↔ (((g : ℕ) × IsIn l (gone_lines (slice_get played.gone g))) × (before l.key key ≡ true))
        members l = (
          (λ i. let both = (played.merged.members l).0 i in let there = some-at l played.gone both.0 in
              ((there.0, subst (λ (o : Option Gone). IsIn l (gone_lines o)) (sym there.2) there.3), both.1)),
          (λ both. (played.merged.members l).1 (in-some l both.0.0 (slice_get played.gone both.0.0) refl both.0.1, both.1)),
        )

        lines_are : lines ≡ map trace_line (lines_of fired)
        lines_are = stopping.limit-lines w cut fits lps written rounds last at end played.gone played.are_gone least begins ends key node played.stops
            lines played.merged.rise members

    -- what has been put with the round's lines is a beginning of what the plain run writes
    pub round-prefix : (after : List PlainLp) (lines : List (Line Packet)) (sends : List (Event (Load Packet))) (stop : Option (Key × NodeId)) →
        HavePlayed end lps after lines sends stop → IsPrefixOf (Put ++ lines) (run_lines w)
    unfolding goes-on
    round-prefix after lines sends (Some s) played = ([], append-nil (Put ++ lines) ∙ (stops after lines sends s.0 s.1 played).all)
    round-prefix after lines sends None played =
        let on = goes-on after lines sends played in
        let next = round-next w cut fits lps written rounds last at end (lps_of played.gone) (have-run end lps played.gone played.are_gone played.stops) least begins ends in
        let prefix = put-prefix w opens (written ++ on.fired) next.world next.comes in
        (prefix.0, ap (λ l. (Put ++ l) ++ prefix.0) on.lines_are ∙ ap (λ l. l ++ prefix.0) (sym (lines-append written on.fired)) ∙ prefix.1)

    -- and the times of these lines fit a capture file
    module _ {P : Type 0} (plain : P → Packet) where
      pub round-times : w.stop.0 ≤ 10 ^ 12 → (after : List PlainLp) (lines : List (Line P)) (sends : List (Event (Load Packet))) (stop : Option (Key × NodeId)) →
          HavePlayed end lps after (map (plain_line plain) lines) sends stop → All IsInTime lines
      round-times early after lines sends stop played =
          let prefix = round-prefix after (map (plain_line plain) lines) sends stop played in
          All-from_recursion IsInTime lines (own-times plain w.stop.0 early lines
          (back-below w.stop.0 Put (map (plain_line plain) lines) prefix.0 (run_lines w) prefix.1 (run-below w)))

-- a window begins at the least pending time, and ends later than the one before
pub record IsWindow (w : PlainWorld) (cut : Cut) (lps : List PlainLp) (written : List (Firing Text)) (rounds last : ℕ)
    (at : Between w cut lps written rounds last) (end : Time) : Type 0 where
  pub least : Event (Load Packet)
  pub begins : first (below w.stop.0) at.next.world.pending ≡ Some least
  pub ends : (rounds_cut w cut).end_of least.key.time.0 ≡ end.0
  pub later : last < end.0
  pub within : end.0 ≤ w.stop.0

pub window-of : (w : PlainWorld) (cut : Cut) (fits : Fits w cut) (groups : List Gone) (written : List (Firing Text)) (rounds last : ℕ)
    (at : Between w cut (lps_of groups) written rounds last) (stop from end : Time) → Some from ≡ before_stop stop (least_time groups) → stop ≡ w.stop →
    end.0 ≡ window_end (nanoseconds cut.lookahead) stop.0 from.0 → IsWindow w cut (lps_of groups) written rounds last at end
window-of w cut fits groups written rounds last at stop from end is stops ends =
    let found = begins-at w cut groups written rounds last at stop from is (sym stops) in
    let ends_at : (rounds_cut w cut).end_of found.0.key.time.0 ≡ end.0 =
    ap (λ (t : ℕ). window_end (nanoseconds cut.lookahead) w.stop.0 t) found.2
    ∙ ap (λ (s : Time). window_end (nanoseconds cut.lookahead) s.0 from.0) (sym stops) ∙ sym ends in
    let on = moves w cut fits (lps_of groups) written rounds last at found.0 end.0 found.1 ends_at in
    record { least = found.0; begins = found.1; ends = ends_at; later = on.0; within = on.1 }
