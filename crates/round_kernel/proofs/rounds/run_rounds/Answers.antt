use Rattle.std.proofs.Common.{◌∙◌, ◌-◌, ◌^◌, ◌<◌, ◌≤◌, ℕ, All, List, [], ◌++◌, Option, ap, length, map, refl, subst, sym, arith}
use Rattle.pkt_face.specs.declared.line.Line.{Line}
use Rattle.pkt_face.specs.Seen.{plain_line}
use Rattle.sim_base.specs.Packet.{Packet}
use Rattle.sim_base.specs.declared.key.Key.{Key}
use Rattle.sim_base.specs.declared.key.NodeId.{NodeId}
use Rattle.sim_base.specs.declared.time.Time.{Time}
use Rattle.round_core.specs.Lines.{lines_of}
use Rattle.node_rules.specs.Firings.{trace_line}
use Rattle.trace_merge.specs.Lines.{IsInTime}
use Rattle.node_step.specs.Node.{PlainNode}
use Rattle.round_kernel.specs.Left.{HavePlayed, lps_of, plain_sends}
use Rattle.round_kernel.specs.Report.{AreCounted, AreNodes}
use Rattle.round_kernel.proofs.AnswerLaws.{all-within, answer-limit, answer-round, answer-so-far, answer-stop, cause-done, cause-limit, cause-memory, cause-put, first-between, groups-well, next-round, played-count, sends-fit}
use Rattle.round_kernel.proofs.GroupLists.{length-lps}
use Rattle.round_kernel.proofs.EndLaws.{ended, ended-lines}
use Rattle.round_kernel.proofs.RunLaws.{can-merge, round-times, window-of}
use Rattle.round_kernel.proofs.TimeLaws.{none-begins}
use Rattle.round_kernel.proofs.TurnLaws.{round-count}
use Rattle.round_kernel.specs.Turns.{AreTurns}
use Rattle.row_work.specs.Order.{AreNumbers}
use Rattle.round_kernel.proofs.rounds.run_rounds.Goals as goal

pub windows-init : goal.windows-init
windows-init g c = record {
  written = (
    [],
    first-between c.args.world c.args.cut.now (lps_of c.in-Ok.groups.items) c.requires.opens c.requires.fits c.in-Ok.ensures,
    g.met.L.LineOut.begins c.args.lines.now,
  );
  making = refl;
  going = c.requires.going;
  faults = omega arith;
  turns = c.in-Ok-first.ensures;
  few = omega arith;
  within = omega arith;
}

pub play-requires-clause-end : goal.play-requires-clause-end
play-requires-clause-end g c κs within =
    let written = c.windows.invariant.written in
    let window = window-of c.args.world c.args.cut.now c.requires.fits c.windows.groups.items written.0 c.windows.windows c.windows.last.0 written.1 c.stop-stop.result
    c.in-Some.from c.window_end-end.result (sym c.in-Some.is ∙ c.least_time.ensures) c.stop-stop.ensures c.window_end-end.ensures in
    let end = window.within in let stop = c.requires.stop in omega arith

pub play-requires-clause-order : goal.play-requires-clause-order
play-requires-clause-order g c κs within =
    let written = c.windows.invariant.written in
    let turns = c.windows.invariant.turns in
    subst (λ (order : List ℕ). AreNumbers (length c.windows.groups.items) order) (sym c.deref.ensures.value)
    (subst (λ n. AreNumbers n c.windows.turns.order.items) (turns.estimates ∙ sym written.1.count ∙ length-lps c.windows.groups.items) turns.order.numbers)

pub play-requires-clause-well : goal.play-requires-clause-well
play-requires-clause-well g c κs within =
    let written = c.windows.invariant.written in
    groups-well c.args.world c.requires.opens c.args.cut.now c.requires.fits c.windows.groups.items written.0 c.windows.windows c.windows.last.0 written.1
    (g.L.LineOut.HasPut c.args.lines.now c.windows.lines)

pub play-requires-clause-apart : goal.play-requires-clause-apart
play-requires-clause-apart g c κs within gone have =
    let written = c.windows.invariant.written in
    let window = window-of c.args.world c.args.cut.now c.requires.fits c.windows.groups.items written.0 c.windows.windows c.windows.last.0 written.1 c.stop-stop.result
    c.in-Some.from c.window_end-end.result (sym c.in-Some.is ∙ c.least_time.ensures) c.stop-stop.ensures c.window_end-end.ensures in
    can-merge c.args.world c.requires.opens c.args.cut.now c.requires.fits (lps_of c.windows.groups.items) written.0 c.windows.windows c.windows.last.0 written.1
    window.least c.window_end-end.result.0 window.begins window.ends gone have

pub returns-in_default-play-clause-making : goal.returns-in_default-play-clause-making
returns-in_default-play-clause-making g c = c.windows.invariant.making

pub returns-in_default-play-clause-answers : goal.returns-in_default-play-clause-answers
returns-in_default-play-clause-answers g c =
    let written = c.windows.invariant.written in
    answer-so-far c.args.world c.requires.opens c.args.cut.now c.requires.fits c.windows.groups.items written.0 c.windows.windows c.windows.last.0 written.1
    (g.L.LineOut.HasPut c.args.lines.now c.windows.lines) written.2

pub returns-in_default-play-clause-cause : goal.returns-in_default-play-clause-cause
returns-in_default-play-clause-cause g c =
    cause-memory (g.L.LineOut.faults c.args.lines.now) (g.L.LineOut.faults c.windows.lines) c.windows.invariant.faults

pub put_lines-requires-clause-going : goal.put_lines-requires-clause-going
put_lines-requires-clause-going g c κs within = c.windows.invariant.going

pub put_lines-requires-clause-time : goal.put_lines-requires-clause-time
put_lines-requires-clause-time g c κs within =
    let written = c.windows.invariant.written in
    let window = window-of c.args.world c.args.cut.now c.requires.fits c.windows.groups.items written.0 c.windows.windows c.windows.last.0 written.1 c.stop-stop.result
    c.in-Some.from c.window_end-end.result (sym c.in-Some.is ∙ c.least_time.ensures) c.stop-stop.ensures c.window_end-end.ensures in
    subst (λ l. All IsInTime l) (sym c.as_slice.ensures.value)
    (round-times c.args.world c.requires.opens c.args.cut.now c.requires.fits (lps_of c.windows.groups.items) written.0 c.windows.windows c.windows.last.0 written.1
    window.least c.window_end-end.result.0 window.begins window.ends g.P.Pkt.plain c.requires.stop (lps_of c.play.new.groups.items) c.in-Ok-play.round.lines.items
    (plain_sends g.P.Pkt.plain c.in-Ok-play.round.sends.items) c.in-Ok-play.round.stop c.in-Ok-play.ensures)

pub returns-in-Err-clause-answers : goal.returns-in-Err-clause-answers
returns-in-Err-clause-answers g c =
    let written = c.windows.invariant.written in
    let window = window-of c.args.world c.args.cut.now c.requires.fits c.windows.groups.items written.0 c.windows.windows c.windows.last.0 written.1 c.stop-stop.result
    c.in-Some.from c.window_end-end.result (sym c.in-Some.is ∙ c.least_time.ensures) c.stop-stop.ensures c.window_end-end.ensures in
    let put = subst (λ (l : List (Line Packet)). g.L.LineOut.HasPut c.args.lines.now c.put_lines.new.lines (map trace_line (lines_of written.0) ++ l))
    (ap (map (plain_line g.P.Pkt.plain)) c.as_slice.ensures.value) (c.in-Err.ensures.put c.args.lines.now (map trace_line (lines_of written.0)) written.2) in
    answer-stop c.args.world c.args.cut.now (g.L.LineOut.HasPut c.args.lines.now c.put_lines.new.lines) c.in-Err.fault c.in-Err.ensures.why
    (answer-round c.args.world c.requires.opens c.args.cut.now c.requires.fits c.windows.groups.items written.0 c.windows.windows c.windows.last.0 written.1
    (g.L.LineOut.HasPut c.args.lines.now c.put_lines.new.lines) c.window_end-end.result window c.play.new.groups.items
    (map (plain_line g.P.Pkt.plain) c.in-Ok-play.round.lines.items) (plain_sends g.P.Pkt.plain c.in-Ok-play.round.sends.items) c.in-Ok-play.round.stop c.in-Ok-play.ensures put)

pub returns-in-Err-clause-cause : goal.returns-in-Err-clause-cause
returns-in-Err-clause-cause g c =
    cause-put (g.L.LineOut.faults c.args.lines.now) (g.L.LineOut.faults c.windows.lines) (g.L.LineOut.faults c.put_lines.new.lines) c.in-Err.fault
    c.windows.invariant.faults c.in-Err.ensures.cause

pub returns-in-Some-met-clause-making : goal.returns-in-Some-met-clause-making
returns-in-Some-met-clause-making g c = c.in_default-put_lines.ensures.making ∙ c.windows.invariant.making

pub returns-in-Some-met-clause-answers : goal.returns-in-Some-met-clause-answers
returns-in-Some-met-clause-answers g c =
    let written = c.windows.invariant.written in
    let window = window-of c.args.world c.args.cut.now c.requires.fits c.windows.groups.items written.0 c.windows.windows c.windows.last.0 written.1 c.stop-stop.result
    c.in-Some.from c.window_end-end.result (sym c.in-Some.is ∙ c.least_time.ensures) c.stop-stop.ensures c.window_end-end.ensures in
    let played = subst (λ (stop : Option (Key × NodeId)). HavePlayed c.window_end-end.result.0 (lps_of c.windows.groups.items) (lps_of c.play.new.groups.items)
    (map (plain_line g.P.Pkt.plain) c.in-Ok-play.round.lines.items) (plain_sends g.P.Pkt.plain c.in-Ok-play.round.sends.items) stop) c.in-Some-met.is c.in-Ok-play.ensures in
    let put = subst (λ (l : List (Line Packet)). g.L.LineOut.HasPut c.args.lines.now c.put_lines.new.lines (map trace_line (lines_of written.0) ++ l))
    (ap (map (plain_line g.P.Pkt.plain)) c.as_slice.ensures.value) (c.in_default-put_lines.ensures.put c.args.lines.now (map trace_line (lines_of written.0)) written.2) in
    answer-limit c.args.world c.requires.opens c.args.cut.now c.requires.fits c.windows.groups.items written.0 c.windows.windows c.windows.last.0 written.1
    (g.L.LineOut.HasPut c.args.lines.now c.put_lines.new.lines) c.window_end-end.result window c.play.new.groups.items
    (map (plain_line g.P.Pkt.plain) c.in-Ok-play.round.lines.items) (plain_sends g.P.Pkt.plain c.in-Ok-play.round.sends.items) c.in-Some-met.key c.in-Some-met.node played put

pub returns-in-Some-met-clause-cause : goal.returns-in-Some-met-clause-cause
returns-in-Some-met-clause-cause g c =
    cause-limit (g.L.LineOut.faults c.args.lines.now) (g.L.LineOut.faults c.put_lines.new.lines) c.in-Some-met.key c.in-Some-met.node
    (let a = c.windows.invariant.faults in let b = c.in_default-put_lines.ensures.cause.later in omega arith)

pub hand_over-requires-clause-known : goal.hand_over-requires-clause-known
hand_over-requires-clause-known g c κs within =
    let written = c.windows.invariant.written in
    let window = window-of c.args.world c.args.cut.now c.requires.fits c.windows.groups.items written.0 c.windows.windows c.windows.last.0 written.1 c.stop-stop.result
    c.in-Some.from c.window_end-end.result (sym c.in-Some.is ∙ c.least_time.ensures) c.stop-stop.ensures c.window_end-end.ensures in
    let played = subst (λ (stop : Option (Key × NodeId)). HavePlayed c.window_end-end.result.0 (lps_of c.windows.groups.items) (lps_of c.play.new.groups.items)
    (map (plain_line g.P.Pkt.plain) c.in-Ok-play.round.lines.items) (plain_sends g.P.Pkt.plain c.in-Ok-play.round.sends.items) stop) c.in_default-met.is c.in-Ok-play.ensures in
    (sends-fit c.args.world c.requires.opens c.args.cut.now c.requires.fits c.windows.groups.items written.0 c.windows.windows c.windows.last.0 written.1
    (g.L.LineOut.HasPut c.args.lines.now c.put_lines.new.lines) c.window_end-end.result window c.play.new.groups.items
    (map (plain_line g.P.Pkt.plain) c.in-Ok-play.round.lines.items) (plain_sends g.P.Pkt.plain c.in-Ok-play.round.sends.items) played c.as_slice-group_of.result.now c.as_slice-group_of.ensures.value).0

pub hand_over-requires-clause-within : goal.hand_over-requires-clause-within
hand_over-requires-clause-within g c κs within =
    let written = c.windows.invariant.written in
    all-within c.args.cut.now c.args.world c.requires.fits c.as_slice-group_of.result.now (length c.play.new.groups.items) c.as_slice-group_of.ensures.value
    (sym (length-lps c.play.new.groups.items)
    ∙ played-count c.window_end-end.result.0 (lps_of c.windows.groups.items) (lps_of c.play.new.groups.items)
    (map (plain_line g.P.Pkt.plain) c.in-Ok-play.round.lines.items) (plain_sends g.P.Pkt.plain c.in-Ok-play.round.sends.items) c.in-Ok-play.round.stop c.in-Ok-play.ensures
    ∙ written.1.count)

pub hand_over-requires-clause-can : goal.hand_over-requires-clause-can
hand_over-requires-clause-can g c κs within =
    let written = c.windows.invariant.written in
    let window = window-of c.args.world c.args.cut.now c.requires.fits c.windows.groups.items written.0 c.windows.windows c.windows.last.0 written.1 c.stop-stop.result
    c.in-Some.from c.window_end-end.result (sym c.in-Some.is ∙ c.least_time.ensures) c.stop-stop.ensures c.window_end-end.ensures in
    let played = subst (λ (stop : Option (Key × NodeId)). HavePlayed c.window_end-end.result.0 (lps_of c.windows.groups.items) (lps_of c.play.new.groups.items)
    (map (plain_line g.P.Pkt.plain) c.in-Ok-play.round.lines.items) (plain_sends g.P.Pkt.plain c.in-Ok-play.round.sends.items) stop) c.in_default-met.is c.in-Ok-play.ensures in
    (sends-fit c.args.world c.requires.opens c.args.cut.now c.requires.fits c.windows.groups.items written.0 c.windows.windows c.windows.last.0 written.1
    (g.L.LineOut.HasPut c.args.lines.now c.put_lines.new.lines) c.window_end-end.result window c.play.new.groups.items
    (map (plain_line g.P.Pkt.plain) c.in-Ok-play.round.lines.items) (plain_sends g.P.Pkt.plain c.in-Ok-play.round.sends.items) played c.as_slice-group_of.result.now c.as_slice-group_of.ensures.value).1

pub returns-in_default-hand_over-clause-making : goal.returns-in_default-hand_over-clause-making
returns-in_default-hand_over-clause-making g c = c.in_default-put_lines.ensures.making ∙ c.windows.invariant.making

pub returns-in_default-hand_over-clause-answers : goal.returns-in_default-hand_over-clause-answers
returns-in_default-hand_over-clause-answers g c =
    let written = c.windows.invariant.written in
    let window = window-of c.args.world c.args.cut.now c.requires.fits c.windows.groups.items written.0 c.windows.windows c.windows.last.0 written.1 c.stop-stop.result
    c.in-Some.from c.window_end-end.result (sym c.in-Some.is ∙ c.least_time.ensures) c.stop-stop.ensures c.window_end-end.ensures in
    let put = subst (λ (l : List (Line Packet)). g.L.LineOut.HasPut c.args.lines.now c.put_lines.new.lines (map trace_line (lines_of written.0) ++ l))
    (ap (map (plain_line g.P.Pkt.plain)) c.as_slice.ensures.value) (c.in_default-put_lines.ensures.put c.args.lines.now (map trace_line (lines_of written.0)) written.2) in
    answer-round c.args.world c.requires.opens c.args.cut.now c.requires.fits c.windows.groups.items written.0 c.windows.windows c.windows.last.0 written.1
    (g.L.LineOut.HasPut c.args.lines.now c.put_lines.new.lines) c.window_end-end.result window c.play.new.groups.items
    (map (plain_line g.P.Pkt.plain) c.in-Ok-play.round.lines.items) (plain_sends g.P.Pkt.plain c.in-Ok-play.round.sends.items) c.in-Ok-play.round.stop c.in-Ok-play.ensures put

pub returns-in_default-hand_over-clause-cause : goal.returns-in_default-hand_over-clause-cause
returns-in_default-hand_over-clause-cause g c =
    cause-memory (g.L.LineOut.faults c.args.lines.now) (g.L.LineOut.faults c.put_lines.new.lines)
    (let a = c.windows.invariant.faults in let b = c.in_default-put_lines.ensures.cause.later in omega arith)

pub follow-requires-clause-turns : goal.follow-requires-clause-turns
follow-requires-clause-turns g c κs within =
    let written = c.windows.invariant.written in
    subst (λ n. AreTurns n c.windows.turns)
    (sym (round-count _ c.window_end-end.result.0 c.windows.groups.items c.play.new.groups.items c.hand_over.new.groups.items _ _ _ _ c.in-Ok-play.ensures
    c.in-Ok-hand_over.ensures ∙ sym (length-lps c.windows.groups.items) ∙ written.1.count))
    c.windows.invariant.turns

pub overflow_add-windows : goal.overflow_add-windows
overflow_add-windows g c =
    let few = c.windows.invariant.few in let last = c.windows.invariant.within in let stop = c.requires.stop in
    let is = ap (λ (t : Time). t.0) c.stop-stop.ensures in
    let low : c.windows.windows ≤ 10 ^ 12 = omega arith in omega arith

pub windows-smaller : goal.windows-smaller
windows-smaller g c =
    let written = c.windows.invariant.written in
    let window = window-of c.args.world c.args.cut.now c.requires.fits c.windows.groups.items written.0 c.windows.windows c.windows.last.0 written.1 c.stop-stop.result
    c.in-Some.from c.window_end-end.result (sym c.in-Some.is ∙ c.least_time.ensures) c.stop-stop.ensures c.window_end-end.ensures in
    let later = window.later in let within = window.within in
    let is = ap (λ (t : Time). t.0) c.stop-stop.ensures in
    let less : c.stop-stop.result.0 - c.window_end-end.result.0 < c.stop-stop.result.0 - c.windows.last.0 = omega arith in less

pub windows-preserved : goal.windows-preserved
windows-preserved g c =
    let written = c.windows.invariant.written in
    let window = window-of c.args.world c.args.cut.now c.requires.fits c.windows.groups.items written.0 c.windows.windows c.windows.last.0 written.1 c.stop-stop.result
    c.in-Some.from c.window_end-end.result (sym c.in-Some.is ∙ c.least_time.ensures) c.stop-stop.ensures c.window_end-end.ensures in
    let played = subst (λ (stop : Option (Key × NodeId)). HavePlayed c.window_end-end.result.0 (lps_of c.windows.groups.items) (lps_of c.play.new.groups.items)
    (map (plain_line g.P.Pkt.plain) c.in-Ok-play.round.lines.items) (plain_sends g.P.Pkt.plain c.in-Ok-play.round.sends.items) stop) c.in_default-met.is c.in-Ok-play.ensures in
    let put = subst (λ (l : List (Line Packet)). g.L.LineOut.HasPut c.args.lines.now c.put_lines.new.lines (map trace_line (lines_of written.0) ++ l))
    (ap (map (plain_line g.P.Pkt.plain)) c.as_slice.ensures.value) (c.in_default-put_lines.ensures.put c.args.lines.now (map trace_line (lines_of written.0)) written.2) in
    let later = window.later in
    let few = c.windows.invariant.few in
    let low = window.within in
    let is = ap (λ (t : Time). t.0) c.stop-stop.ensures in
    let so_far = c.windows.invariant.faults in
    let more = c.in_default-put_lines.ensures.cause.later in
    record {
      written = next-round c.args.world c.requires.opens c.args.cut.now c.requires.fits c.windows.groups.items written.0 c.windows.windows c.windows.last.0 written.1
          (g.L.LineOut.HasPut c.args.lines.now c.put_lines.new.lines) c.window_end-end.result window c.play.new.groups.items
          (map (plain_line g.P.Pkt.plain) c.in-Ok-play.round.lines.items) (plain_sends g.P.Pkt.plain c.in-Ok-play.round.sends.items) played c.as_slice-group_of.result.now
          c.as_slice-group_of.ensures.value c.hand_over.new.groups.items c.in-Ok-hand_over.ensures put;
      making = c.in_default-put_lines.ensures.making ∙ c.windows.invariant.making;
      going = c.in_default-put_lines.ensures.going;
      faults = omega arith;
      turns = subst (λ n. AreTurns n c.follow.new.self)
          (round-count _ c.window_end-end.result.0 c.windows.groups.items c.play.new.groups.items c.hand_over.new.groups.items _ _ _ _ c.in-Ok-play.ensures
          c.in-Ok-hand_over.ensures ∙ sym (length-lps c.windows.groups.items) ∙ written.1.count)
          c.follow.ensures;
      few = omega arith;
      within = omega arith;
    }

pub report_of-requires-clause-within : goal.report_of-requires-clause-within
report_of-requires-clause-within g c κs within =
    let written = c.windows.invariant.written in
    all-within c.args.cut.now c.args.world c.requires.fits c.as_slice-group_of.result.now (length c.windows.groups.items) c.as_slice-group_of.ensures.value
    (sym (length-lps c.windows.groups.items) ∙ written.1.count)

pub returns-in-Ok-report_of-clause-making : goal.returns-in-Ok-report_of-clause-making
returns-in-Ok-report_of-clause-making g c = c.windows.invariant.making

pub returns-in-Ok-report_of-clause-answers : goal.returns-in-Ok-report_of-clause-answers
returns-in-Ok-report_of-clause-answers g c =
    let written = c.windows.invariant.written in
    let none = none-begins c.args.world c.args.cut.now c.windows.groups.items written.0 c.windows.windows c.windows.last.0 written.1 c.stop-stop.result
    (sym c.in_default-least_time.is ∙ c.least_time.ensures) (sym c.stop-stop.ensures) in (
      ended c.args.world c.requires.opens c.args.cut.now c.requires.fits c.windows.groups.items written.0 c.windows.windows c.windows.last.0 written.1 none c.in-Ok-report_of.report c.in-Ok-report_of.ensures.events c.in-Ok-report_of.ensures.groups
          c.in-Ok-report_of.ensures.windows
          (subst (λ (numbers : List ℕ). (nodes : ℕ → PlainNode) → AreNodes c.windows.groups.items numbers nodes →
          AreCounted nodes (length numbers) c.in-Ok-report_of.report.drops c.in-Ok-report_of.report.apps.items)
          c.as_slice-group_of.ensures.value c.in-Ok-report_of.ensures.nodes),
      subst (λ (l : List (Line Packet)). g.L.LineOut.HasPut c.args.lines.now c.windows.lines l)
          (ended-lines c.args.world c.requires.opens c.args.cut.now c.requires.fits c.windows.groups.items written.0 c.windows.windows c.windows.last.0 written.1 none) written.2,
    )

pub returns-in-Ok-report_of-clause-going : goal.returns-in-Ok-report_of-clause-going
returns-in-Ok-report_of-clause-going g c _ = c.windows.invariant.going

pub returns-in-Ok-report_of-clause-cause : goal.returns-in-Ok-report_of-clause-cause
returns-in-Ok-report_of-clause-cause g c =
    cause-done (g.L.LineOut.faults c.args.lines.now) (g.L.LineOut.faults c.windows.lines) c.in-Ok-report_of.report c.windows.invariant.faults

pub returns-clause-making : goal.returns-clause-making
returns-clause-making g c = c.windows.invariant.making

pub returns-clause-answers : goal.returns-clause-answers
returns-clause-answers g c =
    let written = c.windows.invariant.written in
    answer-so-far c.args.world c.requires.opens c.args.cut.now c.requires.fits c.windows.groups.items written.0 c.windows.windows c.windows.last.0 written.1
    (g.L.LineOut.HasPut c.args.lines.now c.windows.lines) written.2

pub returns-clause-cause : goal.returns-clause-cause
returns-clause-cause g c =
    cause-memory (g.L.LineOut.faults c.args.lines.now) (g.L.LineOut.faults c.windows.lines) c.windows.invariant.faults
