use Rattle.std.proofs.Common.{◌∙◌, ap, map, refl, subst, List, []}
use Rattle.std.proofs.lemmas.List.{append-nil}
use Rattle.sim_base.specs.Packet.{Packet}
use Rattle.pkt_face.specs.declared.line.Line.{Line}
use Rattle.pkt_face.specs.Seen.{plain_line}
use Rattle.plain_kernel.specs.declared.outcome.Outcome.{Outcome}
use Rattle.plain_kernel.specs.Run.{run_lines}
use Rattle.plain_kernel.specs.Stop.{IsOutcome}
use Rattle.plain_kernel.proofs.Times.{in-time}
use Rattle.plain_kernel.proofs.run.run_plain.Goals as goal

pub put-requires-clause-time : goal.put-requires-clause-time
put-requires-clause-time g c = in-time g.P.Pkt.plain c.args.world.stop.0 c.requires.stop c.args.world c.deref.result.now refl
    (ap (map (plain_line g.P.Pkt.plain)) c.deref.ensures.value ∙ c.in-Ok.ensures.lines)

pub returns-in-Err-Failed-clause-answers : goal.returns-in-Err-Failed-clause-answers
returns-in-Err-Failed-clause-answers g c = (
  run_lines c.args.world,
  ([], append-nil (run_lines c.args.world)),
  subst (λ (l : List (Line Packet)). g.L.LineOut.HasPut c.args.lines.now c.put.new.self l)
      (ap (map (plain_line g.P.Pkt.plain)) c.deref.ensures.value ∙ c.in-Ok.ensures.lines)
      (c.in-Err-Failed.ensures.lines c.args.lines.now [] (g.met.L.LineOut.begins c.args.lines.now)),
)

pub returns-in-Err-NoMemory-clause-answers : goal.returns-in-Err-NoMemory-clause-answers
returns-in-Err-NoMemory-clause-answers g c = (
  run_lines c.args.world,
  ([], append-nil (run_lines c.args.world)),
  subst (λ (l : List (Line Packet)). g.L.LineOut.HasPut c.args.lines.now c.put.new.self l)
      (ap (map (plain_line g.P.Pkt.plain)) c.deref.ensures.value ∙ c.in-Ok.ensures.lines)
      (c.in-Err-NoMemory.ensures.lines c.args.lines.now [] (g.met.L.LineOut.begins c.args.lines.now)),
)

pub returns-in-Done-clause-answers : goal.returns-in-Done-clause-answers
returns-in-Done-clause-answers g c = (
  subst (λ (outcome : Outcome). IsOutcome c.args.world outcome) c.in-Done.is c.in-Ok.ensures.outcome,
  subst (λ (l : List (Line Packet)). g.L.LineOut.HasPut c.args.lines.now c.put.new.self l)
      (ap (map (plain_line g.P.Pkt.plain)) c.deref.ensures.value ∙ c.in-Ok.ensures.lines)
      (c.in-Ok-put.ensures.lines c.args.lines.now [] (g.met.L.LineOut.begins c.args.lines.now)),
)

pub returns-clause-answers : goal.returns-clause-answers
returns-clause-answers g c = (
  subst (λ (outcome : Outcome). IsOutcome c.args.world outcome) c.in-Limit.is c.in-Ok.ensures.outcome,
  subst (λ (l : List (Line Packet)). g.L.LineOut.HasPut c.args.lines.now c.put.new.self l)
      (ap (map (plain_line g.P.Pkt.plain)) c.deref.ensures.value ∙ c.in-Ok.ensures.lines)
      (c.in-Ok-put.ensures.lines c.args.lines.now [] (g.met.L.LineOut.begins c.args.lines.now)),
)
