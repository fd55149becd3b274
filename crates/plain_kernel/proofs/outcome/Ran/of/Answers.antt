use Rattle.std.proofs.Common.{◌∙◌, ap, map, subst, sym, List, []}
use Rattle.sim_base.specs.Packet.{Packet}
use Rattle.round_core.specs.World.{Event}
use Rattle.node_step.specs.declared.loads.Load.{Load}
use Rattle.node_step.specs.Loads.{plain_event}
use Rattle.node_rules.specs.Worlds.{event_of}
use Rattle.lp_run.specs.Lp.{IsWellLp}
use Rattle.lp_run.specs.Pending.{AreNew}
use Rattle.plain_kernel.proofs.Endings.{done-lines, limited}
use Rattle.plain_kernel.proofs.Starting.{all-new, ended, is-group, meets, ran, stopped}
use Rattle.plain_kernel.proofs.Whole.{well}
use Rattle.plain_kernel.proofs.outcome.Ran.of.Goals as goal

pub make-requires-after_bounds : goal.make-requires-after_bounds
make-requires-after_bounds g c κs within =
    subst (λ (l : List (Event (Load Packet))). AreNew l []) (sym (ap (map event_of) c.whole-part.ensures.first))
    (all-new (map event_of c.args.world.first) c.requires.opens.own_keys)

pub run_below-requires-clause-well : goal.run_below-requires-clause-well
run_below-requires-clause-well g c κs within =
    subst IsWellLp (sym (is-group c.args.world c.in_ok-group.group c.whole-part.result.0 (map (plain_event g.P.Pkt.plain) c.whole-part.result.1.items)
    c.in_ok-group.ensures c.whole-part.ensures.part c.whole-part.ensures.first))
    (well c.args.world c.requires.opens)

pub returns-in-Ok-clause-outcome : goal.returns-in-Ok-clause-outcome
returns-in-Ok-clause-outcome g c =
    ended c.args.world c.requires.opens c.run_below.new.self
    (ran c.args.world c.stop-stop.result c.in_ok-group.group c.run_below.new.self c.stop-stop.ensures (is-group c.args.world c.in_ok-group.group c.whole-part.result.0 (map (plain_event g.P.Pkt.plain) c.whole-part.result.1.items)
    c.in_ok-group.ensures c.whole-part.ensures.part c.whole-part.ensures.first) c.requires.opens c.in-Ok.ensures.run)
    c.in_ok-report-in-Ok.report c.in_ok-report-in-Ok.ensures.events c.in_ok-report-in-Ok.ensures.drops c.in_ok-report-in-Ok.ensures.apps
    c.in_ok-report-in-Ok.ensures.none.0 c.in_ok-report-in-Ok.ensures.none.1

pub returns-in-Ok-clause-lines : goal.returns-in-Ok-clause-lines
returns-in-Ok-clause-lines g c =
    c.take_lines-lines.ensures.lines ∙ done-lines c.args.world c.requires.opens c.run_below.new.self
    (ran c.args.world c.stop-stop.result c.in_ok-group.group c.run_below.new.self c.stop-stop.ensures (is-group c.args.world c.in_ok-group.group c.whole-part.result.0 (map (plain_event g.P.Pkt.plain) c.whole-part.result.1.items)
    c.in_ok-group.ensures c.whole-part.ensures.part c.whole-part.ensures.first) c.requires.opens c.in-Ok.ensures.run)

pub returns-in-Err-Limit-clause-outcome : goal.returns-in-Err-Limit-clause-outcome
returns-in-Err-Limit-clause-outcome g c =
    meets c.args.world c.requires.opens c.run_below.new.self c.in-Err-Limit.key c.in-Err-Limit.node
    (stopped c.args.world c.stop-stop.result c.in_ok-group.group c.run_below.new.self c.stop-stop.ensures (is-group c.args.world c.in_ok-group.group c.whole-part.result.0 (map (plain_event g.P.Pkt.plain) c.whole-part.result.1.items)
    c.in_ok-group.ensures c.whole-part.ensures.part c.whole-part.ensures.first)
    c.in-Err-Limit.field-0 c.in-Err-Limit.key c.in-Err-Limit.node c.in-Err-Limit.field-0-is c.in-Err-Limit.ensures.stop)

pub returns-in-Err-Limit-clause-lines : goal.returns-in-Err-Limit-clause-lines
returns-in-Err-Limit-clause-lines g c =
    c.take_lines-lines-in-Err-Limit.ensures.lines ∙ (limited c.args.world c.requires.opens c.run_below.new.self c.in-Err-Limit.key c.in-Err-Limit.node
    (stopped c.args.world c.stop-stop.result c.in_ok-group.group c.run_below.new.self c.stop-stop.ensures (is-group c.args.world c.in_ok-group.group c.whole-part.result.0 (map (plain_event g.P.Pkt.plain) c.whole-part.result.1.items)
    c.in_ok-group.ensures c.whole-part.ensures.part c.whole-part.ensures.first)
    c.in-Err-Limit.field-0 c.in-Err-Limit.key c.in-Err-Limit.node c.in-Err-Limit.field-0-is c.in-Err-Limit.ensures.stop)).2
