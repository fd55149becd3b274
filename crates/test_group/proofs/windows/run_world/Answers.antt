use Rattle.std.proofs.Common.{List, ap, map, subst, sym}
use Rattle.sim_base.specs.Packet.{Packet}
use Rattle.round_core.specs.Opening.{HaveOwnKeys}
use Rattle.round_core.specs.World.{Event}
use Rattle.node_step.specs.declared.loads.Load.{Load}
use Rattle.node_step.specs.Loads.{plain_event}
use Rattle.node_rules.specs.Worlds.{event_of}
use Rattle.lp_run.specs.Lp.{IsWellLp}
use Rattle.plain_kernel.proofs.Starting.{is-group}
use Rattle.plain_kernel.proofs.Whole.{well}
use Rattle.test_group.proofs.windows.run_world.Goals as goal

pub group_of-requires-after_bounds : goal.group_of-requires-after_bounds
group_of-requires-after_bounds g c κs within =
    subst (λ (l : List (Event (Load Packet))). HaveOwnKeys (λ e. e.key) l) (sym (ap (map event_of) c.whole-part.ensures.first))
    c.requires.opens.own_keys

pub run_group-requires-clause-well : goal.run_group-requires-clause-well
run_group-requires-clause-well g c κs within =
    subst IsWellLp (sym (is-group c.args.world c.in-Ok.group c.whole-part.result.0 (map (plain_event g.P.Pkt.plain) c.whole-part.result.1.items)
    c.in-Ok.ensures c.whole-part.ensures.part c.whole-part.ensures.first))
    (well c.args.world c.requires.opens)
