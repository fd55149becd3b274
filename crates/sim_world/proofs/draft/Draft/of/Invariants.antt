use Rattle.std.proofs.Common.{◌≡◌, map}
use Rattle.std.specs.List.{range_with_len, flat_map}
use Rattle.node_step.specs.Loads.{plain_event}
use Rattle.sim_world.specs.Plan.{planned_node, planned_ticks}
use Rattle.sim_world.proofs.draft.Draft.of.Given as goal

-- the nodes so far, and their ticks
abbrev pub invariant-loop-number : goal.invariant-loop-number
invariant-loop-number g l = record {
  nodes : l.draft.nodes.items ≡ map (planned_node l.told l.seed l.losses l.plan) (range_with_len 0 l.number);
  first : map (plain_event g.P.Pkt.plain) l.draft.first.items ≡ flat_map (planned_ticks l.plan) (range_with_len 0 l.number);
}
