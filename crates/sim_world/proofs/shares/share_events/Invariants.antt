use Rattle.std.proofs.Common.{◌<◌, length, map, reverse}
use Rattle.std.specs.List.{AllByRecursion}
use Rattle.node_step.specs.Loads.{plain_event}
use Rattle.sim_world.specs.Shares.{KeepNodes}
use Rattle.sim_world.proofs.shares.share_events.Given as goal

-- the events that are left are for nodes that there are, and the others have gone to their groups
abbrev pub invariant-events : goal.invariant-events
invariant-events g l = record {
  known : AllByRecursion (λ e. e.key.node.0 < length l.group_of) (map (plain_event g.P.Pkt.plain) (reverse l.events.items));
  keep : KeepNodes l.group_of (map (plain_event g.P.Pkt.plain) l.fn.events.items) (map (plain_event g.P.Pkt.plain) (reverse l.events.items)) l.fn.shares.items l.shares.items;
}

abbrev pub decreases-events : goal.decreases-events
decreases-events g l = length l.events.items
