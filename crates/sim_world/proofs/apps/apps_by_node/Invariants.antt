use Rattle.std.proofs.Common.{◌≡◌, take}
use Rattle.sim_world.specs.Grouping.{grouped}
use Rattle.sim_world.specs.Apps.{node_of, listed_from}
use Rattle.sim_world.proofs.apps.apps_by_node.Given as goal

-- the applications so far
abbrev pub invariant-loop-number : goal.invariant-loop-number
invariant-loop-number l = l.listed.items ≡ grouped node_of l.nodes (take l.number (listed_from 0 l.apps))
