use Rattle.std.proofs.Common.{◌≡◌, take}
use Rattle.sim_world.specs.Grouping.{grouped}
use Rattle.sim_world.specs.Routing.{prefix_of}
use Rattle.sim_world.proofs.routing.by_prefix.Given as goal

-- the routes so far
abbrev pub invariant-loop-entry : goal.invariant-loop-entry
invariant-loop-entry l = l.groups.items ≡ grouped prefix_of 31 (take l.entry-index l.entries)
