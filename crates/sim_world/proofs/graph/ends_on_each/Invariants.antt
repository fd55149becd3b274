use Rattle.std.proofs.Common.{◌≡◌, take}
use Rattle.sim_world.specs.Grouping.{grouped}
use Rattle.sim_world.specs.Graph.{number_of}
use Rattle.sim_world.proofs.graph.ends_on_each.Given as goal

-- the interfaces so far
abbrev pub invariant-loop-end : goal.invariant-loop-end
invariant-loop-end l = l.on.items ≡ grouped number_of l.count (take l.end-index l.ends)
