use Rattle.std.proofs.Common.{◌≡◌, take}
use Rattle.sim_world.specs.Grouping.{joined}
use Rattle.sim_world.proofs.graph.all_ends.Given as goal

-- the interfaces of the nodes so far
abbrev pub invariant-loop-there : goal.invariant-loop-there
invariant-loop-there l = l.all.items ≡ joined (take l.there-index l.ends)
