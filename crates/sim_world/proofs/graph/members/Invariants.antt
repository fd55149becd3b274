use Rattle.std.proofs.Common.{◌≡◌, take, map}
use Rattle.sim_world.specs.Graph.{member_of}
use Rattle.sim_world.proofs.graph.members.Given as goal

-- the members so far
abbrev pub invariant-loop-end : goal.invariant-loop-end
invariant-loop-end l = l.members.items ≡ map member_of (take l.end-index l.ends)
