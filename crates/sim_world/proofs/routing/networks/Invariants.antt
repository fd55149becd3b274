use Rattle.std.proofs.Common.{◌≡◌, take, map}
use Rattle.sim_world.specs.Routing.{connected}
use Rattle.sim_world.proofs.routing.networks.Given as goal

-- the networks so far
abbrev pub invariant-loop-end : goal.invariant-loop-end
invariant-loop-end l = l.entries.items ≡ map connected (take l.end-index l.ends)
