use Rattle.std.proofs.Common.{◌≡◌, map}
use Rattle.std.specs.List.{range_with_len}
use Rattle.route_calc.specs.Least.{plain}
use Rattle.sim_world.specs.Graph.{net_of}
use Rattle.sim_world.proofs.graph.nets.Given as goal

-- the networks so far
abbrev pub invariant-loop-t : goal.invariant-loop-t
invariant-loop-t l = map plain l.nets.items ≡ map (net_of l.costs l.on) (range_with_len 0 l.t)
