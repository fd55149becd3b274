use Rattle.std.proofs.Common.{◌≡◌, take, map}
use Rattle.sim_world.specs.Graph.{cost_of_link}
use Rattle.sim_world.proofs.graph.link_costs.Given as goal

-- the costs so far
abbrev pub invariant-loop-link : goal.invariant-loop-link
invariant-loop-link l = l.costs.items ≡ map cost_of_link (take l.link-index l.links)
