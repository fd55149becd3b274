use Rattle.std.proofs.Common.{◌≡◌, ◌++◌, take, map}
use Rattle.sim_world.specs.Graph.{cost_of_lan}
use Rattle.sim_world.proofs.graph.add_lan_costs.Given as goal

-- the costs so far
abbrev pub invariant-loop-lan : goal.invariant-loop-lan
invariant-loop-lan l = l.costs.items ≡ l.fn.costs.items ++ map cost_of_lan (take l.lan-index l.lans)
