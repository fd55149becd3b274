use Rattle.std.proofs.Common.{◌≡◌, take}
use Rattle.sim_world.specs.Grouping.{grouped}
use Rattle.sim_world.specs.Routing.{node_of}
use Rattle.sim_world.proofs.routing.routes_by_node.Given as goal

-- the routes so far
abbrev pub invariant-loop-route : goal.invariant-loop-route
invariant-loop-route l = l.listed.items ≡ grouped node_of l.nodes (take l.route-index l.routes)
