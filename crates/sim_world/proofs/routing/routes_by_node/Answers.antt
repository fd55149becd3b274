use Rattle.std.proofs.Common.{take, ap, ◌∙◌, arith}
use Rattle.std.proofs.lemmas.List.{take_all}
use Rattle.sim_world.specs.Grouping.{grouped}
use Rattle.sim_world.specs.Routing.{node_of}
use Rattle.sim_world.proofs.GroupLaws.{grouped-nil, next_pushed, node_there}
use Rattle.sim_world.proofs.routing.routes_by_node.Goals as goal

pub loop-route-init : goal.loop-route-init
loop-route-init c = c.in_ok-listed.ensures ∙ grouped-nil node_of c.args.nodes

pub put-requires : goal.put-requires
put-requires c =
    node_there node_of c.args.nodes (take c.loop-route.route-index c.args.routes.now) c.loop-route.listed.items _ c.loop-route.invariant
    (c.requires c.loop-route.route-index _ c.loop-route-test.true).node

pub loop-route-preserved : goal.loop-route-preserved
loop-route-preserved c =
    next_pushed node_of c.args.nodes c.args.routes.now c.loop-route.route-index _ c.loop-route.listed.items c.put.new.groups.items c.loop-route-test.true
    (c.requires c.loop-route.route-index _ c.loop-route-test.true).node c.loop-route.invariant c.in_ok-put.ensures

pub returns : goal.returns
returns c =
    c.loop-route.invariant ∙ ap (grouped node_of c.args.nodes) (take_all c.loop-route.route-index c.args.routes.now (omega (arith, c.loop-route-test.false)))
