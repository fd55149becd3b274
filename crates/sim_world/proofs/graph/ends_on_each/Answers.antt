use Rattle.std.proofs.Common.{take, ap, ◌∙◌, arith}
use Rattle.std.proofs.lemmas.List.{take_all}
use Rattle.sim_world.specs.Grouping.{grouped}
use Rattle.sim_world.specs.Graph.{number_of}
use Rattle.sim_world.proofs.GroupLaws.{grouped-nil, next_pushed, node_there}
use Rattle.sim_world.proofs.graph.ends_on_each.Goals as goal

pub loop-end-init : goal.loop-end-init
loop-end-init c = c.in_ok-on.ensures ∙ grouped-nil number_of c.args.count

pub put-requires : goal.put-requires
put-requires c =
    node_there number_of c.args.count (take c.loop-end.end-index c.args.ends.now) c.loop-end.on.items _ c.loop-end.invariant
    (c.requires c.loop-end.end-index _ c.loop-end-test.true)

pub loop-end-preserved : goal.loop-end-preserved
loop-end-preserved c =
    next_pushed number_of c.args.count c.args.ends.now c.loop-end.end-index _ c.loop-end.on.items c.put.new.groups.items c.loop-end-test.true
    (c.requires c.loop-end.end-index _ c.loop-end-test.true) c.loop-end.invariant c.in_ok-put.ensures

pub returns : goal.returns
returns c =
    c.loop-end.invariant ∙ ap (grouped number_of c.args.count) (take_all c.loop-end.end-index c.args.ends.now (omega (arith, c.loop-end-test.false)))
