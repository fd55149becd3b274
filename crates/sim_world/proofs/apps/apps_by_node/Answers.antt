use Rattle.std.proofs.Common.{take, ap, ◌∙◌, arith}
use Rattle.std.proofs.lemmas.List.{take_all}
use Rattle.sim_world.specs.Grouping.{grouped}
use Rattle.sim_world.specs.Apps.{node_of, listed_from}
use Rattle.sim_world.proofs.GroupLaws.{grouped-nil, node_there}
use Rattle.sim_world.proofs.AppLaws.{pushed, length-listed_from}
use Rattle.sim_world.proofs.apps.apps_by_node.Goals as goal

pub loop-number-init : goal.loop-number-init
loop-number-init c = c.in_ok-listed.ensures ∙ grouped-nil node_of c.args.nodes

pub put-requires : goal.put-requires
put-requires c =
    node_there node_of c.args.nodes (take c.loop-number.number (listed_from 0 c.args.apps.now)) c.loop-number.listed.items _ c.loop-number.invariant
    (c.requires.apps c.loop-number.number _ c.loop-number-test.true).node

pub loop-number-preserved : goal.loop-number-preserved
loop-number-preserved c =
    pushed c.args.nodes c.args.apps.now c.loop-number.number _ c.loop-number.listed.items c.put.new.groups.items c.loop-number-test.true
    (c.requires.apps c.loop-number.number _ c.loop-number-test.true).node c.loop-number.invariant c.in_ok-put.ensures

pub returns : goal.returns
returns c =
    c.loop-number.invariant
    ∙ ap (grouped node_of c.args.nodes) (take_all c.loop-number.number (listed_from 0 c.args.apps.now) (omega (arith, c.loop-number-test.false, length-listed_from 0 c.args.apps.now)))
