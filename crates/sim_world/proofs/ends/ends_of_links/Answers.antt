use Rattle.std.proofs.Common.{[], fold, take, ap, sym, ◌∙◌, arith}
use Rattle.std.specs.List.{enumerate_from}
use Rattle.std.proofs.lemmas.List.{take_all}
use Rattle.std.proofs.lemmas.List.FromFn.{length-enumerate_from}
use Rattle.sim_world.specs.Grouping.{grouped}
use Rattle.sim_world.specs.Ends.{node_of, with_link}
use Rattle.sim_world.proofs.GroupLaws.{grouped-nil, node_there}
use Rattle.sim_world.proofs.EndLaws.{few_links, fold_numbered}
use Rattle.sim_world.proofs.EndLimits.{link_numbers}
use Rattle.sim_world.proofs.ends.ends_of_links.Goals as goal

pub loop-number-init : goal.loop-number-init
loop-number-init c = c.in_ok-ends.ensures ∙ grouped-nil node_of c.args.nodes

pub add_link-requires-clause-numbers : goal.add_link-requires-clause-numbers
add_link-requires-clause-numbers c = link_numbers c.args.nodes _ (c.requires.links c.loop-number.number _ c.loop-number-test.true)

pub add_link-requires-clause-a : goal.add_link-requires-clause-a
add_link-requires-clause-a c =
    node_there node_of c.args.nodes (fold with_link [] (take c.loop-number.number (enumerate_from 0 c.args.links.now))) c.loop-number.ends.items _ c.loop-number.invariant
    (c.requires.links c.loop-number.number _ c.loop-number-test.true).a

pub add_link-requires-clause-b : goal.add_link-requires-clause-b
add_link-requires-clause-b c =
    node_there node_of c.args.nodes (fold with_link [] (take c.loop-number.number (enumerate_from 0 c.args.links.now))) c.loop-number.ends.items _ c.loop-number.invariant
    (c.requires.links c.loop-number.number _ c.loop-number-test.true).b

pub add_link-requires-clause-few : goal.add_link-requires-clause-few
add_link-requires-clause-few c = few_links c.args.nodes c.loop-number.number c.args.links.now c.loop-number.ends.items c.requires.few c.loop-number.invariant

pub loop-number-preserved : goal.loop-number-preserved
loop-number-preserved c =
    c.in_ok-add_link.ensures c.args.nodes (fold with_link [] (take c.loop-number.number (enumerate_from 0 c.args.links.now))) c.loop-number.invariant
    ∙ ap (grouped node_of c.args.nodes) (sym (fold_numbered with_link [] c.args.links.now c.loop-number.number _ c.loop-number-test.true))

pub returns : goal.returns
returns c =
    c.loop-number.invariant
    ∙ ap (λ ls. grouped node_of c.args.nodes (fold with_link [] ls))
    (take_all c.loop-number.number (enumerate_from 0 c.args.links.now) (omega (arith, c.loop-number-test.false, length-enumerate_from 0 c.args.links.now)))
