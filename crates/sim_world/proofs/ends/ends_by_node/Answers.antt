use Rattle.std.proofs.Common.{◌≡◌, ℕ, ◌<◌, List, [], fold, length, get_or, take, ap, sym, subst, ◌∙◌, arith}
use Rattle.std.specs.Prelude.{All}
use Rattle.std.specs.List.{enumerate_from, zip}
use Rattle.std.proofs.lemmas.List.{take_all}
use Rattle.std.proofs.lemmas.List.FromFn.{length-enumerate_from}
use Rattle.scenario_form.specs.declared.scenario.Lan.{Lan}
use Rattle.scenario_form.specs.Limits.{IsLan}
use Rattle.sim_world.specs.declared.ends.End.{End}
use Rattle.sim_world.specs.declared.networks.Network.{Network}
use Rattle.sim_world.specs.Grouping.{grouped}
use Rattle.sim_world.specs.Ends.{node_of, with_face, with_lan, with_link}
use Rattle.sim_world.proofs.GroupLaws.{node_there}
use Rattle.sim_world.proofs.EndLaws.{ends_are, few_lans, fold_numbered}
use Rattle.sim_world.proofs.EndLimits.{lan_numbers}
use Rattle.sim_world.proofs.ends.ends_by_node.Goals as goal

is_lan : (nodes : ℕ) (lans : List Lan) (i : ℕ) (lan : Lan) → All (IsLan nodes) lans → i < length lans → lan ≡ get_or lans i lan → IsLan nodes lan
is_lan nodes lans i lan are lt is = subst (IsLan nodes) (sym is) (are i lan lt)

pub lan_network-network-requires : goal.lan_network-network-requires
lan_network-network-requires c =
    lan_numbers c.args.nodes _ (is_lan c.args.nodes c.args.lans.now c.loop-number.number _ c.requires.lans c.loop-number-test.true c.index-lans-number.is)

pub add_lan-requires-clause-members : goal.add_lan-requires-clause-members
add_lan-requires-clause-members c = λ i d lt.
    node_there node_of c.args.nodes _ c.loop-number.ends.items _ c.loop-number.invariant ((is_lan c.args.nodes c.args.lans.now c.loop-number.number _ c.requires.lans c.loop-number-test.true c.index-lans-number.is).below i d lt)

pub add_lan-requires-clause-addrs : goal.add_lan-requires-clause-addrs
add_lan-requires-clause-addrs c = (is_lan c.args.nodes c.args.lans.now c.loop-number.number _ c.requires.lans c.loop-number-test.true c.index-lans-number.is).addrs

pub add_lan-requires-clause-few_members : goal.add_lan-requires-clause-few_members
add_lan-requires-clause-few_members c = (is_lan c.args.nodes c.args.lans.now c.loop-number.number _ c.requires.lans c.loop-number-test.true c.index-lans-number.is).members.to

pub add_lan-requires-clause-few : goal.add_lan-requires-clause-few
add_lan-requires-clause-few c =
    few_lans c.args.nodes c.loop-number.number c.args.links.now c.args.lans.now c.loop-number.ends.items c.requires.few_links c.requires.few_lans c.loop-number-test.true
    c.requires.lans c.loop-number.invariant

pub loop-number-preserved : goal.loop-number-preserved
loop-number-preserved c =
    let before : List End = fold (with_lan (length c.args.links.now)) (fold with_link [] (enumerate_from 0 c.args.links.now)) (take c.loop-number.number (enumerate_from 0 c.args.lans.now)) in
    let lan : Lan = c.index-lans-number.result in
    c.in_ok-add_lan.ensures c.args.nodes before c.loop-number.invariant
    ∙ ap (λ (network : Network). grouped node_of c.args.nodes (fold (with_face network c.loop-number.number) before (zip lan.members lan.addrs))) c.lan_network-network.ensures.value
    ∙ ap (λ (l : Lan). grouped node_of c.args.nodes (with_lan (length c.args.links.now) before (c.loop-number.number, l))) c.index-lans-number.is
    ∙ ap (grouped node_of c.args.nodes)
    (sym (fold_numbered (with_lan (length c.args.links.now)) (fold with_link [] (enumerate_from 0 c.args.links.now)) c.args.lans.now c.loop-number.number lan c.loop-number-test.true))

pub returns : goal.returns
returns c =
    c.loop-number.invariant
    ∙ ap (λ ls. grouped node_of c.args.nodes (fold (with_lan (length c.args.links.now)) (fold with_link [] (enumerate_from 0 c.args.links.now)) ls))
    (take_all c.loop-number.number (enumerate_from 0 c.args.lans.now) (omega (arith, c.loop-number-test.false, length-enumerate_from 0 c.args.lans.now)))
    ∙ ap (grouped node_of c.args.nodes) (sym (ends_are c.args.links.now c.args.lans.now))
