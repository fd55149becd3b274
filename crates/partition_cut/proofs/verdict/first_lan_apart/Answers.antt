use Rattle.std.proofs.Common.{◌∙◌, [], length, below_more, sym, ap, arith}
use Rattle.partition_cut.specs.AllowedCut.{is_apart}
use Rattle.partition_cut.specs.Network.{group_at, node_lists}
use Rattle.partition_cut.proofs.CountLaws.{get_or-node_lists, length-node_lists, members-below}
use Rattle.partition_cut.proofs.Positions.{position-some, position-none}
use Rattle.partition_cut.proofs.verdict.first_lan_apart.Goals as goal

pub is_lan_apart-requires : goal.is_lan_apart-requires
is_lan_apart-requires c = members-below c.args.lans.now (length c.args.group_of.now) c.loop-number.number c.index-lans-number.result
    c.as_slice.result.now c.requires.members_in c.loop-number-test.true c.index-lans-number.is c.as_slice.ensures.value

pub returns-then-is_lan_apart : goal.returns-then-is_lan_apart
returns-then-is_lan_apart c =
    let apart = is_apart (group_at c.args.group_of.now) in
    let n = length-node_lists c.args.lans.now in
    let here = get_or-node_lists c.args.lans.now c.loop-number.number c.index-lans-number.result c.loop-number-test.true c.index-lans-number.is
    ∙ sym c.as_slice.ensures.value in
    sym (position-some apart (node_lists c.args.lans.now) c.loop-number.number [] (omega arith) c.loop-number.invariant
    (ap apart here ∙ sym c.is_lan_apart.ensures ∙ c.if-is_lan_apart.true))

pub loop-number-preserved : goal.loop-number-preserved
loop-number-preserved c =
    let apart = is_apart (group_at c.args.group_of.now) in
    let here = get_or-node_lists c.args.lans.now c.loop-number.number c.index-lans-number.result c.loop-number-test.true c.index-lans-number.is
    ∙ sym c.as_slice.ensures.value in
    below_more _ _ c.loop-number.invariant (ap apart here ∙ sym c.is_lan_apart.ensures ∙ c.if-is_lan_apart.false)

pub returns : goal.returns
returns c =
    let n = length-node_lists c.args.lans.now in
    sym (position-none (is_apart (group_at c.args.group_of.now)) (node_lists c.args.lans.now) []
    (λ k lt. c.loop-number.invariant k (omega arith)))
