use Rattle.std.proofs.Common.{◌∙◌, ℕ, List, length, fold, flat_map, take, sym, ap, subst, arith}
use Rattle.partition_cut.specs.AutoCut.{joined, pairs_of_lan}
use Rattle.partition_cut.specs.Forest.{LeadTo}
use Rattle.partition_cut.specs.Network.{node_lists}
use Rattle.partition_cut.proofs.CountLaws.{get_or-node_lists, length-node_lists, members-below}
use Rattle.partition_cut.proofs.PairLaws.{lans-more}
use Rattle.partition_cut.proofs.automatic.join_lans.Goals as goal

pub join_lan-requires-clause-members : goal.join_lan-requires-clause-members
join_lan-requires-clause-members c k d lt =
    let h = members-below c.args.lans.now (length c.args.parents.now) c.loop-lan.lan-index c.lan-item.result c.as_slice.result.now
    c.requires.members c.loop-lan-test.true c.lan-item.is c.as_slice.ensures.value k d lt in omega arith

pub loop-lan-preserved : goal.loop-lan-preserved
loop-lan-preserved c = (
  c.join_lan.ensures.below,
  λ labels lead.
      let lans = node_lists c.args.lans.now in
      let i = c.loop-lan.lan-index in
      let n = length-node_lists c.args.lans.now in
      let here = get_or-node_lists c.args.lans.now i c.lan-item.result c.loop-lan-test.true c.lan-item.is ∙ sym c.as_slice.ensures.value in
      let so_far = fold joined labels (flat_map pairs_of_lan (take i lans)) in
      let P : List ℕ → Type 0 = λ ls. LeadTo c.join_lan.new.parents ls in
      subst P (ap (λ (l : List ℕ). fold joined so_far (pairs_of_lan l)) (sym here) ∙ lans-more labels lans i (omega arith))
      (c.join_lan.ensures.leads so_far (c.loop-lan.invariant.1 labels lead)),
)
