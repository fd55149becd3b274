use Rattle.std.proofs.Common.{ℕ, List, fold, get_or, map, take, subst}
use Rattle.partition_cut.specs.AutoCut.{joined}
use Rattle.partition_cut.specs.Forest.{LeadTo}
use Rattle.partition_cut.proofs.PairLaws.{lan-more}
use Rattle.partition_cut.proofs.automatic.join_lan.Goals as goal

pub loop-member-preserved : goal.loop-member-preserved
loop-member-preserved c = (
  c.join.ensures.below,
  λ labels lead.
      let first = get_or c.args.lan.now 0 0 in
      let so_far = fold joined labels (map (λ (node : ℕ). (first, node)) (take c.loop-member.member-index c.args.lan.now)) in
      let P : List ℕ → Type 0 = λ ls. LeadTo c.join.new.parents ls in
      subst P (lan-more labels first c.args.lan.now c.loop-member.member-index c.loop-member-test.true)
      (c.join.ensures.leads so_far (c.loop-member.invariant.1 labels lead)),
)
