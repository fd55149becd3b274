use Rattle.std.proofs.Common.{ℕ, List, fold, take, subst}
use Rattle.partition_cut.specs.AutoCut.{joined, pairs_of_links}
use Rattle.partition_cut.specs.Forest.{LeadTo}
use Rattle.partition_cut.specs.Network.{Link}
use Rattle.partition_cut.proofs.PairLaws.{links-more}
use Rattle.partition_cut.proofs.automatic.join_links.Goals as goal

pub loop-link-preserved : goal.loop-link-preserved
loop-link-preserved c = (
  c.join_link.ensures.below,
  λ labels lead.
      let d : Link = (0, 0, record { 0 = 0 }) in
      let so_far = fold joined labels (pairs_of_links c.args.threshold (take c.loop-link.link-index c.args.links.now)) in
      let P : List ℕ → Type 0 = λ ls. LeadTo c.join_link.new.parents ls in
      subst P (links-more c.args.threshold labels c.args.links.now c.loop-link.link-index d c.loop-link-test.true)
      (c.join_link.ensures.leads so_far (c.loop-link.invariant.1 labels lead)),
)
