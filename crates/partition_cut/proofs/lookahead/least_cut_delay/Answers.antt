use Rattle.std.proofs.Common.{None, sym}
use Rattle.std.proofs.lemmas.List.Sums.{fold_more}
use Rattle.partition_cut.specs.AllowedCut.{least_with_link}
use Rattle.partition_cut.specs.Network.{group_at}
use Rattle.partition_cut.proofs.LookaheadLaws.{lookahead-more}
use Rattle.partition_cut.proofs.lookahead.least_cut_delay.Goals as goal

pub loop-link-preserved : goal.loop-link-preserved
loop-link-preserved c = let g = group_at c.args.group_of.now in record {
  least = rw c.least_with-least.ensures (lookahead-more g c.args.links.now c.loop-link.link-index
      (0, 0, record { 0 = 0 }) c.loop-link.least c.loop-link-test.true c.loop-link.invariant.least);
  value = rw (c.least_with-least.ensures, c.loop-link.invariant.value)
      (sym (fold_more (least_with_link g) None c.args.links.now c.loop-link.link-index (0, 0, record { 0 = 0 }) c.loop-link-test.true));
}
