use Rattle.std.proofs.Common.{◌∙◌}
use Rattle.partition_cut.proofs.RankLaws.{range-more}
use Rattle.partition_cut.proofs.automatic.own_parents.Goals as goal

pub loop-node-preserved : goal.loop-node-preserved
loop-node-preserved c = c.in_ok-push.ensures.items ∙ range-more c.loop-node.parents.items c.loop-node.node c.loop-node.invariant
