use Rattle.std.proofs.Common.{ℕ, arith}
use Rattle.std.proofs.lemmas.List.{length-set}
use Rattle.partition_cut.proofs.ForestLaws.{all-labelled, label-more}
use Rattle.partition_cut.proofs.automatic.label_nodes.Goals as goal

pub loop-node-preserved : goal.loop-node-preserved
loop-node-preserved c = (
  omega (arith, length-set {A = ℕ}),
  label-more c.args.parents.now c.loop-node.parents c.loop-node.node c.loop-node.invariant.0 c.requires (omega arith) c.loop-node.invariant.1,
)

pub returns : goal.returns
returns c labels lead = all-labelled c.args.parents.now c.loop-node.parents labels c.loop-node.node c.loop-node.invariant.0 (omega arith) c.loop-node.invariant.1 lead
