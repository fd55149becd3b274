use Rattle.std.proofs.Common.{◌≡◌, length}
use Rattle.partition_cut.proofs.ForestLaws.{AreLabelled}
use Rattle.partition_cut.proofs.automatic.label_nodes.Given as goal

-- the nodes so far have their labels
abbrev pub invariant-loop-node : goal.invariant-loop-node
invariant-loop-node l = (length l.parents ≡ length l.initial.parents) × AreLabelled l.initial.parents l.parents l.node
