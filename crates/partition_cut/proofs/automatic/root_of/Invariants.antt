use Rattle.partition_cut.proofs.ForestLaws.{IsAbove}
use Rattle.partition_cut.proofs.automatic.root_of.Given as goal

abbrev pub invariant-loop-parents : goal.invariant-loop-parents
invariant-loop-parents l = IsAbove l.initial.parents l.parents l.node l.at

abbrev pub decreases-loop-parents : goal.decreases-loop-parents
decreases-loop-parents l = l.at
