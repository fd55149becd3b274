use Rattle.std.proofs.Common.{◌≡◌, map, take}
use Rattle.partition_cut.specs.AutoCut.{rank}
use Rattle.partition_cut.proofs.automatic.numbers_of.Given as goal

-- the nodes so far have the numbers of their groups
abbrev pub invariant-loop-node : goal.invariant-loop-node
invariant-loop-node l = record {
  numbers : l.numbers.items ≡ map (rank l.labels) (take l.node l.labels);
  next : l.next ≡ rank l.labels l.node;
}
