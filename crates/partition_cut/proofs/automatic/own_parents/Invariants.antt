use Rattle.std.proofs.Common.{◌≡◌}
use Rattle.std.specs.List.{range_with_len}
use Rattle.partition_cut.proofs.automatic.own_parents.Given as goal

-- the nodes so far are their own parents
abbrev pub invariant-loop-node : goal.invariant-loop-node
invariant-loop-node l = l.parents.items ≡ range_with_len 0 l.node
