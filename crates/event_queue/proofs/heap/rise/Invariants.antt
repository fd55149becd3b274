use Rattle.std.proofs.Common.{◌≤◌}
use Rattle.std.specs.List.{AllByRecursion}
use Rattle.std.specs.List.Sorted.{IsPermutation}
use Rattle.std_alloc.proofs.HeapSift.{Rising}
use Rattle.event_queue.specs.Heap.{entry_cmp, IsTimed}
use Rattle.event_queue.proofs.KeyOrdering.{entry_cmp-total}
use Rattle.event_queue.proofs.heap.rise.Given as goal

abbrev pub invariant-loop-at : goal.invariant-loop-at
invariant-loop-at l =
    IsPermutation l.initial.heap l.heap × (l.at ≤ l.from) × Rising (entry_cmp l.keys) (entry_cmp-total l.keys) l.initial.heap l.from l.heap l.at × AllByRecursion (IsTimed l.keys) l.heap

abbrev pub decreases-loop-at : goal.decreases-loop-at
decreases-loop-at l = l.at
