use Rattle.std.proofs.Common.{length, map}
use Rattle.trace_merge.proofs.MergeLaws.{Merged}
use Rattle.trace_merge.proofs.merging.merge.Given as goal

-- the lists are still groups, of the same lines
abbrev pub invariant-pairs : goal.invariant-pairs
invariant-pairs g l = Merged (map (λ list. list.items) l.fn.groups.items) (map (λ list. list.items) l.lists.items)

abbrev pub decreases-pairs : goal.decreases-pairs
decreases-pairs g l = length l.lists.items
