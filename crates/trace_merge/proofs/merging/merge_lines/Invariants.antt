use Rattle.std.proofs.Common.{◌+◌, length}
use Rattle.trace_merge.proofs.MergeLaws.{Merging}
use Rattle.trace_merge.proofs.merging.merge_lines.Given as goal

abbrev pub invariant-lines : goal.invariant-lines
invariant-lines g l = Merging l.fn.first.items l.fn.second.items l.lines.items l.left.items l.right.items

abbrev pub decreases-lines : goal.decreases-lines
decreases-lines g l = length l.left.items + length l.right.items
