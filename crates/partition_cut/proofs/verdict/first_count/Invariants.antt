use Rattle.std.proofs.Common.{◌≡◌, ◌==◌, ◌<◌, ℕ, false, get_or}
use Rattle.partition_cut.proofs.verdict.first_count.Given as goal

-- none of the nodes so far has the count
abbrev pub invariant-loop-node : goal.invariant-loop-node
invariant-loop-node l = (k : ℕ) → k < l.node → (get_or l.counts k 0 == l.count) ≡ false
