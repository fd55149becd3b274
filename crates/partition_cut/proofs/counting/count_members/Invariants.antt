use Rattle.std.proofs.Common.{◌≡◌, ◌==◌, ◌+◌, ◌≤◌, ◌<◌, ℕ, All, count_by, min, length, get_or, take}
use Rattle.partition_cut.proofs.counting.count_members.Given as goal

-- the counts of the members so far
abbrev pub invariant-loop-member : goal.invariant-loop-member
invariant-loop-member l = record {
  small : All (λ count. count ≤ 2) l.counts;
  so_far : (node : ℕ) → node < length l.counts → get_or l.counts node 0
      ≡ min 2 (get_or l.initial.counts node 0 + count_by (λ member. member == node) (take l.member-index l.members));
}
