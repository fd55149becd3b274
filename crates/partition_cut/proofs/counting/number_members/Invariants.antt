use Rattle.std.proofs.Common.{◌≡◌, ◌==◌, ◌<◌, ℕ, length, get_or, take, if◌then◌else◌}
use Rattle.std.specs.List.{list_any}
use Rattle.partition_cut.proofs.counting.number_members.Given as goal

-- the members so far have the number
abbrev pub invariant-loop-member : goal.invariant-loop-member
invariant-loop-member l = (node : ℕ) → node < length l.numbers → get_or l.numbers node 0
    ≡ (if list_any (λ member. member == node) (take l.member-index l.members) then l.group else get_or l.initial.numbers node 0)
