use Rattle.std.proofs.Common.{◌≡◌, false, take}
use Rattle.std.specs.List.{list_any}
use Rattle.std.proofs.Common.{not, ◌==◌, get_or}
use Rattle.partition_cut.proofs.verdict.is_lan_apart.Given as goal

-- none of the members so far is in another group than the first
abbrev pub invariant-loop-member : goal.invariant-loop-member
invariant-loop-member l =
    list_any (λ node. not (get_or l.group_of node 0 == get_or l.group_of (get_or l.lan 0 0) 0)) (take l.member-index l.lan) ≡ false
