use Rattle.std.proofs.Common.{◌≡◌, ◌<◌, ℕ, [], false, get_or}
use Rattle.partition_cut.specs.AllowedCut.{is_apart}
use Rattle.partition_cut.specs.Network.{group_at, node_lists}
use Rattle.partition_cut.proofs.verdict.first_lan_apart.Given as goal

-- none of the LANs so far has members in two groups
abbrev pub invariant-loop-number : goal.invariant-loop-number
invariant-loop-number l =
    (k : ℕ) → k < l.number → is_apart (group_at l.group_of) (get_or (node_lists l.lans) k []) ≡ false
