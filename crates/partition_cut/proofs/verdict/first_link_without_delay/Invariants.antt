use Rattle.std.proofs.Common.{◌≡◌, ◌==◌, ◌&&◌, ◌<◌, ℕ, false, get_or}
use Rattle.partition_cut.specs.AllowedCut.{is_cut}
use Rattle.partition_cut.specs.Network.{Link, group_at}
use Rattle.partition_cut.proofs.verdict.first_link_without_delay.Given as goal

-- none of the links so far has no delay and its ends in two groups
abbrev pub invariant-loop-number : goal.invariant-loop-number
invariant-loop-number l = (k : ℕ) (d : Link) → k < l.number →
    (is_cut (group_at l.group_of) (get_or l.links k d) && ((get_or l.links k d).2.0 == 0)) ≡ false
