use Rattle.std.proofs.Common.{◌≡◌, take}
use Rattle.partition_cut.specs.AllowedCut.{IsLookahead, lookahead_of}
use Rattle.partition_cut.specs.Network.{group_at}
use Rattle.partition_cut.proofs.lookahead.least_cut_delay.Given as goal

-- the least delay of the links so far
abbrev pub invariant-loop-link : goal.invariant-loop-link
invariant-loop-link l = record {
  least : IsLookahead (group_at l.group_of) (take l.link-index l.links) l.least;
  value : l.least ≡ lookahead_of (group_at l.group_of) (take l.link-index l.links);
}
