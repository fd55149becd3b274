use Rattle.std.proofs.Common.{◌≡◌, ◌++◌, length, map, reverse}
use Rattle.sim_world.specs.Shares.{as_part, part_seen}
use Rattle.sim_world.proofs.shares.parts_of.Given as goal

-- the parts so far, and then those of the shares that are left, are those of all
abbrev pub invariant-shares : goal.invariant-shares
invariant-shares g l =
    map (part_seen g.P.Pkt.plain) l.parts.items ++ map (as_part l.lans l.limit) (reverse l.shares.items) ≡ map (as_part l.lans l.limit) l.fn.shares.items

abbrev pub decreases-shares : goal.decreases-shares
decreases-shares g l = length l.shares.items
