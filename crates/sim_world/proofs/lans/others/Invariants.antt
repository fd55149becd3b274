use Rattle.std.proofs.Common.{◌≡◌, take}
use Rattle.sim_world.specs.Lans.{others}
use Rattle.sim_world.proofs.lans.others.Given as goal

-- the interfaces so far
abbrev pub invariant-loop-member : goal.invariant-loop-member
invariant-loop-member l = l.places.items ≡ others l.node (take l.member-index l.members)
