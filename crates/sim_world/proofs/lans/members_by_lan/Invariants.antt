use Rattle.std.proofs.Common.{◌≡◌, take}
use Rattle.sim_world.specs.Grouping.{joined}
use Rattle.sim_world.specs.Lans.{members_of}
use Rattle.sim_world.proofs.lans.members_by_lan.Given as goal

-- the members so far
abbrev pub invariant-loop-there : goal.invariant-loop-there
invariant-loop-there l = l.members.items ≡ members_of l.lans (joined (take l.there-index l.ends))
