use Rattle.std.proofs.Common.{◌≡◌, ℕ, take}
use Rattle.std.specs.Ordering.{nat_cmp}
use Rattle.std.specs.BTreeMap.{get}
use Rattle.sim_world.specs.Grouping.{joined}
use Rattle.sim_world.specs.Routing.{holder_of}
use Rattle.sim_world.proofs.routing.holders.Given as goal

-- the first of the interfaces so far
abbrev pub invariant-loop-there : goal.invariant-loop-there
invariant-loop-there l = (addr : ℕ) → get nat_cmp l.holders addr ≡ holder_of (joined (take l.there-index l.ends)) addr
