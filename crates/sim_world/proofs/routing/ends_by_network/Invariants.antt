use Rattle.std.proofs.Common.{◌≡◌, ℕ, take}
use Rattle.std.specs.Ordering.{nat_cmp}
use Rattle.std.specs.BTreeMap.{get}
use Rattle.sim_world.specs.Routing.{first_on}
use Rattle.sim_world.proofs.routing.ends_by_network.Given as goal

-- the first of the interfaces so far
abbrev pub invariant-loop-end : goal.invariant-loop-end
invariant-loop-end l = (number : ℕ) → get nat_cmp l.on number ≡ first_on (take l.end-index l.ends) number
