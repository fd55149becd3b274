use Rattle.std.proofs.Common.{◌≡◌, drop, fold}
use Rattle.sim_world.specs.Routing.{with_own, own_of}
use Rattle.sim_world.proofs.routing.own_addresses.Given as goal

-- the addresses so far, and then those that are left, are all
abbrev pub invariant-loop-end : goal.invariant-loop-end
invariant-loop-end l = fold with_own l.own.keys (drop l.end-index l.ends) ≡ own_of l.ends
