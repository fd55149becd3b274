use Rattle.std.proofs.Common.{◌≡◌, drop, fold}
use Rattle.sim_world.specs.Routing.{with_way, ways_to}
use Rattle.sim_world.proofs.routing.ways.Given as goal

-- the ways so far, and then those of the entries that are left, are all
abbrev pub invariant-loop-entry : goal.invariant-loop-entry
invariant-loop-entry l = fold with_way l.ways.entries (drop l.entry-index l.entries) ≡ ways_to l.entries
