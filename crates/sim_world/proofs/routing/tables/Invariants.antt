use Rattle.std.proofs.Common.{◌≡◌, ◌≤◌, ◌++◌, map}
use Rattle.sim_world.specs.Routing.{seen, tables_below}
use Rattle.sim_world.proofs.routing.tables.Given as goal

-- the tables so far, and those of shorter prefixes, are all
abbrev pub invariant-loop-prefix : goal.invariant-loop-prefix
invariant-loop-prefix l = record {
  short : l.prefix ≤ 31;
  all : map seen l.tables.items ++ tables_below l.prefix l.entries ≡ tables_below 31 l.entries;
}

abbrev pub decreases-loop-prefix : goal.decreases-loop-prefix
decreases-loop-prefix l = l.prefix
