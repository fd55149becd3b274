use Rattle.std.proofs.Common.{◌≡◌, ◌-◌, ◌≤◌, [], length, replicate, vec_len}
use Rattle.sim_world.proofs.grouping.no_items.Given as goal

-- the lists so far are empty
abbrev pub invariant-each : goal.invariant-each
invariant-each g l = record {
  same : l.groups.items ≡ replicate (length l.groups.items) [];
  few : length l.groups.items ≤ l.count;
}

abbrev pub decreases-each : goal.decreases-each
decreases-each g l = l.count - vec_len l.groups
