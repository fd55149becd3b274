use Rattle.std.proofs.Common.{◌≡◌, ◌-◌, ◌≤◌, All, length, vec_len}
use Rattle.sim_world.specs.Shares.{empty_share}
use Rattle.sim_world.proofs.shares.no_shares.Given as goal

-- the shares so far are empty
abbrev pub invariant-each : goal.invariant-each
invariant-each g l = record {
  empty : All (λ share. share ≡ empty_share l.nodes) l.shares.items;
  few : length l.shares.items ≤ l.groups;
}

abbrev pub decreases-each : goal.decreases-each
decreases-each g l = l.groups - vec_len l.shares
