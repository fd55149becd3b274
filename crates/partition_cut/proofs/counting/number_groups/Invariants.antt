use Rattle.std.proofs.Common.{◌≡◌, ◌<◌, ℕ, length, get_or, take}
use Rattle.partition_cut.specs.Network.{node_lists}
use Rattle.partition_cut.specs.Refusal.{group_in}
use Rattle.partition_cut.proofs.counting.number_groups.Given as goal

-- the groups so far have their numbers
abbrev pub invariant-loop-number : goal.invariant-loop-number
invariant-loop-number l = record {
  each : length l.numbers.items ≡ l.shape.nodes;
  so_far : (node : ℕ) → node < l.shape.nodes → get_or l.numbers.items node 0
      ≡ group_in (take l.number (node_lists l.groups)) node;
}
