use Rattle.std.proofs.Common.{◌≡◌, ◌<◌, ℕ, min, length, get_or, take}
use Rattle.partition_cut.specs.Network.{node_lists}
use Rattle.partition_cut.specs.Refusal.{places}
use Rattle.partition_cut.proofs.counting.count_places.Given as goal

-- the places in the groups so far
abbrev pub invariant-loop-group : goal.invariant-loop-group
invariant-loop-group l = record {
  each : length l.counts.items ≡ l.shape.nodes;
  so_far : (node : ℕ) → node < l.shape.nodes → get_or l.counts.items node 0
      ≡ min 2 (places (take l.group-index (node_lists l.groups)) node);
}
