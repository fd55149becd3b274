use Rattle.std.proofs.Common.{◌≡◌, ◌+◌, ◌≤◌, ◌++◌, Some, length, map, reverse, vec_capacity}
use Rattle.row_work.specs.Slots.{IsFilled}
use Rattle.row_work.proofs.slots.empty_slots.Given as goal

-- the items that have come back, the last first
abbrev pub invariant-loop-slot : goal.invariant-loop-slot
invariant-loop-slot g l = record {
  moved : l.slots.items ++ map Some (reverse l.items.items) ≡ l.initial.slots.items;
  full : IsFilled l.slots.items;
  room : length l.slots.items + length l.items.items ≤ vec_capacity l.items;
}

abbrev pub decreases-loop-slot : goal.decreases-loop-slot
decreases-loop-slot g l = length l.slots.items
