use Rattle.std.proofs.Common.{◌≡◌, ◌+◌, ◌≤◌, ◌++◌, Some, map, length, reverse, vec_capacity}
use Rattle.row_work.proofs.slots.fill_slots.Given as goal

-- the slots hold the items that have left, the last first
abbrev pub invariant-loop-item : goal.invariant-loop-item
invariant-loop-item g l = record {
  moved : map Some l.items.items ++ reverse l.slots.items ≡ map Some l.initial.items.items;
  room : length l.items.items + length l.slots.items ≤ vec_capacity l.slots;
  kept : vec_capacity l.items ≡ vec_capacity l.initial.items;
}

abbrev pub decreases-loop-item : goal.decreases-loop-item
decreases-loop-item g l = length l.items.items
