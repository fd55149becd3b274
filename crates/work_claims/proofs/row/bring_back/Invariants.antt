use Rattle.std.proofs.Common.{◌≡◌, ◌+◌, ◌≤◌, ◌++◌, length, reverse, vec_capacity}
use Rattle.std.specs.List.{flat_map}
use Rattle.std.specs.Option.{option_to_list}
use Rattle.work_claims.proofs.row.bring_back.Given as goal

-- the items that have come back, the last first
abbrev pub invariant-loop-slot : goal.invariant-loop-slot
invariant-loop-slot g l =
    record {
      moved : flat_map option_to_list l.slots.items ++ reverse l.items.items ≡ flat_map option_to_list l.initial.slots.items;
      room : length l.slots.items + length l.items.items ≤ vec_capacity l.items;
    }

abbrev pub decreases-loop-slot : goal.decreases-loop-slot
decreases-loop-slot g l = length l.slots.items
