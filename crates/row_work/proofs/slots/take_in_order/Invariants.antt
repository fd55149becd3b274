use Rattle.std.proofs.Common.{◌≤◌, length, vec_capacity}
use Rattle.row_work.proofs.SlotLaws.{TakenTo}
use Rattle.row_work.proofs.slots.take_in_order.Given as goal

-- the items before this one in the order have been taken
abbrev pub invariant-loop-at : goal.invariant-loop-at
invariant-loop-at g l = record {
  taken : TakenTo l.order l.initial.slots.items l.slots.items l.drawn.items l.at;
  room : length l.order ≤ vec_capacity l.drawn;
}
