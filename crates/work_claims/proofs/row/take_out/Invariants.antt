use Rattle.std.proofs.Common.{◌≡◌, ℕ, ◌<◌, ◌≤◌, false, length, get_or, Some, vec_capacity}
use mathlib.Core.Option.{some}
use lib.ListN.{get_elem?}
use Rattle.std.specs.Slots.{slots_filled, slots_items, slots_len}
use Rattle.std.specs.Slots.Ownership.{Filled}
use Rattle.work_claims.proofs.row.take_out.Given as goal

-- the places below are taken, and their items stand in the list
abbrev pub invariant-loop-at : goal.invariant-loop-at
invariant-loop-at g l =
    record {
      same : slots_items l.closed.slots ≡ slots_items l.initial.closed.slots;
      count : slots_len l.closed.slots ≡ slots_len l.initial.closed.slots;
      full : Filled (slots_filled l.closed.slots) l.at (slots_len l.closed.slots);
      taken : (k : ℕ) → k < l.at → get_or (slots_filled l.closed.slots) k false ≡ false;
      long : length l.items.items ≡ l.at;
      moved : (n : ℕ) (item : g.row.T.Denot) → n < l.at → get_elem? (slots_items l.initial.closed.slots) n ≡ some (Some item) → get_elem? l.items.items n ≡ some item;
      room : slots_len l.closed.slots ≤ vec_capacity l.items;
    }
