use Rattle.std.proofs.Common.{◌≡◌, ◌-◌, ◌≤◌, true, false, [], map, length, vec_capacity}
use Rattle.std.specs.List.{range_with_len}
use Rattle.work_claims.specs.Row.{fresh}
use Rattle.work_claims.proofs.row.deal.Given as goal

-- the passes below the place are dealt, and the seat has the parts of the others
abbrev pub invariant-loop-place : goal.invariant-loop-place
invariant-loop-place g l =
    let row = l.fn.row in
    record {
      table : l.seat.table_id ≡ row.table;
      left : l.seat.me ≡ (record { items = row.items; passes = row.passes; keeps = true; parts = row.passes - l.place; past = false; drawn = [] }, []);
      dealt : l.dealt.items ≡ map (fresh row) (range_with_len 0 l.place);
      counted : length l.dealt.items ≡ l.place;
      room : row.passes ≤ vec_capacity l.dealt;
    }
