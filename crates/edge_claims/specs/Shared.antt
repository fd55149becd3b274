-- A window on a block that other windows may share: what is seen of it, and what holds of its fields.
use Rattle.std.specs.Prelude.{◌≡◌, ◌+◌, ◌-◌, ◌≤◌, [], length, slice_range}
use Rattle.byte_block.specs.Ranges.{LARGEST}
use Rattle.edge_claims.specs.Window.{Seen}
use Rattle.edge_claims.specs.declared.view.View.{View}
use Rattle.edge_claims.specs.declared.shared.SharedWindow.TheInside.{Inside}

abbrev pub view_of : Inside → View
view_of w = w.seat.me.0

abbrev pub seen_of : Inside → Seen
seen_of w =
    let v = view_of w in
    record {
      bytes = slice_range w.bytes.bytes (w.start - v.front.gap) (w.end - v.front.gap);
      block = v.block;
      capacity = v.capacity;
      start = w.start;
      end = w.end;
      low_seen = v.front.seen;
      high_seen = v.capacity - v.back.seen;
      alone = v.alone;
      claims = v.front.claims + v.back.claims;
      first_low = w.edges.value.shared.key.first_low;
      first_high = w.edges.value.shared.key.first_high;
    }

-- The seat is the table's and holds nothing, the frozen bytes are its view's, and the window lies within them.
pub record Stands (w : Inside) : Type 0 where
  pub table : w.seat.table_id ≡ w.edges.value.shared.table_id
  pub words : w.edges.value.shared.table_id.words ≡ 2
  pub slots : w.edges.value.shared.table_id.slots ≡ 2
  pub free : w.seat.me.1 ≡ []
  pub front : (view_of w).front.carving ≡ 0
  pub back : (view_of w).back.carving ≡ 0
  pub block : w.bytes.block ≡ (view_of w).block
  pub from : w.bytes.from ≡ (view_of w).front.gap
  pub bytes : w.bytes.bytes ≡ (view_of w).bytes
  pub capacity : w.capacity ≡ (view_of w).capacity
  pub range : (view_of w).front.gap + length (view_of w).bytes + (view_of w).back.gap ≡ (view_of w).capacity
  pub start : (view_of w).front.gap ≤ w.start
  pub ordered : w.start ≤ w.end
  pub end : w.end ≤ (view_of w).front.gap + length (view_of w).bytes
  pub small : (view_of w).capacity ≤ LARGEST
