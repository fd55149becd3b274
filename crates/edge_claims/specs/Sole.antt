-- The only window of a block: what is seen of it, and what holds of its fields.
use Rattle.std.specs.Prelude.{◌+◌, ◌-◌, ◌≤◌, true, length, slice_range}
use Rattle.byte_block.specs.Ranges.{LARGEST}
use Rattle.edge_claims.specs.Window.{Seen}
use Rattle.edge_claims.specs.declared.sole.SoleWindow.TheInside.{Inside}

abbrev pub seen_of_sole : Inside → Seen
seen_of_sole w = record {
  bytes = slice_range w.block.bytes (w.start - w.block.from) (w.end - w.block.from);
  block = w.block.block;
  capacity = w.block.capacity;
  start = w.start;
  end = w.end;
  low_seen = w.block.from;
  high_seen = w.block.from + length w.block.bytes;
  alone = true;
  claims = (w.first_low - w.block.from) + (w.block.from + length w.block.bytes - w.first_high);
  first_low = w.first_low;
  first_high = w.first_high;
}

-- The window lies within the bytes of its block, whose edges have only moved outwards since it was made.
pub record IsSole (w : Inside) : Type 0 where
  pub start : w.block.from ≤ w.start
  pub ordered : w.start ≤ w.end
  pub end : w.end ≤ w.block.from + length w.block.bytes
  pub within : w.block.from + length w.block.bytes ≤ w.block.capacity
  pub small : w.block.capacity ≤ LARGEST
  pub low : w.block.from ≤ w.first_low
  pub high : w.first_high ≤ w.block.from + length w.block.bytes
