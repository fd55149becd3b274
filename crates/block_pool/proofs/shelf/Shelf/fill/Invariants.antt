-- So many blocks have been made and put to those that were there.
use Rattle.std.proofs.Common.{◌≡◌, ◌+◌, length}
use Rattle.std.specs.Prelude.{All}
use Rattle.block_pool.specs.Pooled.{IsSpare}
use Rattle.block_pool.proofs.shelf.Shelf.fill.Given as goal

abbrev pub invariant-loop : goal.invariant-loop
invariant-loop l = record {
  places : l.self-inside.places ≡ l.fn.self.places;
  spare : All (IsSpare l.fn.self.places) l.self-inside.windows.items;
  count : length l.self-inside.windows.items ≡ l.fn.self.spare + l.counter;
}
