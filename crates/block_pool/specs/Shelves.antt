-- What a shelf keeps.
use Rattle.std.specs.Prelude.{All}
use Rattle.block_pool.specs.declared.shelf.Shelf.TheInside.{Inside}
use Rattle.block_pool.specs.Pooled.{IsSpare}

-- each of its windows is a spare one
pub record IsShelf (s : Inside) : Type 0 where
  pub spare : All (IsSpare s.places) s.windows.items
