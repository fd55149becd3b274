-- The windows that a pool hands out.
use Rattle.std.specs.Prelude.{◌≡◌, ℕ, ◌+◌, List, [], length, true}
use Rattle.edge_claims.specs.Window.{Seen}
use Rattle.block_pool.specs.Class.{FRONT}

-- a window with these bytes, alone on its block, which stands at 64 and at both edges
pub record IsFresh (bs : List ℕ) (w : Seen) : Type 0 where
  pub bytes : w.bytes ≡ bs
  pub start : w.start ≡ FRONT
  pub end : w.end ≡ FRONT + length bs
  pub low_seen : w.low_seen ≡ FRONT
  pub high_seen : w.high_seen ≡ FRONT + length bs
  pub alone : w.alone ≡ true

-- an empty one, on a block of so many places
pub record IsSpare (places : ℕ) (w : Seen) : Type 0 where
  pub capacity : w.capacity ≡ places
  pub fresh : IsFresh [] w
