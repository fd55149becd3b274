-- What contracts see of a buffer.
use Rattle.std.specs.Prelude.{ℕ, ◌≡◌, ◌==◌, ◌&&◌, ◌⊎◌, Bool, if◌then◌else◌, List, ◌++◌, length, take, drop, replicate}
use Rattle.edge_claims.specs.Window.{Seen}

-- its bytes, the window on a block that holds those that are not counted zeros, how many of these stand before the zeros, and how many zeros there are
pub record Contents : Type 0 where
  pub bytes : List ℕ
  pub window : Seen
  pub before : ℕ
  pub zeros : ℕ

-- the same on another window
abbrev pub with_window : Seen → Contents → Contents
with_window w b = record { bytes = b.bytes; window = w; before = b.before; zeros = b.zeros }

-- the bytes of a window, with so many zeros behind the first of them
abbrev pub with_zeros : ℕ → ℕ → List ℕ → List ℕ
with_zeros first zeros shown = take first shown ++ (replicate zeros 0 ++ drop first shown)

-- a window that is alone, and starts where the free places in front of it end
abbrev pub stands_ready : Seen → Bool
stands_ready w = w.alone && w.start == w.low_seen

-- how many bytes a push in front is sure to put in place
abbrev pub ready : Contents → ℕ
ready b = if stands_ready b.window then b.window.start else 0

-- one area of zeros can hold those of b and of c behind it: b has none, or none but zeros lie between
abbrev pub ZerosMeet : Contents → Contents → Type 0
ZerosMeet b c = (b.zeros ≡ 0) ⊎ ((b.before ≡ length b.window.bytes) × (c.before ≡ 0))

-- the most bytes of a buffer
abbrev pub LONGEST : ℕ
LONGEST = 131072
