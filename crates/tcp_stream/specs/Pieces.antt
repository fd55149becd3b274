-- The store of a sink as pieces: runs of bytes in the order of their positions, with holes between them.
use Rattle.std.specs.Prelude.{ℕ, ◌+◌, ◌-◌, ◌==◌, ◌<◌, ◌≤◌, max, take, drop, if◌then◌else◌, List, [], ◌∷◌, ◌++◌, length}
use Rattle.std.specs.FinMap.{empty, insert}
use Rattle.tcp_stream.specs.Held.{Held}

-- bytes one after another from a position on
pub record Run : Type 0 where
  pub start : ℕ
  pub bytes : List ℕ

abbrev pub end_of : Run → ℕ
end_of r = r.start + length r.bytes

abbrev pub with_run : Held → ℕ → List ℕ → Held
with_run held start [] = held
with_run held start (byte ∷ bytes) = insert (with_run held (start + 1) bytes) start byte

-- the bytes of runs by their positions
abbrev pub held_of : List Run → Held
held_of [] = empty
held_of (r ∷ rs) = with_run (held_of rs) r.start r.bytes

-- runs in order, none empty, that lie from one position to another and don't overlap
abbrev pub InOrder : ℕ → ℕ → List Run → Type 0
InOrder from to [] = from ≤ to
InOrder from to (r ∷ rs) = (from ≤ r.start) × (0 < length r.bytes) × InOrder (end_of r) to rs

abbrev pub piece_at : ℕ → List ℕ → List Run
piece_at start [] = []
piece_at start (byte ∷ bytes) = record { start = start; bytes = byte ∷ bytes } ∷ []

-- the runs with those new bytes that lie in their holes
abbrev pub merge : List Run → ℕ → List ℕ → List Run
merge [] start bytes = piece_at start bytes
merge (r ∷ rs) start bytes =
    piece_at start (take (r.start - start) bytes) ++ r ∷ merge rs (max start (end_of r)) (drop (end_of r - start) bytes)

-- the bytes of the runs that follow on a position with no hole, and the runs behind them
abbrev pub joined : ℕ → List Run → List ℕ
joined next [] = []
joined next (r ∷ rs) = if r.start == next then r.bytes ++ joined (end_of r) rs else []

abbrev pub behind : ℕ → List Run → List Run
behind next [] = []
behind next (r ∷ rs) = if r.start == next then behind (end_of r) rs else r ∷ rs
