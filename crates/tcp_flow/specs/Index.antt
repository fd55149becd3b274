-- How connections are found: an index from the two ends, and the numbers that are free.
use Rattle.std.specs.Prelude.{ℕ, ◌≡◌, ◌<◌, ◌&&◌, not, nat_lt, Bool, List, Option, Some, is_some}
use Rattle.std.specs.List.Sorted.{IsStrictlySortedBy}
use Rattle.std.specs.Map.{keys_of}
use Rattle.std.specs.Ordering.{nat_cmp}
use Rattle.tcp_wire.specs.declared.words.SocketPair.{SocketPair}
use Rattle.tcp_flow.specs.declared.conn.Conn.{Conn}

-- Connections by their numbers, as a function; the index, as one; whether a number is free; and the number next to all that
-- were ever given.
pub record IsIndexed (conn : ℕ → Option Conn) (index : SocketPair → Option ℕ) (free : ℕ → Bool) (next : ℕ) : Type 0 where
  -- each connection is found by its ends, and what is found is a connection between them
  pub found : (number : ℕ) (k : Conn) → conn number ≡ Some k → index k.pair ≡ Some number
  pub real : (pair : SocketPair) (number : ℕ) → index pair ≡ Some number → (k : Conn) × (conn number ≡ Some k) × (k.pair ≡ pair)
  -- connections have numbers below the next, and what is below it and has no connection is free
  pub below : (number : ℕ) (k : Conn) → conn number ≡ Some k → number < next
  pub unused : (number : ℕ) → free number ≡ (nat_lt number next && not (is_some (conn number)))

-- the numbers of connections are in order
abbrev pub InOrder : List (ℕ × Conn) → Type 0
InOrder conns = IsStrictlySortedBy nat_cmp (keys_of conns)
