-- The stream of bytes of a bulk sender.
use Rattle.std.specs.Prelude.{ℕ, zero, suc, ◌+◌, ◌%◌, List, [], ◌∷◌}

-- so many bytes from a position on: the byte at a position is the position modulo 251
unfoldable pub stream : ℕ → ℕ → List ℕ
stream zero from = []
stream (suc count) from = from % 251 ∷ stream count (from + 1)
