-- The times that connections count with.
use Rattle.std.specs.Prelude.{ℕ, ◌^◌}

-- the latest time in nanoseconds: sums of a few such times fit 64 bits
abbrev pub latest : ℕ
latest = 2 ^ 60
