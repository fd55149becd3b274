-- Square roots, and the time from one drop to the next (RFC 8289, section 5).
use Rattle.std.specs.Prelude.{ℕ, zero, suc, ◌+◌, ◌*◌, ◌/◌, ◌<◌, ◌≤◌, nat_le, if◌then◌else◌}

-- the whole part of the square root of n
pub record IsRoot (n r : ℕ) : Type 0 where
  pub square_within : r * r ≤ n
  pub next_beyond : n < (r + 1) * (r + 1)

-- the greatest number whose square is at most n
unfoldable pub root : ℕ → ℕ
root zero = 0
root (suc n) = let r = root n in if nat_le ((r + 1) * (r + 1)) (suc n) then r + 1 else r

-- the time from the drop of this count to the next: 100 ms, divided by the root of the count, rounded down
abbrev pub step : ℕ → ℕ
step count = 100000000000 / root (count * 1000000)
