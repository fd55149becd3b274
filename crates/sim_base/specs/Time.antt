-- How long frames take.
use Rattle.std.specs.Prelude.{ℕ, ◌*◌, ◌^◌, ◌≤◌}
use Rattle.std.specs.Int.{div_ceil}

-- the nanoseconds that this many bytes take at this many bits per second, rounded up
abbrev pub frame_time : ℕ → ℕ → ℕ
frame_time bits_per_second bytes = div_ceil (8 * bytes * 10 ^ 9) bits_per_second

-- t is the least number of whole nanoseconds in which that many bits per second carry that many bytes
pub record IsFrameTime (bits_per_second bytes t : ℕ) : Type 0 where
  pub enough : 8 * bytes * 10 ^ 9 ≤ bits_per_second * t
  pub least : (s : ℕ) → 8 * bytes * 10 ^ 9 ≤ bits_per_second * s → t ≤ s
