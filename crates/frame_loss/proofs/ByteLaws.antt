-- All bytes of a frame.
use Rattle.std.proofs.Common.{◌≡◌, ℕ, ◌-◌, List, length, slice_range, arith}
use Rattle.std.proofs.lemmas.List.{take_all}

pub slice_range_whole : (bytes : List ℕ) (n : ℕ) → n ≡ length bytes → slice_range bytes 0 n ≡ bytes
slice_range_whole bytes n is = take_all (n - 0) bytes (omega (arith, is))
