-- Sizes of credits and waits.
use Rattle.std.proofs.Common.{ℕ, ◌*◌, ◌/◌, ◌≤◌, ◌^◌, arith}
use Rattle.std.proofs.Math.Nat.{mul-le-mul}
use Rattle.std.specs.Int.{div_ceil}

-- what a bucket gets in a whole run
pub brought_small : (rate passed : ℕ) → rate ≤ 10 ^ 12 → passed ≤ 10 ^ 12 → rate * passed ≤ 10 ^ 24
brought_small rate passed slow short = mul-le-mul slow short

pub div_ceil_small : (a r : ℕ) → 1 ≤ r → div_ceil a r ≤ a
div_ceil_small a r some =
    let q : ℕ = a / r in
    let k : q ≤ r * q = grind arith in
    omega (arith, k)
