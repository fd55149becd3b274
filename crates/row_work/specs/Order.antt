-- In which order items are drawn.
use Rattle.std.specs.Prelude.{◌≡◌, ◌⊎◌, ℕ, suc, ◌+◌, ◌-◌, ◌*◌, ◌<◌, List, Some, length, slice_get, slice_index_or}
use Rattle.std.specs.List.{range_with_len}
use Rattle.std.specs.List.Sorted.{IsPermutation}

-- each number below a count stands in a list once
abbrev pub AreNumbers : ℕ → List ℕ → Type 0
AreNumbers count numbers = IsPermutation (range_with_len 0 count) numbers

-- one of higher estimate comes before another, and among those of one estimate the lesser number
abbrev pub ComesBefore : List ℕ → ℕ → ℕ → Type 0
ComesBefore estimates a b =
    (slice_index_or estimates b 0 < slice_index_or estimates a 0) ⊎ ((slice_index_or estimates a 0 ≡ slice_index_or estimates b 0) × (a < b))

-- the numbers of estimates, each before the next
pub record IsOrderOf (estimates order : List ℕ) : Type 0 where
  pub numbers : AreNumbers (length estimates) order
  pub before : (k a b : ℕ) → slice_get order k ≡ Some a → slice_get order (suc k) ≡ Some b → ComesBefore estimates a b

-- the higher, the earlier a number comes
abbrev pub rank : List ℕ → ℕ → ℕ
rank estimates number = slice_index_or estimates number 0 * 4294967296 + (4294967295 - number)
