-- Numbers and times in a trace.
use Rattle.std.specs.Prelude.{ℕ, ◌≡◌, zero, suc, ◌+◌, ◌/◌, ◌%◌, ◌^◌, List, [], ◌∷◌, ◌++◌, codes}
use Rattle.std.specs.Fmt.{decimal}

-- the last so many digits of a number
abbrev pub last_digits : ℕ → ℕ → List ℕ
last_digits zero n = []
last_digits (suc k) n = last_digits k (n / 10) ++ (48 + n % 10) ∷ []

-- a time in seconds, with nine digits behind the point
abbrev pub seconds : ℕ → List ℕ
seconds nanoseconds = decimal (nanoseconds / 10 ^ 9) ++ codes "." ++ last_digits 9 (nanoseconds % 10 ^ 9)

-- nothing but what was appended is new
pub record IsLonger (old new : List ℕ) : Type 0 where
  pub more : List ℕ
  pub is : new ≡ old ++ more
