-- The Internet checksum.
use Rattle.std.specs.Prelude.{ℕ, ◌+◌, ◌-◌, ◌*◌, ◌%◌, ◌^◌, ◌==◌, nat_lt, Bool, true, false, if◌then◌else◌, List, [], ◌∷◌, fold}

-- bytes two by two as 16-bit numbers, the highest byte first, with a zero behind an odd one
abbrev pub pairs : List ℕ → List ℕ
pairs [] = []
pairs (a ∷ []) = (a * 256) ∷ []
pairs (a ∷ b ∷ bytes) = (a * 256 + b) ∷ pairs bytes

-- addition in one's complement: the carry out of 16 bits comes in at the end
abbrev pub add_around : ℕ → ℕ → ℕ
add_around a b = if nat_lt (a + b) 65536 then a + b else a + b - 65535

-- the complement of the one's complement sum of the pairs
unfoldable pub checksum : List ℕ → ℕ
checksum bytes = 65535 - fold add_around 0 (pairs bytes)

-- the sum of some bytes, and whether they number an odd number: then the next byte ends a pair
pub record Running : Type 0 where
  pub sum : ℕ
  pub odd : Bool

-- the sum with one more byte
abbrev pub with_byte : Running → ℕ → Running
with_byte s b = if s.odd then record { sum = add_around s.sum b; odd = false } else record { sum = add_around s.sum (b * 256); odd = true }

abbrev pub with_bytes : Running → List ℕ → Running
with_bytes s bytes = fold with_byte s bytes

-- the sum of no bytes
abbrev pub start : Running
start = record { sum = 0; odd = false }

-- the number that a sum of any size comes to where its carries out of 16 bits have come in at the end: 0 for 0 alone
unfoldable pub folded : ℕ → ℕ
folded t = if t == 0 then 0 else (t - 1) % 65535 + 1

-- addition of 64-bit numbers, where the carry comes in at the end
abbrev pub add_wide : ℕ → ℕ → ℕ
add_wide a b = if nat_lt (a + b) (2 ^ 64) then a + b else a + b - 2 ^ 64 + 1
