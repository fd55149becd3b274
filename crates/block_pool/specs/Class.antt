-- The three sizes of blocks.
use Rattle.std.specs.Prelude.{ℕ, ◌+◌, nat_lt, if◌then◌else◌, Option, None, Some}
use Rattle.block_pool.specs.declared.class.Class.{Class}
use Rattle.block_pool.specs.declared.class.Class.TheVariants.{Small, Middle, Large}

-- how many places a block of a class has
abbrev pub places : Class → ℕ
places Small = 128
places Middle = 512
places Large = 2048

-- how many places are free in front of a new block's bytes
abbrev pub FRONT : ℕ
FRONT = 64

-- and behind the bytes of a block of its own
abbrev pub BACK : ℕ
BACK = 16

-- the class of the least blocks in which so many bytes have 64 places in front and 16 behind
abbrev pub class_for : ℕ → Option Class
class_for n =
    if nat_lt 48 n then (if nat_lt 432 n then (if nat_lt 1968 n then None else Some Large) else Some Middle) else Some Small

-- how many places a block for n bytes has: those of its class, or just enough where there is none
abbrev pub places_for : ℕ → ℕ
places_for n = of (class_for n)
  where
    of : Option Class → ℕ
    of None = FRONT + n + BACK
    of (Some class) = places class
