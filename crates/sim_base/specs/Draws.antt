-- What a node draws.
use Rattle.std.specs.Prelude.{ℕ, ◌-◌, ◌*◌, ◌/◌, ◌^◌, ◌==◌, if◌then◌else◌}
use Rattle.rand_pcg.specs.Lcg.{Lcg, started, increment_of}
use Rattle.rand_pcg.specs.Pcg.{multiplier_64, pcg32}

-- a generator of words, and how many draws are left
pub record PlainRandom : Type 0 where
  pub words : Lcg
  pub left : ℕ

-- the generator of a node: the stream of its number, and 2^64 - 1 draws
abbrev pub begun : ℕ → ℕ → PlainRandom
begun seed node = record { words = started 64 multiplier_64 seed (increment_of 64 node); left = 2 ^ 64 - 1 }

-- the part of a number that a word is of 2^32
abbrev pub scaled : ℕ → ℕ → ℕ
scaled word below = word * below / 2 ^ 32

-- a draw takes the next word; where no draw is left it is 0
abbrev pub drawn : ℕ → PlainRandom → ℕ
drawn below r = if r.left == 0 then 0 else scaled (pcg32 r.words).0 below

abbrev pub after_draw : PlainRandom → PlainRandom
after_draw r = if r.left == 0 then r else record { words = (pcg32 r.words).1; left = r.left - 1 }
