-- The spare blocks of one class.
use Rattle.std.specs.Prelude.{ℕ}

-- how many places each has, and how many there are
pub record Stock : Type 0 where
  pub places : ℕ
  pub spare : ℕ
