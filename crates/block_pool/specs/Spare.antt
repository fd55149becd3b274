-- How many spare blocks a pool has.
use Rattle.std.specs.Prelude.{◌≡◌, ℕ, ◌-◌, ◌<◌, max, Option, None, Some}
use Rattle.block_pool.specs.declared.class.Class.{Class}
use Rattle.block_pool.specs.declared.class.Class.TheVariants.{Small, Middle, Large}
use Rattle.block_pool.specs.Class.{class_for}

-- how many there are of each class
pub record Spare : Type 0 where
  pub small : ℕ
  pub middle : ℕ
  pub large : ℕ

abbrev pub spare_of : Class → Spare → ℕ
spare_of Small s = s.small
spare_of Middle s = s.middle
spare_of Large s = s.large

-- the same but for one class
abbrev pub with_spare : Class → ℕ → Spare → Spare
with_spare Small n s = record { small = n; middle = s.middle; large = s.large }
with_spare Middle n s = record { small = s.small; middle = n; large = s.large }
with_spare Large n s = record { small = s.small; middle = s.middle; large = n }

-- there are at least n of this class, and of the others as many as before
abbrev pub reserved : Class → ℕ → Spare → Spare
reserved class n s = with_spare class (max n (spare_of class s)) s

-- one of this class is gone, if there was one
abbrev pub taken : Class → Spare → Spare
taken class s = with_spare class (spare_of class s - 1) s

-- the same of the class that fits n bytes, if one does
abbrev pub taken_for : ℕ → Spare → Spare
taken_for n s = of (class_for n) s
  where
    of : Option Class → Spare → Spare
    of None s = s
    of (Some class) s = taken class s

abbrev pub HasSpareFor : ℕ → Spare → Type 0
HasSpareFor n s = has (class_for n) s
  where
    has : Option Class → Spare → Type 0
    has None s = ⊥
    has (Some class) s = 0 < spare_of class s

-- one spare block is gone at most, of the class that fits so many bytes
pub record TakesOne (old new : Spare) : Type 0 where
  pub bytes : ℕ
  pub taken : new ≡ taken_for bytes old
