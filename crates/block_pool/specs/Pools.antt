-- What a pool keeps.
use Rattle.std.specs.Prelude.{◌≡◌}
use Rattle.block_pool.specs.declared.pool.Pool.TheInside.{Inside}
use Rattle.block_pool.specs.Class.{places}
use Rattle.block_pool.specs.declared.class.Class.TheVariants.{Small, Middle, Large}

-- a shelf for each class
pub record IsPool (p : Inside) : Type 0 where
  pub small : p.small.places ≡ places Small
  pub middle : p.middle.places ≡ places Middle
  pub large : p.large.places ≡ places Large
