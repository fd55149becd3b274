-- What a push takes of the pool.
use Rattle.std.proofs.Common.{◌≡◌}
use Rattle.block_pool.specs.Spare.{Spare, TakesOne}

-- no class fits 2,000 bytes, so that none is taken
pub takes_none : (old new : Spare) → new ≡ old → TakesOne old new
takes_none old new same = record { bytes = 2000; taken = same }
