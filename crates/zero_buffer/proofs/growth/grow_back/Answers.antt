use Rattle.std.proofs.Common.{refl}
use Rattle.zero_buffer.proofs.Taken.{takes_none}
use Rattle.zero_buffer.proofs.growth.grow_back.Goals as goal

pub returns-in-Ok-clause-taken : goal.returns-in-Ok-clause-taken
returns-in-Ok-clause-taken c = takes_none _ _ refl
