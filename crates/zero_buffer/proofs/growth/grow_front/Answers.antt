use Rattle.std.proofs.Common.{refl}
use Rattle.zero_buffer.proofs.Taken.{takes_none}
use Rattle.zero_buffer.proofs.growth.grow_front.Goals as goal

pub returns-then-put_anew-clause-taken : goal.returns-then-put_anew-clause-taken
returns-then-put_anew-clause-taken c = takes_none _ _ refl

pub returns-in-Ok-clause-taken : goal.returns-in-Ok-clause-taken
returns-in-Ok-clause-taken c = takes_none _ _ refl
