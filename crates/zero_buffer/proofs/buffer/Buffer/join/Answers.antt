use Rattle.std.proofs.Common.{refl}
use Rattle.zero_buffer.proofs.Taken.{takes_none}
use Rattle.zero_buffer.proofs.buffer.Buffer.join.Goals as goal

pub returns-in_err-written-clause-taken : goal.returns-in_err-written-clause-taken
returns-in_err-written-clause-taken c = takes_none _ _ refl
