use Rattle.std.proofs.Common.{refl}
use Rattle.zero_buffer.proofs.Taken.{takes_none}
use Rattle.zero_buffer.proofs.growth.joined.Goals as goal

pub returns-in_err-all-clause-taken : goal.returns-in_err-all-clause-taken
returns-in_err-all-clause-taken c = takes_none _ _ refl

pub returns-in_err-extend_from_slice-clause-taken : goal.returns-in_err-extend_from_slice-clause-taken
returns-in_err-extend_from_slice-clause-taken c = takes_none _ _ refl
