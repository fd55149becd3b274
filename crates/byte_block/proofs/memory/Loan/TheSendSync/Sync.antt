use denote.Param.Send.{IsSync}
use Rattle.byte_block.proofs.Crosses.{loan-sync}
use Rattle.byte_block.specs.contracts.memory.Loan as Loan

pub sync : IsSync Loan.the_row
sync = loan-sync
