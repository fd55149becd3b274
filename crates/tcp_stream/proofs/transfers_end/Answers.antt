use Rattle.std.proofs.Common.{arith, refl}
use Rattle.tcp_stream.proofs.Histories.{transfer-carries, transfer-told}
use Rattle.tcp_stream.proofs.transfers_end.Goals as goal

pub returns-clause-history : goal.returns-clause-history
returns-clause-history c bytes short = ((refl, omega arith), (tt, (transfer-carries bytes, (tt, tt))))

pub returns-clause-told : goal.returns-clause-told
returns-clause-told c bytes short = transfer-told bytes short
