use Rattle.tcp_stream.proofs.Histories.{history-append, run-append}
use Rattle.tcp_stream.proofs.histories_join.Goals as goal

pub returns-clause-joined : goal.returns-clause-joined
returns-clause-joined c w events more h g = history-append w events more h g

pub returns-clause-run : goal.returns-clause-run
returns-clause-run c w events more = run-append w events more
