use Rattle.tcp_stream.proofs.Histories.{syn-carries, cut-carries, bare-carries, fin-carries}
use Rattle.tcp_stream.proofs.openers_may_send.Goals as goal

pub returns-clause-syn : goal.returns-clause-syn
returns-clause-syn c written closed = syn-carries written closed

pub returns-clause-cut : goal.returns-clause-cut
returns-clause-cut c written closed before n = cut-carries written closed before n

pub returns-clause-bare : goal.returns-clause-bare
returns-clause-bare c written closed seq h = bare-carries written closed seq h

pub returns-clause-fin : goal.returns-clause-fin
returns-clause-fin c written = fin-carries written
