use Rattle.tcp_conn.proofs.Quiet.{times_out-quiet, writes-quiet, closes-quiet}
use Rattle.tcp_conn.proofs.SinkLaw.{hears-follows}
use Rattle.tcp_conn.proofs.law.sinks_follow_the_law.Goals as goal

pub returns-clause-hears : goal.returns-clause-hears
returns-clause-hears c now heard bytes d side = hears-follows now heard bytes d side

pub returns-clause-times_out : goal.returns-clause-times_out
returns-clause-times_out c now d = times_out-quiet now d

pub returns-clause-writes : goal.returns-clause-writes
returns-clause-writes c now bytes d = writes-quiet now bytes d

pub returns-clause-closes : goal.returns-clause-closes
returns-clause-closes c now d = closes-quiet now d
