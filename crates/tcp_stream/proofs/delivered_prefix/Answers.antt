use Rattle.tcp_stream.specs.History.{opened}
use Rattle.tcp_stream.proofs.Prefix.{sound-opened, sound-run}
use Rattle.tcp_stream.proofs.delivered_prefix.Goals as goal

pub returns-clause-prefix : goal.returns-clause-prefix
returns-clause-prefix c events history = (sound-run opened events sound-opened history).told

pub returns-clause-end : goal.returns-clause-end
returns-clause-end c events history told = let s = sound-run opened events sound-opened history in s.ended (s.told_end told)
