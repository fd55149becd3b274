use Rattle.tcp_conn.proofs.Joined.{prefix-holds, end-holds}
use Rattle.tcp_conn.proofs.law.deliveries_are_a_prefix.Goals as goal

pub returns-clause-prefix : goal.returns-clause-prefix
returns-clause-prefix c now mss happenings some = prefix-holds c.delivered_prefix.ensures.prefix now mss happenings some

pub returns-clause-end : goal.returns-clause-end
returns-clause-end c now mss happenings some = end-holds c.delivered_prefix.ensures.end now mss happenings some
