use Rattle.std.proofs.Common.{◌<◌, sym, subst}
use Rattle.tcp_conn.specs.Begin.{heard_syn}
use Rattle.tcp_flow.specs.declared.conn.Conn.{Conn}
use Rattle.tcp_flow.proofs.LaterTimers.{begun-waits}
use Rattle.tcp_flow.proofs.Timers.{heard_syn-later}
use Rattle.tcp_flow.proofs.conns.Conns.accept.Goals as goal

pub add-requires-clause-waits : goal.add-requires-clause-waits
add-requires-clause-waits g c =
    subst (λ (k : Conn). 0 < k.connection.round_trip.rto) (sym c.in_ok-conn.ensures.conn)
    (begun-waits c.in_ok-number.number c.args.app c.args.now.0 c.args.pair c.args.numbers.now (heard_syn c.args.now.0) (heard_syn-later c.args.now.0))
