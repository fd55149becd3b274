use Rattle.std.proofs.Common.{◌<◌, sym, subst}
use Rattle.tcp_conn.specs.Begin.{opening}
use Rattle.tcp_flow.specs.declared.conn.Conn.{Conn}
use Rattle.tcp_flow.proofs.LaterTimers.{begun-waits}
use Rattle.tcp_flow.proofs.Timers.{opening-later}
use Rattle.tcp_flow.proofs.conns.Conns.open.Goals as goal

pub add-requires-clause-waits : goal.add-requires-clause-waits
add-requires-clause-waits g c =
    subst (λ (k : Conn). 0 < k.connection.round_trip.rto) (sym c.in_ok-conn.ensures.conn)
    (begun-waits c.in_ok-number.number c.args.app c.args.now.0 c.args.pair c.args.numbers.now (opening c.args.now.0 c.args.mss) (opening-later c.args.now.0 c.args.mss))
