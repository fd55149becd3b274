use Rattle.std.proofs.Common.{◌≤◌, ap, length, subst, sym, arith}
use Rattle.sim_base.specs.Packet.{Packet, len}
use Rattle.tcp_conn.specs.OnItsWay.{bytes_of, said}
use Rattle.tcp_flow.specs.Seen.{plain_act}
use Rattle.tcp_flow.specs.Small.{IsSmall}
use Rattle.tcp_flow.proofs.Fitting.{adds-one, length-bytes_of, segment-fits}
use Rattle.tcp_flow.proofs.conn.Conn.carry_out_one.Goals as goal

pub returns-in_ok-push-in-Emit-clause-datagrams : goal.returns-in_ok-push-in-Emit-clause-datagrams
returns-in_ok-push-in-Emit-clause-datagrams g c =
    let k = c.args.self.now in
    let o = c.in-Emit.segment in
    let small = subst IsSmall c.in-Emit.is c.requires in
    let few : length (bytes_of k.connection o) ≤ 9000 = omega (arith, length-bytes_of k.connection o, small.0) in
    adds-one (plain_act g.P.Pkt.plain) c.args.out.now.items c.push.new.self.items _ c.in_ok-push-in-Emit.ensures.items
    (subst (λ (p : Packet). len p ≤ 65515) (sym c.in_ok-packet-in-Emit.ensures) (segment-fits c.next_uid.result k.app k.pair (said o) (bytes_of k.connection o) few))
