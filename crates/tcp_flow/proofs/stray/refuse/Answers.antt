use Rattle.std.proofs.Common.{◌≤◌, [], subst, sym, arith}
use Rattle.sim_base.specs.Packet.{Packet, len}
use Rattle.tcp_flow.specs.Seen.{plain_act}
use Rattle.tcp_flow.proofs.Fitting.{adds-one, segment-fits}
use Rattle.tcp_flow.proofs.stray.refuse.Goals as goal

pub returns-clause-datagrams : goal.returns-clause-datagrams
returns-clause-datagrams g c =
    adds-one (plain_act g.P.Pkt.plain) c.args.out.now.items c.push.new.self.items _ c.in_ok-push.ensures.items
    (subst (λ (p : Packet). len p ≤ 65515) (sym c.in_ok-packet.ensures) (segment-fits c.next_uid.result 0 c.answering-pair.result c.refusal-says.result [] (omega arith)))
