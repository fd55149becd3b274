use Rattle.std.proofs.Common.{◌<◌, ◌^◌, arith, ap, ◌∙◌, reverse}
use Rattle.std.proofs.lemmas.List.{take_at}
use Rattle.sim_base.specs.Packet.{len}
use Rattle.node_step.specs.Leaving.{leaves}
use Rattle.node_step.proofs.Fits.{fit-reverse, fit-pop, leads-reverse, leads-pop}
use Rattle.node_step.proofs.node.Node.send_each.Goals as goal

pub loop-packet-init : goal.loop-packet-init
loop-packet-init g c =
    let turned = take_at c.reverse.new.self _ _ (omega arith) ∙ c.reverse.ensures.after ∙ ap reverse c.as_mut_slice.ensures.value in record {
      leads = leads-reverse (leaves c.args.iface c.args.hop) g.P.Pkt.plain _ c.args.packets.now.items _ turned;
      fit = fit-reverse (λ p. len p < 2 ^ 16) g.P.Pkt.plain c.args.packets.now.items _ turned c.requires;
    }

pub send_packet-requires-after_bounds : goal.send_packet-requires-after_bounds
send_packet-requires-after_bounds g c κs within =
    (fit-pop (λ p. len p < 2 ^ 16) g.P.Pkt.plain _ c.pop.new.self.items c.in-Some.packet c.in-Some.ensures.items c.loop-packet.invariant.fit).1

pub loop-packet-preserved : goal.loop-packet-preserved
loop-packet-preserved g c = record {
  leads = leads-pop (leaves c.args.iface c.args.hop) g.P.Pkt.plain _ _ _ _ c.pop.new.self.items c.in-Some.packet c.in-Some.ensures.items c.in_ok-send_packet.ensures c.loop-packet.invariant.leads;
  fit = (fit-pop (λ p. len p < 2 ^ 16) g.P.Pkt.plain _ c.pop.new.self.items c.in-Some.packet c.in-Some.ensures.items c.loop-packet.invariant.fit).0;
}
