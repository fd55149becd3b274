use Rattle.std.proofs.Common.{sym, subst, ap, ◌∙◌, ◌++◌, length}
use Rattle.std.proofs.lemmas.List.{length-replicate}
use Rattle.sim_base.specs.declared.item.Kind.TheVariants.{Payload}
use Rattle.sim_base.specs.Items.{whole}
use Rattle.sim_base.specs.Packet.{IsPacket}
use Rattle.sim_base.proofs.PacketLaws.{IsPacket-zeros}
use Rattle.shared_packet.proofs.Made.{parts-zeros}
use Rattle.shared_packet.proofs.packet.SharedPktPkt.zeros.Goals as goal

pub returns-clause-plain : goal.returns-clause-plain
returns-clause-plain c =
    let b = c.in_ok-zeros.ensures.bytes in
    parts-zeros c.args.uid c.args.n c.in_ok-zeros.field-0.bytes c.new.result c.push_back.new.self b (ap length b ∙ length-replicate c.args.n 0) c.new.ensures
    (c.in_ok-push_back.ensures.ok ∙ ap (λ is. is ++ whole Payload c.args.n) c.new-items.ensures)

pub invariant_of-result : goal.invariant_of-result
invariant_of-result c =
    let b = c.in_ok-zeros.ensures.bytes in
    record {
      valid =
          subst IsPacket
          (sym (parts-zeros c.args.uid c.args.n c.in_ok-zeros.field-0.bytes c.new.result c.push_back.new.self b (ap length b ∙ length-replicate c.args.n 0) c.new.ensures
          (c.in_ok-push_back.ensures.ok ∙ ap (λ is. is ++ whole Payload c.args.n) c.new-items.ensures)))
          (IsPacket-zeros c.args.uid c.args.n c.requires);
    }
