use Rattle.std.proofs.Common.{sym, subst, ap, ◌∙◌, ◌++◌, length}
use Rattle.sim_base.specs.declared.item.Kind.TheVariants.{Payload}
use Rattle.sim_base.specs.Items.{whole}
use Rattle.sim_base.specs.Packet.{IsPacket}
use Rattle.sim_base.proofs.PacketLaws.{IsPacket-from_bytes}
use Rattle.shared_packet.proofs.Made.{parts-from_bytes}
use Rattle.shared_packet.proofs.packet.SharedPktPkt.from_bytes.Goals as goal

pub returns-clause-plain : goal.returns-clause-plain
returns-clause-plain c =
    parts-from_bytes c.args.uid c.args.bytes.now c.in_ok-from_bytes.field-0.bytes c.new.result c.push_back.new.self c.in_ok-from_bytes.ensures.bytes c.new.ensures
    (c.in_ok-push_back.ensures.ok ∙ ap (λ is. is ++ whole Payload (length c.args.bytes.now)) c.new-items.ensures)

pub invariant_of-result : goal.invariant_of-result
invariant_of-result c =
    record {
      valid =
          subst IsPacket
          (sym (parts-from_bytes c.args.uid c.args.bytes.now c.in_ok-from_bytes.field-0.bytes c.new.result c.push_back.new.self c.in_ok-from_bytes.ensures.bytes c.new.ensures
          (c.in_ok-push_back.ensures.ok ∙ ap (λ is. is ++ whole Payload (length c.args.bytes.now)) c.new-items.ensures)))
          (IsPacket-from_bytes c.args.uid c.args.bytes.now c.requires);
    }
