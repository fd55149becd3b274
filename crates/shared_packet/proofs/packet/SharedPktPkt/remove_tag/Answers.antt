use Rattle.std.proofs.Common.{sym, subst}
use Rattle.sim_base.specs.Packet.{IsPacket}
use Rattle.sim_base.proofs.PacketLaws.{IsPacket-remove_tag}
use Rattle.shared_packet.specs.Shared.{plain_packet}
use Rattle.shared_packet.proofs.Made.{parts-remove_tag}
use Rattle.shared_packet.proofs.packet.SharedPktPkt.remove_tag.Goals as goal

pub invariant_of-self : goal.invariant_of-self
invariant_of-self c =
    let p = plain_packet c.args.self.now in
    record {
      valid = subst IsPacket (sym (parts-remove_tag p c.args.tag c.remove.new.self c.remove.ensures.after)) (IsPacket-remove_tag c.args.tag p c.args.self.now.valid);
    }

pub returns-clause-after : goal.returns-clause-after
returns-clause-after c = parts-remove_tag (plain_packet c.args.self.now) c.args.tag c.remove.new.self c.remove.ensures.after
