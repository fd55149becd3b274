use Rattle.std.proofs.Common.{sym, subst, ◌∙◌}
use Rattle.sim_base.specs.Packet.{IsPacket}
use Rattle.sim_base.proofs.PacketLaws.{IsPacket-cut}
use Rattle.shared_packet.specs.Shared.{plain_packet}
use Rattle.shared_packet.proofs.Made.{parts-cut}
use Rattle.shared_packet.proofs.Popped.{cut-none}
use Rattle.shared_packet.proofs.packet.SharedPktPkt.cut.Goals as goal

pub returns-then-to-len : goal.returns-then-to-len
returns-then-to-len c = cut-none (plain_packet c.args.self.now) c.args.from c.args.to c.args.self.now.valid c.if-from-eq0.true (c.if-to-len.true ∙ c.len.ensures)

pub returns : goal.returns
returns c =
    parts-cut (plain_packet c.args.self.now) c.args.from c.args.to c.cut.new.self.bytes c.clip.new.self c.cut-2.new.self c.cut.ensures c.clip.ensures c.cut-2.ensures

pub invariant_of-self : goal.invariant_of-self
invariant_of-self c =
    let p = plain_packet c.args.self.now in
    record {
      valid =
          subst IsPacket
          (sym (parts-cut p c.args.from c.args.to c.cut.new.self.bytes c.clip.new.self c.cut-2.new.self c.cut.ensures c.clip.ensures c.cut-2.ensures))
          (IsPacket-cut c.args.from c.args.to p c.args.self.now.valid c.requires.order c.requires.inside);
    }
