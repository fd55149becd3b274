use Rattle.std.proofs.Common.{refl, sym, subst}
use Rattle.sim_base.specs.Packet.{IsPacket}
use Rattle.sim_base.specs.PacketTags.{replace_tag}
use Rattle.sim_base.proofs.PacketLaws.{IsPacket-replace_tag}
use Rattle.tag_lists.specs.TagLists.{TagLists, with_packet_tags}
use Rattle.shared_packet.specs.Shared.{plain_packet}
use Rattle.shared_packet.proofs.Answered.{on_both, on_ok}
use Rattle.shared_packet.proofs.Made.{packet_of, tags_of, parts-replace_tag}
use Rattle.shared_packet.proofs.packet.SharedPktPkt.replace_tag.Goals as goal

pub invariant_of-self : goal.invariant_of-self
invariant_of-self c =
    let p = plain_packet c.args.self.now in
    let P : TagLists → Type 0 = λ t. IsPacket (packet_of p.uid p.bytes t p.items) in
    let after : TagLists = with_packet_tags (replace_tag c.args.tag c.args.value p.tags) (tags_of p) in
    record {
      valid =
          on_both P c.replace.result c.replace.new.self after (tags_of p) c.replace.ensures.ok c.replace.ensures.err
          (λ ok. subst IsPacket (sym (parts-replace_tag p c.args.tag c.args.value after refl)) (IsPacket-replace_tag c.args.tag c.args.value p c.args.self.now.valid))
          c.args.self.now.valid;
    }

pub returns-clause-ok : goal.returns-clause-ok
returns-clause-ok c =
    on_ok c.replace.result c.replace.ensures.ok (λ e. parts-replace_tag (plain_packet c.args.self.now) c.args.tag c.args.value c.replace.new.self e)
