use Rattle.std.proofs.Common.{refl, sym, subst}
use Rattle.sim_base.specs.Packet.{IsPacket}
use Rattle.sim_base.specs.PacketTags.{add_tag, find_tag}
use Rattle.sim_base.proofs.PacketLaws.{IsPacket-add_tag}
use Rattle.tag_lists.specs.TagLists.{TagLists, with_packet_tags}
use Rattle.shared_packet.specs.Shared.{plain_packet}
use Rattle.shared_packet.proofs.Answered.{on_both, on_ok, held-none}
use Rattle.shared_packet.proofs.Made.{packet_of, tags_of, parts-add_tag}
use Rattle.shared_packet.proofs.packet.SharedPktPkt.add_tag.Goals as goal

pub invariant_of-self : goal.invariant_of-self
invariant_of-self c =
    let p = plain_packet c.args.self.now in
    let P : TagLists → Type 0 = λ t. IsPacket (packet_of p.uid p.bytes t p.items) in
    let after : TagLists = with_packet_tags (add_tag c.args.tag c.args.value p.tags) (tags_of p) in
    record {
      valid =
          on_both P c.add.result c.add.new.self after (tags_of p) c.add.ensures.ok c.add.ensures.err
          (λ ok. subst IsPacket (sym (parts-add_tag p c.args.tag c.args.value after refl))
          (IsPacket-add_tag c.args.tag c.args.value p c.args.self.now.valid (held-none (find_tag c.args.tag p.tags) c.add.result c.add.ensures.held ok)))
          c.args.self.now.valid;
    }

pub returns-clause-ok : goal.returns-clause-ok
returns-clause-ok c = on_ok c.add.result c.add.ensures.ok (λ e. parts-add_tag (plain_packet c.args.self.now) c.args.tag c.args.value c.add.new.self e)
