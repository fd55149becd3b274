use Rattle.std.proofs.Common.{refl, sym, subst, ap, ◌∙◌, ◌++◌}
use Rattle.sim_base.specs.ByteTags.{shift}
use Rattle.sim_base.specs.Items.{join_items}
use Rattle.sim_base.specs.Packet.{IsPacket}
use Rattle.sim_base.proofs.PacketLaws.{IsPacket-join}
use Rattle.tag_lists.specs.TagLists.{TagLists, with_byte_tags}
use Rattle.zero_buffer.proofs.Taken.{takes_none}
use Rattle.shared_packet.specs.Shared.{plain_packet}
use Rattle.shared_packet.proofs.Made.{parts-join, tags_of}
use Rattle.shared_packet.proofs.packet.SharedPktPkt.join.Goals as goal

pub returns-clause-ok : goal.returns-clause-ok
returns-clause-ok c =
    let p = plain_packet c.args.self.now in
    let q = plain_packet c.args.other.now in
    parts-join p q c.join-2.new.self.bytes c.append.new.self c.join.new.self c.in_ok-join-2.ensures.ok
    (c.in_ok-append.ensures.ok
    ∙ ap (λ (t : TagLists). with_byte_tags (t.byte_tags ++ shift c.len.result q.byte_tags) t) c.in_ok-tags.ensures.ok
    ∙ ap (λ n. with_byte_tags (p.byte_tags ++ shift n q.byte_tags) (tags_of p)) c.len.ensures)
    (c.in_ok-join.ensures.ok ∙ ap (λ is. join_items is q.items) c.in_ok-items.ensures.ok)

pub invariant_of-self-2 : goal.invariant_of-self-2
invariant_of-self-2 c =
    let p = plain_packet c.args.self.now in
    let q = plain_packet c.args.other.now in
    record {
      valid =
          subst IsPacket
          (sym (parts-join p q c.join-2.new.self.bytes c.append.new.self c.join.new.self c.in_ok-join-2.ensures.ok
          (c.in_ok-append.ensures.ok
          ∙ ap (λ (t : TagLists). with_byte_tags (t.byte_tags ++ shift c.len.result q.byte_tags) t) c.in_ok-tags.ensures.ok
          ∙ ap (λ n. with_byte_tags (p.byte_tags ++ shift n q.byte_tags) (tags_of p)) c.len.ensures)
          (c.in_ok-join.ensures.ok ∙ ap (λ is. join_items is q.items) c.in_ok-items.ensures.ok)))
          (IsPacket-join p q c.args.self.now.valid c.args.other.now.valid c.requires);
    }

pub returns-in_err-tags-clause-taken : goal.returns-in_err-tags-clause-taken
returns-in_err-tags-clause-taken c = takes_none c.args.maker.now c.args.maker.now refl

pub returns-in_err-append-clause-taken : goal.returns-in_err-append-clause-taken
returns-in_err-append-clause-taken c = takes_none c.args.maker.now c.args.maker.now refl

pub returns-in_err-items-clause-taken : goal.returns-in_err-items-clause-taken
returns-in_err-items-clause-taken c = takes_none c.args.maker.now c.args.maker.now refl

pub returns-in_err-join-clause-taken : goal.returns-in_err-join-clause-taken
returns-in_err-join-clause-taken c = takes_none c.args.maker.now c.args.maker.now refl
