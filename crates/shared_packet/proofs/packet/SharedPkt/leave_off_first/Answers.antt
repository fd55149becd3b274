use Rattle.std.proofs.Common.{sym, subst, ap, ◌∙◌, arith}
use Rattle.sim_base.specs.ByteTags.{clip}
use Rattle.sim_base.specs.Packet.{IsPacket, len}
use Rattle.sim_base.proofs.PacketLaws.{IsPacket-cut}
use Rattle.tag_lists.specs.TagLists.{with_byte_tags}
use Rattle.shared_packet.specs.Shared.{plain_packet}
use Rattle.shared_packet.proofs.Made.{parts-cut, tags_of}
use Rattle.shared_packet.proofs.Popped.{first-fits, slice_range-rest, cut_items-first}
use Rattle.shared_packet.proofs.packet.SharedPkt.leave_off_first.Goals as goal

pub leave_off-requires : goal.leave_off-requires
leave_off-requires c =
    let p = plain_packet c.args.self.now in
    let valid : IsPacket p = c.args.self.now.valid in
    let fits = first-fits c.args.n p.items c.requires.some c.requires.left in
    omega (arith, fits, valid.items_cover)

pub clip-requires : goal.clip-requires
clip-requires c =
    let p = plain_packet c.args.self.now in
    let valid : IsPacket p = c.args.self.now.valid in
    let fits = first-fits c.args.n p.items c.requires.some c.requires.left in
    omega (arith, fits, valid.items_cover, c.len-len.ensures)

pub invariant_of-self : goal.invariant_of-self
invariant_of-self c =
    let p = plain_packet c.args.self.now in
    let n = c.args.n in
    let valid : IsPacket p = c.args.self.now.valid in
    let fits = first-fits n p.items c.requires.some c.requires.left in
    record {
      valid =
          subst IsPacket
          (sym (parts-cut p n (len p) c.leave_off.new.self.bytes c.clip.new.self c.leave_off_first.new.self
          (c.leave_off.ensures ∙ sym (slice_range-rest p.bytes n (len p) (omega arith)))
          (c.clip.ensures ∙ ap (λ m. with_byte_tags (clip n m p.byte_tags) (tags_of p)) c.len-len.ensures)
          (c.leave_off_first.ensures ∙ sym (cut_items-first n (len p) p.items c.requires.some c.requires.left valid.items_left (omega (arith, valid.items_cover))))))
          (IsPacket-cut n (len p) p valid (omega (arith, fits, valid.items_cover)) (omega arith));
    }

pub returns : goal.returns
returns c =
    let p = plain_packet c.args.self.now in
    let valid : IsPacket p = c.args.self.now.valid in
    parts-cut p c.args.n (len p) c.leave_off.new.self.bytes c.clip.new.self c.leave_off_first.new.self
    (c.leave_off.ensures ∙ sym (slice_range-rest p.bytes c.args.n (len p) (omega arith)))
    (c.clip.ensures ∙ ap (λ n. with_byte_tags (clip c.args.n n p.byte_tags) (tags_of p)) c.len-len.ensures)
    (c.leave_off_first.ensures ∙ sym (cut_items-first c.args.n (len p) p.items c.requires.some c.requires.left valid.items_left (omega (arith, valid.items_cover))))
