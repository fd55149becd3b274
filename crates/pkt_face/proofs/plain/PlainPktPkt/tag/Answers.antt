use Rattle.std.proofs.Common.{sym, ap, ◌∙◌, Some}
use Rattle.std.specs.List.{position}
use Rattle.sim_base.specs.declared.tags.PacketTag.{PacketTag}
use Rattle.sim_base.specs.PacketTags.{has_tag}
use Rattle.pkt_face.proofs.TagPlaces.{no_place, place}
use Rattle.pkt_face.proofs.plain.PlainPktPkt.tag.Goals as goal

pub returns-in_err-place : goal.returns-in_err-place
returns-in_err-place c =
    let at = no_place c.args.tag c.args.self.now.tags.items
    (ap (position (has_tag c.args.tag)) (sym c.deref.ensures.value) ∙ sym c.position_of_tag.ensures ∙ c.in_err-place.was) in
    c.from_residual.ensures ∙ sym at.find

pub returns : goal.returns
returns c =
    let at = place c.args.tag c.in_ok-place.place c.args.self.now.tags.items
    (ap (position (has_tag c.args.tag)) (sym c.deref.ensures.value) ∙ sym c.position_of_tag.ensures ∙ c.in_ok-place.was) in
    ap (λ (t : PacketTag). Some t.value) c.index.ensures ∙ sym (at.find c.index.result.now)
