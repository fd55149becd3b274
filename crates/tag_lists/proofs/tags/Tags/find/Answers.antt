use Rattle.std.proofs.Common.{List, Some, sym, ap, ◌∙◌, slice_index_or}
use Rattle.sim_base.specs.declared.tags.PacketTag.{PacketTag}
use Rattle.pkt_face.proofs.TagPlaces.{no_place, place}
use Rattle.tag_lists.specs.TagLists.{TagLists}
use Rattle.tag_lists.proofs.tags.Tags.find.Goals as goal

pub returns-in_err-place : goal.returns-in_err-place
returns-in_err-place c =
    let at = no_place c.args.tag c.args.self.now.packet_tags (sym c.place_of.ensures ∙ c.in_err-place.was) in
    c.from_residual.ensures ∙ sym at.find

pub returns : goal.returns
returns c =
    let at = place c.args.tag c.in_ok-place.place c.args.self.now.packet_tags (sym c.place_of.ensures ∙ c.in_ok-place.was) in
    let held : List PacketTag → PacketTag = λ ts. slice_index_or ts c.in_ok-place.place (record { tag = 0; value = 0 }) in
    ap (λ (ts : List PacketTag). Some (held ts).value) (c.deref.ensures ∙ ap (λ (t : TagLists). t.packet_tags) c.self.view_is) ∙ sym (at.find _)
