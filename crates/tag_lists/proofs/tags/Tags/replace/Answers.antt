use Rattle.std.proofs.Common.{◌≡◌, ◌∷◌, [], length, List, sym, ap, ◌∙◌, slice_set, arith}
use Rattle.std.specs.List.{position}
use Rattle.std.proofs.lemmas.List.{take_at, length-set, length-append}
use Rattle.sim_base.specs.declared.tags.PacketTag.{PacketTag}
use Rattle.sim_base.specs.PacketTags.{has_tag, replace_tag}
use Rattle.pkt_face.proofs.TagPlaces.{no_place, place}
use Rattle.tag_lists.specs.TagLists.{TagLists}
use Rattle.tag_lists.proofs.tags.Tags.replace.Goals as goal

pub returns-in_err-push-in-None-clause-inline : goal.returns-in_err-push-in-None-clause-inline
returns-in_err-push-in-None-clause-inline c = λ short.
    let ts = c.args.self.now.packet_tags in
    let new : PacketTag = record { tag = c.args.tag; value = c.args.value } in
    let at = no_place c.args.tag ts (sym c.place_of.ensures ∙ c.in-None.is) in
    let longer = ap length (at.replace c.args.value) ∙ length-append ts (new ∷ []) in
    let same = ap (λ (t : TagLists). length t.packet_tags) c.self.view_is in
    let refused = c.in_err-push-in-None.ensures.succeeds (omega (arith, longer, same)) in
    absurd (cc)

pub returns-in-Some-clause-ok : goal.returns-in-Some-clause-ok
returns-in-Some-clause-ok c =
    let ts = c.self.inside.packet_tags.items in
    let k = c.in-Some.place in
    let new : PacketTag = record { tag = c.args.tag; value = c.args.value } in
    let at = place c.args.tag k ts (ap (λ (t : TagLists). position (has_tag c.args.tag) t.packet_tags) c.self.view_is ∙ sym c.place_of.ensures ∙ c.in-Some.is) in
    let written : slice_set c.deref_mut.result.now k new ≡ replace_tag c.args.tag c.args.value ts =
    ap (λ (xs : List PacketTag). slice_set xs k new) c.deref_mut.ensures.value ∙ sym (at.replace c.args.value) in
    let long : length (slice_set c.deref_mut.result.now k new) ≡ length ts = length-set c.deref_mut.result.now k new ∙ ap length c.deref_mut.ensures.value in
    let made : List PacketTag → TagLists = λ xs. record { byte_tags = c.self.inside.byte_tags.items; packet_tags = xs } in
    rw (← c.self.view_is) (ap made (take_at (slice_set c.deref_mut.result.now k new) _ _ (omega (arith, long)) ∙ written))

pub returns-in_ok-push-in-None-clause-ok : goal.returns-in_ok-push-in-None-clause-ok
returns-in_ok-push-in-None-clause-ok c =
    let ts = c.self.inside.packet_tags.items in
    let at = no_place c.args.tag ts (ap (λ (t : TagLists). position (has_tag c.args.tag) t.packet_tags) c.self.view_is ∙ sym c.place_of.ensures ∙ c.in-None.is) in
    let made : List PacketTag → TagLists = λ xs. record { byte_tags = c.self.inside.byte_tags.items; packet_tags = xs } in
    rw (← c.self.view_is) (ap made (c.in_ok-push-in-None.ensures.ok ∙ sym (at.replace c.args.value)))
