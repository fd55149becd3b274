use Rattle.std.proofs.Common.{sym, ap, ◌∙◌, ◌++◌, ◌∷◌, [], subst, List}
use Rattle.std.specs.List.{position}
use Rattle.std.specs.Result.{is_ok}
use Rattle.std.proofs.lemmas.Bool.{cond_both}
use Rattle.sim_base.specs.declared.tags.PacketTag.{PacketTag}
use Rattle.sim_base.specs.Packet.{IsPacket}
use Rattle.sim_base.specs.PacketTags.{has_tag}
use Rattle.sim_base.proofs.PacketLaws.{IsPacket-replace_tag}
use Rattle.sim_base.proofs.PacketMade.{made-replace_tag}
use Rattle.pkt_face.specs.Plain.{plain_packet}
use Rattle.pkt_face.proofs.TagPlaces.{no_place, place}
use Rattle.pkt_face.proofs.plain.PlainPktPkt.replace_tag.Goals as goal

pub invariant_of-self : goal.invariant_of-self
invariant_of-self c =
    let p = plain_packet c.args.self.now in
    let at = place c.args.tag c.in-Some.place p.tags
    (ap (position (has_tag c.args.tag)) (sym c.deref.ensures.value) ∙ sym c.position_of_tag.ensures ∙ c.in-Some.is) in
    record {
      valid =
          subst IsPacket (sym (made-replace_tag c.args.tag c.args.value p _ (sym (at.replace c.args.value))))
          (IsPacket-replace_tag c.args.tag c.args.value p c.args.self.now.valid);
    }

pub invariant_of-self-in-None : goal.invariant_of-self-in-None
invariant_of-self-in-None c =
    let p = plain_packet c.args.self.now in
    let new : PacketTag = record { tag = c.args.tag; value = c.args.value } in
    let at = no_place c.args.tag p.tags
    (ap (position (has_tag c.args.tag)) (sym c.deref.ensures.value) ∙ sym c.position_of_tag.ensures ∙ c.in-None.is) in
    let P : List PacketTag → Type 0 = λ ts. IsPacket (record p { tags = ts }) in
    record {
      valid =
          subst P (sym c.push.ensures.items)
          (cond_both (is_ok c.push.result) (p.tags ++ (new ∷ [])) p.tags P
          (λ ok. subst IsPacket (sym (made-replace_tag c.args.tag c.args.value p _ (sym (at.replace c.args.value))))
          (IsPacket-replace_tag c.args.tag c.args.value p c.args.self.now.valid))
          (λ err. c.args.self.now.valid));
    }

pub returns-in-Some-clause-ok : goal.returns-in-Some-clause-ok
returns-in-Some-clause-ok c =
    let p = plain_packet c.args.self.now in
    let at = place c.args.tag c.in-Some.place p.tags
    (ap (position (has_tag c.args.tag)) (sym c.deref.ensures.value) ∙ sym c.position_of_tag.ensures ∙ c.in-Some.is) in
    made-replace_tag c.args.tag c.args.value p _ (sym (at.replace c.args.value))

pub returns-in_ok-push-in-None-clause-ok : goal.returns-in_ok-push-in-None-clause-ok
returns-in_ok-push-in-None-clause-ok c =
    let p = plain_packet c.args.self.now in
    let at = no_place c.args.tag p.tags
    (ap (position (has_tag c.args.tag)) (sym c.deref.ensures.value) ∙ sym c.position_of_tag.ensures ∙ c.in-None.is) in
    made-replace_tag c.args.tag c.args.value p _ (c.in_ok-push-in-None.ensures.items ∙ sym (at.replace c.args.value))
