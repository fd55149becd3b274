use Rattle.std.proofs.Common.{refl, sym, ◌∙◌, subst, List}
use Rattle.std.specs.Result.{is_ok}
use Rattle.std.proofs.lemmas.Bool.{cond_both}
use Rattle.sim_base.specs.declared.tags.PacketTag.{PacketTag}
use Rattle.sim_base.specs.Packet.{IsPacket}
use Rattle.sim_base.specs.PacketTags.{add_tag}
use Rattle.sim_base.proofs.PacketLaws.{IsPacket-add_tag}
use Rattle.sim_base.proofs.PacketMade.{made-add_tag}
use Rattle.pkt_face.specs.Plain.{plain_packet}
use Rattle.pkt_face.proofs.plain.PlainPktPkt.add_tag.Goals as goal

pub invariant_of-self : goal.invariant_of-self
invariant_of-self c =
    let p = plain_packet c.args.self.now in
    let P : List PacketTag → Type 0 = λ ts. IsPacket (record p { tags = ts }) in
    record {
      valid =
          subst P (sym c.push.ensures.items)
          (cond_both (is_ok c.push.result) (add_tag c.args.tag c.args.value p.tags) p.tags P
          (λ ok. subst IsPacket (sym (made-add_tag c.args.tag c.args.value p (add_tag c.args.tag c.args.value p.tags) refl))
          (IsPacket-add_tag c.args.tag c.args.value p c.args.self.now.valid (sym c.tag.ensures ∙ c.in-None.is)))
          (λ err. c.args.self.now.valid));
    }

pub returns-in-Ok-clause-ok : goal.returns-in-Ok-clause-ok
returns-in-Ok-clause-ok c = made-add_tag c.args.tag c.args.value (plain_packet c.args.self.now) _ c.in-Ok.ensures.items
