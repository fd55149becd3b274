use Rattle.std.proofs.Common.{sym, ap, ◌∙◌, ◌<◌, ◌++◌, ◌∷◌, [], length, subst, arith}
use Rattle.std.proofs.lemmas.List.{nil_from_length}
use Rattle.std.proofs.lemmas.Bool.{eqb-true, eqb-false}
use Rattle.sim_base.specs.Packet.{IsPacket, push_back}
use Rattle.sim_base.proofs.ItemLaws.{whole-some}
use Rattle.sim_base.proofs.PacketLaws.{push_back-nil, IsPacket-push_back}
use Rattle.sim_base.proofs.PacketMade.{made-push_back}
use Rattle.pkt_face.specs.Plain.{plain_packet}
use Rattle.pkt_face.proofs.plain.PlainPktPkt.push_back.Goals as goal

pub returns-then-is_empty-clause-ok : goal.returns-then-is_empty-clause-ok
returns-then-is_empty-clause-ok c =
    let p = plain_packet c.args.self.now in
    let none = nil_from_length c.args.bytes.now (eqb-true _ _ (sym c.is_empty.ensures ∙ c.if-is_empty.true)) in
    sym (ap (λ bs. push_back c.args.kind bs p) none ∙ push_back-nil c.args.kind p)

pub returns-clause-ok : goal.returns-clause-ok
returns-clause-ok c =
    let p = plain_packet c.args.self.now in
    let bytes = c.args.bytes.now in
    let not_none = eqb-false _ _ (sym c.is_empty.ensures ∙ c.if-is_empty.false) in
    let some : 0 < length bytes = omega arith in
    made-push_back c.args.kind bytes p _ _ (c.in_ok-longer.ensures ∙ ap (λ xs. xs ++ bytes) c.deref.ensures.value)
    (c.in_ok-push.ensures.items ∙ ap (λ i. p.items ++ (i ∷ [])) c.whole.ensures ∙ ap (λ is. p.items ++ is) (sym (whole-some c.args.kind (length bytes) some)))

pub invariant_of-self-2 : goal.invariant_of-self-2
invariant_of-self-2 c =
    let p = plain_packet c.args.self.now in
    let bytes = c.args.bytes.now in
    let not_none = eqb-false _ _ (sym c.is_empty.ensures ∙ c.if-is_empty.false) in
    let some : 0 < length bytes = omega arith in
    record {
      valid =
          subst IsPacket
          (sym (made-push_back c.args.kind bytes p _ _ (c.in_ok-longer.ensures ∙ ap (λ xs. xs ++ bytes) c.deref.ensures.value)
          (c.in_ok-push.ensures.items ∙ ap (λ i. p.items ++ (i ∷ [])) c.whole.ensures ∙ ap (λ is. p.items ++ is) (sym (whole-some c.args.kind (length bytes) some)))))
          (IsPacket-push_back c.args.kind bytes p c.args.self.now.valid c.requires);
    }
