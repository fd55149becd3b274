use Rattle.std.proofs.Common.{sym, ap, ◌∙◌, ◌≡◌, ◌<◌, ◌++◌, ◌∷◌, [], length, arith, Vec, Global}
use Rattle.std.proofs.lemmas.Bool.{eqb-true, eqb-false}
use Rattle.sim_base.specs.declared.item.Item.{Item}
use Rattle.sim_base.specs.declared.item.Kind.TheVariants.{Payload}
use Rattle.sim_base.specs.Items.{whole, whole_item}
use Rattle.sim_base.proofs.ItemLaws.{whole-some}
use Rattle.sim_base.proofs.PacketMade.{made-from_bytes}
use Rattle.pkt_face.proofs.plain.PlainPkt.whole.Goals as goal
use Rattle.pkt_face.proofs.plain.PlainPkt.whole.Goals.{then-not-is_empty+in_ok-push, else-not-is_empty}

pub returns : goal.returns
returns c =
    made-from_bytes c.args.uid c.args.bytes.items _ _ _ c.new.ensures.items c.new-2.ensures.items
    (elim c.if-not-is_empty.branch [
      | then-not-is_empty+in_ok-push w ↦
          let not_none = eqb-false _ _ (sym c.is_empty.ensures ∙ w.if-not-is_empty.true) in
          let some : 0 < length c.args.bytes.items = omega arith in
          let size : w.len.result ≡ length c.args.bytes.items = omega arith in
          ap (λ (v : Vec Item Global). v.items) w.items-is ∙ w.in_ok-push.ensures.items
          ∙ ap (λ xs. xs ++ (w.whole.result ∷ [])) c.new-items.ensures.items
          ∙ ap (λ i. i ∷ []) (w.whole.ensures ∙ ap (whole_item Payload) size)
          ∙ sym (whole-some Payload (length c.args.bytes.items) some)
      | else-not-is_empty w ↦
          let none = eqb-true _ _ (sym c.is_empty.ensures ∙ w.if-not-is_empty.false) in
          let at_none : 0 ≡ length c.args.bytes.items = omega arith in
          ap (λ (v : Vec Item Global). v.items) w.items-is ∙ c.new-items.ensures.items ∙ ap (whole Payload) at_none
    ])
