use Rattle.std.proofs.Common.{◌≡◌, ◌-◌, ◌++◌, length, List, sym, ap, ◌∙◌, arith, length-append}
use Rattle.std.specs.Prelude.{slice_get}
use Rattle.sim_base.specs.declared.item.Item.{Item}
use Rattle.sim_base.specs.Items.{join_items}
use Rattle.pkt_face.proofs.JoinedItems.{join_items-apart, join_items-none_before, join_items-none_behind}
use Rattle.packet_meta.proofs.Appended.{appended-by_write, length-appended}
use Rattle.packet_meta.proofs.meta.append.Goals as goal
use Rattle.packet_meta.proofs.meta.append.Goals.{in_default-via-in-Some-Some+else-goes_on, in_default-via-in-Some+in_default, in_default-via-in_default}

pub returns-in_ok-extend_from_slice-in-Some-Some-clause-ok : goal.returns-in_ok-extend_from_slice-in-Some-Some-clause-ok
returns-in_ok-extend_from_slice-in-Some-Some-clause-ok c =
    appended-by_write c.args.items.now.items c.args.back.now _ _ (ap (λ (xs : List Item). slice_get xs (length xs - 1)) (sym c.as_slice.ensures) ∙ sym c.in-Some-Some.ensures.value)
    (sym c.in-Some-Some.ensures'.value) (sym c.goes_on.ensures ∙ c.if-goes_on.true) c.extend_from_slice.new.self.items c.deref_mut.result.now (c.len-end.result - 1) _
    c.in_ok-extend_from_slice-in-Some-Some.ensures.ok c.deref_mut.ensures.value (ap (λ n. n - 1) c.len-end.ensures.value)

pub returns-in_err-extend_from_slice-in-Some-Some-clause-succeeds : goal.returns-in_err-extend_from_slice-in-Some-Some-clause-succeeds
returns-in_err-extend_from_slice-in-Some-Some-clause-succeeds c = λ short.
    let long = length-appended c.args.items.now.items c.args.back.now _ _ (ap (λ (xs : List Item). slice_get xs (length xs - 1)) (sym c.as_slice.ensures) ∙ sym c.in-Some-Some.ensures.value)
    (sym c.in-Some-Some.ensures'.value) (sym c.goes_on.ensures ∙ c.if-goes_on.true) in
    let refused = c.in_err-extend_from_slice-in-Some-Some.ensures.succeeds (omega (arith, long, short)) in
    absurd (cc)

pub returns-in_ok-extend_from_slice-in_default-clause-ok : goal.returns-in_ok-extend_from_slice-in_default-clause-ok
returns-in_ok-extend_from_slice-in_default-clause-ok c =
    let apart : join_items c.args.items.now.items c.args.back.now ≡ c.args.items.now.items ++ c.args.back.now =
    elim c.in_default.branch [
      | in_default-via-in-Some-Some+else-goes_on w ↦
          join_items-apart c.args.items.now.items c.args.back.now _ _ (ap (λ (xs : List Item). slice_get xs (length xs - 1)) (sym c.as_slice.ensures) ∙ sym w.in-Some-Some.ensures.value)
          (sym w.in-Some-Some.ensures'.value) (sym w.goes_on.ensures ∙ w.if-goes_on.false)
      | in_default-via-in-Some+in_default w ↦ join_items-none_behind c.args.items.now.items c.args.back.now (sym w.in_default.ensures'.value)
      | in_default-via-in_default w ↦
          join_items-none_before c.args.items.now.items c.args.back.now (ap (λ (xs : List Item). slice_get xs (length xs - 1)) (sym c.as_slice.ensures) ∙ sym w.in_default.ensures.value)
    ] in
    c.in_ok-extend_from_slice-in_default.ensures.ok ∙ sym apart

pub returns-in_err-extend_from_slice-in_default-clause-succeeds : goal.returns-in_err-extend_from_slice-in_default-clause-succeeds
returns-in_err-extend_from_slice-in_default-clause-succeeds c = λ short.
    let apart : join_items c.args.items.now.items c.args.back.now ≡ c.args.items.now.items ++ c.args.back.now =
    elim c.in_default.branch [
      | in_default-via-in-Some-Some+else-goes_on w ↦
          join_items-apart c.args.items.now.items c.args.back.now _ _ (ap (λ (xs : List Item). slice_get xs (length xs - 1)) (sym c.as_slice.ensures) ∙ sym w.in-Some-Some.ensures.value)
          (sym w.in-Some-Some.ensures'.value) (sym w.goes_on.ensures ∙ w.if-goes_on.false)
      | in_default-via-in-Some+in_default w ↦ join_items-none_behind c.args.items.now.items c.args.back.now (sym w.in_default.ensures'.value)
      | in_default-via-in_default w ↦
          join_items-none_before c.args.items.now.items c.args.back.now (ap (λ (xs : List Item). slice_get xs (length xs - 1)) (sym c.as_slice.ensures) ∙ sym w.in_default.ensures.value)
    ] in
    let long = ap length apart ∙ length-append c.args.items.now.items c.args.back.now in
    let refused = c.in_err-extend_from_slice-in_default.ensures.succeeds (omega (arith, long, short)) in
    absurd (cc)
