use Rattle.std.proofs.Common.{◌≡◌, ◌+◌, ◌-◌, ◌≤◌, true, false, [], length, map, sym, ap, subst, ◌∙◌, arith}
use Rattle.std.proofs.lemmas.List.FromFn.{length-map-range_with_len}
use Rattle.std.specs.List.{range_with_len}
use Rattle.work_claims.specs.Row.{fresh}
use Rattle.work_claims.specs.Steps.{dealt_view}
use Rattle.work_claims.proofs.Draws.{deals}
use Rattle.work_claims.proofs.Dealing.{unused, pass-is, one-more, less}
use Rattle.work_claims.proofs.row.deal.Goals as goal

pub split_seat-dealt_seat-requires : goal.split_seat-dealt_seat-requires
split_seat-dealt_seat-requires g c =
    let parts = ap (λ m. m.0.parts) c.loop-place.invariant.left in
    let passes = ap (λ r. r.passes) c.row.view_is in (
      c.loop-place.invariant.table ∙ sym (ap (λ r. r.table) c.row.view_is),
      omega (arith, c.row.invariant.2),
      deals c.row.inside.places.shared.key c.loop-place.seat.id c.loop-place.seat.me.0
          (omega (arith, parts, passes, c.loop-place-test.true)) (ap (λ m. m.0.past) c.loop-place.invariant.left),
    )

pub loop-place-preserved : goal.loop-place-preserved
loop-place-preserved g c =
    let row = c.args.row.now in
    let inv = c.loop-place.invariant in
    let split = c.split_seat-dealt_seat.ensures in
    let dealt =
    one-more row c.loop-place.place c.loop-place.dealt.items c.push_reserved.new.self.items _
    (pass-is row c.loop-place.place false 1 c.split_seat-dealt_seat.result.table_id c.split_seat-dealt_seat.result.me (split.3 ∙ inv.table)
    (split.4 ∙ ap (λ m. (dealt_view m.0, [])) inv.left)) inv.dealt c.push_reserved.ensures.items in
    record {
      table = split.0 ∙ inv.table;
      left = less row c.loop-place.place c.loop-place.seat.me c.split_seat-dealt_seat.new.seat.me inv.left split.2;
      dealt = dealt;
      counted = ap length dealt ∙ length-map-range_with_len (fresh row) 0 (c.loop-place.place + 1);
      room = subst (λ n. row.passes ≤ n) (sym c.push_reserved.ensures.capacity) inv.room;
    }

pub returns : goal.returns
returns g c =
    let row = c.args.row.now in
    let inv = c.loop-place.invariant in
    let passes = ap (λ r. r.passes) c.row.view_is in
    let last : c.loop-place.place ≡ c.row.inside.passes - 1 = omega (arith, c.loop-place-test.false, c.loop-place.auto.place-end) in
    let one : row.passes - c.loop-place.place ≡ 1 = omega (arith, last, passes, c.requires.some_pass) in
    let all : c.row.inside.passes - 1 + 1 ≡ row.passes = omega (arith, passes, c.requires.some_pass) in
    one-more row (c.row.inside.passes - 1) c.loop-place.dealt.items c.push_reserved-2.new.self.items _
    (pass-is row (c.row.inside.passes - 1) true 1 c.loop-place.seat.table_id c.loop-place.seat.me inv.table (inv.left ∙ ap (λ n. unused row true n) one))
    (inv.dealt ∙ ap (λ n. map (fresh row) (range_with_len 0 n)) last) c.push_reserved-2.ensures.items
    ∙ ap (λ n. map (fresh row) (range_with_len 0 n)) all
