use Rattle.std.proofs.Common.{rules, ◌≡◌, Some, length, sym, ap, subst, ◌∙◌, arith}
use Rattle.std.proofs.lemmas.List.Elements.{All-pop}
use Rattle.work_claims.specs.Gathered.{IsGathered}
use Rattle.work_claims.proofs.Draws.{gathers}
use Rattle.work_claims.proofs.Gathering.{first-gathered, one-gathered, nil-from}
use Rattle.work_claims.proofs.row.gather.Goals as goal

pub loop-other-init : goal.loop-other-init
loop-other-init g c =
    let rows = All-pop (λ pass. pass.row ≡ c.args.row.now) c.args.passes.items c.pop.new.self.items (Some c.in-Some.last) c.in-Some.ensures.items c.requires.rows in
    record {
      gathered =
          first-gathered c.args.row.now c.args.passes.items c.pop.new.self.items c.last.inside.seat.table_id c.last.inside.seat.me c.last.inside.place
          c.last.inside.past c.last.inside.emptied c.in-Some.last c.last.view_is c.in-Some.ensures.items rows.1 c.last.invariant;
      rows = rows.0;
    }

pub join_seat-requires : goal.join_seat-requires
join_seat-requires g c =
    let rows = All-pop (λ pass. pass.row ≡ c.args.row.now) c.loop-other.passes.items c.pop-in-loop-other.new.self.items (Some c.in-Some-pop.other) c.in-Some-pop.ensures.items c.loop-other.invariant.rows in
    let gathered = c.loop-other.invariant.gathered in
    let here = sym (ap (λ r. r.table) c.row.view_is) in (
      gathered.here ∙ here,
      ap (λ x. x.row.table) c.other.view_is ∙ ap (λ r. r.table) rows.1 ∙ here,
      c.other.invariant.closed,
      omega (arith, c.row.invariant.2),
      gathers c.row.inside.places.shared.key c.loop-other.seat.id c.loop-other.seat.me.0 c.other.inside.seat.id c.other.inside.seat.me.0
          (omega (arith, gathered.some)) (omega (arith, c.other.invariant.one)),
    )

pub loop-other-preserved : goal.loop-other-preserved
loop-other-preserved g c =
    let rows = All-pop (λ pass. pass.row ≡ c.args.row.now) c.loop-other.passes.items c.pop-in-loop-other.new.self.items (Some c.in-Some-pop.other) c.in-Some-pop.ensures.items c.loop-other.invariant.rows in
    record {
      gathered =
          one-gathered c.args.row.now c.args.passes.items c.loop-other.passes.items c.pop-in-loop-other.new.self.items c.loop-other.seat.table_id c.join_seat.new.seat.table_id
          c.other.inside.seat.table_id c.loop-other.seat.me c.join_seat.new.seat.me c.other.inside.seat.me c.other.inside.place c.other.inside.past c.loop-other.emptied
          c.other.inside.emptied c.kept-emptied.result c.in-Some-pop.other c.loop-other.invariant.gathered c.other.view_is c.in-Some-pop.ensures.items rows.1
          c.other.invariant c.join_seat.ensures.0 c.join_seat.ensures.2 c.kept-emptied.ensures;
      rows = rows.0;
    }

pub returns : goal.returns
returns g c =
    let none : length c.loop-other.passes.items ≡ 0 = search rules in
    subst (λ left. IsGathered c.args.row.now left c.args.passes.items c.loop-other.seat.table_id c.loop-other.seat.me c.loop-other.emptied)
    (nil-from c.loop-other.passes.items none) c.loop-other.invariant.gathered
