use Rattle.std.proofs.Common.{None, sym, ap, subst, ◌∙◌}
use Rattle.std.specs.List.{slice_get}
use Rattle.work_claims.specs.Drawn.{IsAt, moved}
use Rattle.work_claims.specs.Row.{PassSeen}
use Rattle.work_claims.specs.declared.view.Stage.TheVariants.{Drawn, Taken}
use Rattle.work_claims.proofs.Turns.{written-at, pass-shut, shut-is, item-is}
use Rattle.work_claims.proofs.row.Row.take.Goals as goal

pub shut_place-requires-clause-drawn : goal.shut_place-requires-clause-drawn
shut_place-requires-clause-drawn g c =
    written-at c.args.at c.pass.inside.seat.me c.open_place.new.seat.me c.exchange-item.new.seat.me c.exchange-item.new.seat.me None c.pass.invariant.closed
    c.open_place.ensures.opened c.exchange-item.ensures.3 Drawn (subst (λ p. IsAt p.drawn c.args.at Drawn) (sym c.pass.view_is) c.requires.drawn)

pub invariant_of-pass : goal.invariant_of-pass
invariant_of-pass g c =
    pass-shut c.args.at c.pass.inside.seat.me c.open_place.new.seat.me c.exchange-item.new.seat.me c.shut_place.new.seat.me None c.pass.invariant.closed
    c.open_place.ensures.opened c.exchange-item.ensures.3 _ _ c.shut_place.ensures.shut c.pass.invariant

pub returns-clause-item : goal.returns-clause-item
returns-clause-item g c =
    let items = sym (ap (λ r. r.items) (ap (λ p. p.row) c.pass.view_is ∙ c.requires.row)) in
    ap (λ l. slice_get l c.args.at) items
    ∙ item-is c.args.at c.pass.inside.seat.me c.open_place.new.seat.me c.exchange-item.result c.unwrap.result c.open_place.ensures.opened
    c.exchange-item.ensures.2 (subst (λ p. IsAt p.drawn c.args.at Drawn) (sym c.pass.view_is) c.requires.drawn) c.unwrap.ensures

pub returns-clause-taken : goal.returns-clause-taken
returns-clause-taken g c =
    let q = shut-is c.args.at c.pass.inside.seat.me c.open_place.new.seat.me c.exchange-item.new.seat.me c.shut_place.new.seat.me None c.pass.invariant.closed
    c.open_place.ensures.opened c.exchange-item.ensures.3 c.shut_place.ensures.shut in
    let t = c.shut_place.ensures.table ∙ c.exchange-item.ensures.0 ∙ c.open_place.ensures.table in
    (λ i. record {
      row = record { table = t i; items = (q i).0.items; passes = (q i).0.passes };
      place = c.pass.inside.place;
      past = c.pass.inside.past;
      drawn = (q i).0.drawn;
    })
    ∙ ap (λ (p : PassSeen _). record p { drawn = moved c.args.at Taken p.drawn }) c.pass.view_is
