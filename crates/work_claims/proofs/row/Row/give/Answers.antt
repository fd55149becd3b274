use Rattle.std.proofs.Common.{Some, sym, ap, subst, ◌∙◌}
use Rattle.work_claims.specs.Drawn.{IsAt, moved}
use Rattle.work_claims.specs.Row.{PassSeen}
use Rattle.work_claims.specs.declared.view.Stage.TheVariants.{Taken, Given}
use Rattle.work_claims.proofs.Turns.{written-is, written-at, pass-shut, shut-is}
use Rattle.work_claims.proofs.row.Row.give.Goals as goal

pub shut_place-requires-clause-drawn : goal.shut_place-requires-clause-drawn
shut_place-requires-clause-drawn g c =
    written-at c.args.at c.pass.inside.seat.me c.open_place.new.seat.me c.exchange.new.seat.me c.exchange.new.seat.me (Some c.args.item) c.pass.invariant.closed
    c.open_place.ensures.opened c.exchange.ensures.3 Taken (subst (λ p. IsAt p.drawn c.args.at Taken) (sym c.pass.view_is) c.requires.taken)

pub shut_place-requires-clause-open : goal.shut_place-requires-clause-open
shut_place-requires-clause-open g c = (
  Some c.args.item,
  ap (λ m. m.1) (written-is c.args.at c.pass.inside.seat.me c.open_place.new.seat.me c.exchange.new.seat.me c.exchange.new.seat.me (Some c.args.item) c.pass.invariant.closed
      c.open_place.ensures.opened c.exchange.ensures.3),
)

pub invariant_of-pass : goal.invariant_of-pass
invariant_of-pass g c =
    pass-shut c.args.at c.pass.inside.seat.me c.open_place.new.seat.me c.exchange.new.seat.me c.shut_place.new.seat.me (Some c.args.item) c.pass.invariant.closed
    c.open_place.ensures.opened c.exchange.ensures.3 _ _ c.shut_place.ensures.shut c.pass.invariant

pub returns : goal.returns
returns g c =
    let q = shut-is c.args.at c.pass.inside.seat.me c.open_place.new.seat.me c.exchange.new.seat.me c.shut_place.new.seat.me (Some c.args.item) c.pass.invariant.closed
    c.open_place.ensures.opened c.exchange.ensures.3 c.shut_place.ensures.shut in
    let t = c.shut_place.ensures.table ∙ c.exchange.ensures.0 ∙ c.open_place.ensures.table in
    record {
      given =
          (λ i. record {
            row = record { table = t i; items = (q i).0.items; passes = (q i).0.passes };
            place = c.pass.inside.place;
            past = c.pass.inside.past;
            drawn = (q i).0.drawn;
          })
          ∙ ap (λ (p : PassSeen _). record p { drawn = moved c.args.at (Given c.args.item) p.drawn }) c.pass.view_is;
    }
