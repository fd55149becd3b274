use Rattle.std.proofs.Common.{rules, ◌≡◌, ◌<◌, false, length, sym, ap, subst, ◌∙◌, arith}
use Rattle.std.proofs.lemmas.Bool.{false≢true}
use Rattle.std.proofs.lemmas.List.Folds.{list_any-from_Any}
use Rattle.work_claims.specs.Drawn.{AllGiven, IsAt, times}
use Rattle.work_claims.specs.Gathered.{is_past}
use Rattle.work_claims.specs.declared.view.Stage.TheVariants.{Given}
use Rattle.work_claims.proofs.Turns.{slice_get-from}
use Rattle.work_claims.proofs.Gathering.{not-kept}
use Rattle.work_claims.proofs.Closing.{once-each, keeps-list, given-lies, given-low, each-lies}
use Rattle.work_claims.proofs.row.Row.close.Goals as goal

pub unreachable-requires : goal.unreachable-requires
unreachable-requires g c =
    let seat = c.gather-seat.result.0 in
    let joined = c.gather-seat.ensures in
    let all : length c.args.passes.items ≡ c.args.self.passes = search rules in
    let passes = ap (λ r. r.passes) c.self.view_is in
    let no : seat.me.0.keeps ≡ false = not-kept seat.me c.gather-seat.result.1 joined.keeps c.in_default.is in
    false≢true (sym no ∙ keeps-list c.self.inside.places.shared.key seat.id seat.me.0 _ _ c.close_with-closed.ensures.values.2 (omega (arith, joined.parts, all, passes, c.self.invariant.1)) joined.some)

pub take_out-requires-clause-each : goal.take_out-requires-clause-each
take_out-requires-clause-each g c =
    let seat = c.gather-seat.result.0 in
    let joined = c.gather-seat.ensures in
    let all : length c.args.passes.items ≡ c.args.self.passes = search rules in
    let passes = ap (λ r. r.passes) c.self.view_is in
    λ n low.
    each-lies c.self.inside.places.shared.key seat.id seat.me.0 _ _ c.close_with-closed.ensures.values.2 (omega (arith, joined.parts, all, passes, c.self.invariant.1)) joined.some
    (joined.past ∙ list_any-from_Any is_past c.args.passes.items c.requires.past) (subst AllGiven (sym joined.drawn) c.requires.given)
    n (omega (arith, low, c.close_with-closed.ensures.counts.1, c.self.invariant.3, c.self.invariant.0))

pub returns-clause-once : goal.returns-clause-once
returns-clause-once g c =
    let seat = c.gather-seat.result.0 in
    let joined = c.gather-seat.ensures in
    let all : length c.args.passes.items ≡ c.args.self.passes = search rules in
    let passes = ap (λ r. r.passes) c.self.view_is in
    let items = ap (λ r. length r.items) c.self.view_is in
    λ n low.
    ap (λ ds. times n ds) (sym joined.drawn)
    ∙ once-each c.self.inside.places.shared.key seat.id seat.me.0 _ _ c.close_with-closed.ensures.values.2 (omega (arith, joined.parts, all, passes, c.self.invariant.1)) joined.some
    (joined.past ∙ list_any-from_Any is_past c.args.passes.items c.requires.past) n (subst (λ l. n < l) (sym items) low)

pub returns-clause-items : goal.returns-clause-items
returns-clause-items g c =
    let seat = c.gather-seat.result.0 in
    let joined = c.gather-seat.ensures in
    let all : length c.args.passes.items ≡ c.args.self.passes = search rules in
    let passes = ap (λ r. r.passes) c.self.view_is in
    let whole : seat.me.0.parts ≡ c.self.inside.places.shared.key.passes = omega (arith, joined.parts, all, passes, c.self.invariant.1) in
    λ n item at.
    let drawn = subst (λ ds. IsAt ds n (Given item)) (sym joined.drawn) at in
    let low = given-low c.self.inside.places.shared.key seat.id seat.me.0 _ _ c.close_with-closed.ensures.values.2 whole joined.some n item drawn in
    slice_get-from c.take_out.new.items.items n item
    (c.take_out.ensures.items n item (omega (arith, low, c.close_with-closed.ensures.counts.1, c.self.invariant.3, c.self.invariant.0))
    (given-lies c.self.inside.places.shared.key seat.id seat.me.0 _ _ c.close_with-closed.ensures.values.2 whole joined.some n item drawn))
