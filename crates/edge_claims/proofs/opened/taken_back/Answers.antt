use Rattle.std.proofs.Common.{List, ap, sym, ◌∙◌}
use mathlib.Core.Option.{some}
use lib.ListN.{get_elem?}
use Rattle.edge_claims.specs.Steps.{Seated}
use Rattle.edge_claims.specs.declared.view.End.{End}
use Rattle.edge_claims.proofs.Returned.{low_lies, high_lies, same_at}
use Rattle.edge_claims.proofs.opened.taken_back.Goals as goal

pub returns : goal.returns
returns c =
    let o = c.args.edges.shared.key in
    let last = c.close_with-closed.ensures.values.2 in
    let at = last.1.1 ∙ ap (λ (m : Seated). some m.0) c.requires.seat in
    let low = low_lies o last.0 c.args.seat.id last.1.0 at in
    let high = high_lies o last.0 c.args.seat.id last.1.0 at in
    let second = ap (λ (xs : List End). get_elem? xs 1) (sym c.take-low.ensures.others.0) ∙ c.take-high.ensures.value in
    record {
      low = ap (λ (e : End). e.free) (same_at _ 0 _ low.end c.take-low.ensures.value (last.4 0 low.end low.home)) ∙ low.places;
      high = ap (λ (e : End). e.free) (same_at _ 1 _ high.end second (last.4 1 high.end high.home)) ∙ high.places;
    }
