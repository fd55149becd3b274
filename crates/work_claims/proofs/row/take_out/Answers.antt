use Rattle.std.proofs.Common.{rules, ◌≡◌, false, get_or, sym, ap, subst, ◌∙◌}
use mathlib.Core.Option.{some}
use lib.ListN.{get_elem?}
use Rattle.std.specs.Slots.{slots_filled, slots_items}
use Rattle.work_claims.proofs.Closing.{moved-more, not-none, taken-more}
use Rattle.work_claims.proofs.row.take_out.Goals as goal

pub unreachable-requires : goal.unreachable-requires
unreachable-requires g c =
    let inv = c.loop-at.invariant in
    let item = c.requires.each c.loop-at.at (search rules) in
    not-none item.0 (sym (ap (λ l. get_elem? l c.loop-at.at) inv.same ∙ item.1) ∙ c.in-None.ensures.value)

pub loop-at-preserved : goal.loop-at-preserved
loop-at-preserved g c =
    let inv = c.loop-at.invariant in
    let others = c.take.ensures.others in
    record {
      same = others.0 ∙ inv.same;
      count = others.2 ∙ inv.count;
      full = search rules;
      taken = λ k low. subst (λ fs. get_or fs k false ≡ false) (sym others.1) (taken-more (slots_filled c.loop-at.closed.slots) c.loop-at.at k low inv.taken);
      long = search rules;
      moved = λ n item low is.
          subst (λ l. get_elem? l n ≡ some item) (sym c.push_reserved.ensures.items)
          (moved-more (slots_items c.args.closed.slots) c.loop-at.items.items c.loop-at.at c.in-Some.item inv.long
          (ap (λ l. get_elem? l c.loop-at.at) (sym inv.same) ∙ c.in-Some.ensures.value) inv.moved n item low is);
      room = search rules;
    }
