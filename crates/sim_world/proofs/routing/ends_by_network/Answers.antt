use Rattle.std.proofs.Common.{[], get_or, take, ap, sym, ◌∙◌}
use Rattle.std.specs.Ordering.{nat_cmp}
use Rattle.std.specs.BTreeMap.{get}
use Rattle.sim_world.specs.declared.ends.End.{End}
use Rattle.sim_world.proofs.RouteLaws.{first_inserted, next_first, not_first}
use Rattle.sim_world.proofs.routing.ends_by_network.Goals.{then-not-contains_key+in_ok-insert, else-not-contains_key}
use Rattle.sim_world.proofs.routing.ends_by_network.Goals as goal

pub loop-end-preserved : goal.loop-end-preserved
loop-end-preserved c = λ number. elim c.if-not-contains_key.branch [
  | then-not-contains_key+in_ok-insert w ↦
      ap (λ m. get nat_cmp m number) w.on-is
      ∙ first_inserted (λ (e : End). e.network.number) number (take c.loop-end.end-index c.args.ends.now) (get_or c.args.ends.now c.loop-end.end-index _)
      (get nat_cmp c.loop-end.on) (get nat_cmp w.insert.new.self) c.loop-end.invariant
      (sym c.contains_key.ensures ∙ w.if-not-contains_key.true) (w.in_ok-insert.ensures.updates.0 number)
      ∙ next_first (λ (e : End). e.network.number) number [] c.args.ends.now c.loop-end.end-index _ c.loop-end-test.true
  | else-not-contains_key w ↦
      ap (λ m. get nat_cmp m number) w.on-is
      ∙ not_first (λ (e : End). e.network.number) number (take c.loop-end.end-index c.args.ends.now) (get_or c.args.ends.now c.loop-end.end-index _)
      (get nat_cmp c.loop-end.on) c.loop-end.invariant
      (sym c.contains_key.ensures ∙ w.if-not-contains_key.false)
      ∙ next_first (λ (e : End). e.network.number) number [] c.args.ends.now c.loop-end.end-index _ c.loop-end-test.true
]
