use Rattle.std.proofs.Common.{[], ◌∷◌, ◌++◌, ap, sym, ◌∙◌}
use Rattle.sim_world.proofs.RangeLaws.{range-more}
use Rattle.sim_world.proofs.world.places.Goals as goal

pub loop-number-preserved : goal.loop-number-preserved
loop-number-preserved c = c.in_ok-push.ensures.items ∙ ap (λ places. places ++ c.loop-number.number ∷ []) c.loop-number.invariant ∙ sym (range-more c.loop-number.number)
