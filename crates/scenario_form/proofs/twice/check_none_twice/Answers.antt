use Rattle.std.proofs.Common.{sym, ◌∙◌}
use Rattle.scenario_form.proofs.HeldKeys.{next_key, stale_key}
use Rattle.scenario_form.proofs.twice.check_none_twice.Goals as goal

pub returns-in-Ok-false : goal.returns-in-Ok-false
returns-in-Ok-false g c =
    stale_key g.K.PartialEq.eq c.loop-place.held.keys c.args.keys.now c.loop-place.place-index c.loop-place-item.result _ c.loop-place-test.true c.loop-place-item.is
    (sym c.in-Ok-false.field-0-test ∙ c.in-Ok-false.ensures.added) c.loop-place.invariant

pub loop-place-preserved : goal.loop-place-preserved
loop-place-preserved g c =
    let laws = g.met.K.Eq in
    next_key g.K.PartialEq.eq c.loop-place.held.keys c.insert.new.self.keys c.args.keys.now c.loop-place.place-index c.loop-place-item.result _ c.loop-place-test.true c.loop-place-item.is
    (λ x y. laws.laws.symm x y) (sym c.in-Ok-true.field-0-test ∙ c.in-Ok-true.ensures.added) c.in-Ok-true.ensures.updates.0 c.loop-place.invariant
