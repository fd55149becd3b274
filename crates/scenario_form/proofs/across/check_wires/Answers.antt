use Rattle.std.proofs.Common.{sym, ap, ◌∙◌, Err}
use Rattle.scenario_form.specs.declared.field.Code.TheVariants.{Twice, NoInterface}
use Rattle.scenario_form.specs.declared.refusal.Refusal.TheVariants.{Schema}
use Rattle.scenario_form.proofs.LossSteps.{absent_loss, stale_loss, next_loss}
use Rattle.scenario_form.proofs.across.check_wires.Goals as goal

pub returns-in-None : goal.returns-in-None
returns-in-None c =
    absent_loss c.args.ends.now c.loop-index.held.keys c.args.losses.now c.loop-index.index c.index-losses-index.result _ c.loop-index-test.true c.index-losses-index.is c.in-None.ensures c.loop-index.invariant
    ∙ ap (λ p. Err (Schema p NoInterface)) (sym c.place-place.ensures)

pub returns-in-Ok-false : goal.returns-in-Ok-false
returns-in-Ok-false c =
    stale_loss c.args.ends.now c.loop-index.held.keys c.args.losses.now c.loop-index.index c.index-losses-index.result c.in-Some.wire _ c.loop-index-test.true c.index-losses-index.is c.in-Some.ensures
    (sym c.in-Ok-false.field-0-test ∙ c.in-Ok-false.ensures.added) c.loop-index.invariant
    ∙ ap (λ p. Err (Schema p Twice)) (sym c.place-place.ensures)

pub loop-index-preserved : goal.loop-index-preserved
loop-index-preserved c =
    next_loss c.args.ends.now c.loop-index.held.keys c.insert.new.self.keys c.args.losses.now c.loop-index.index c.index-losses-index.result c.in-Some.wire _ c.loop-index-test.true c.index-losses-index.is c.in-Some.ensures
    (sym c.in-Ok-true.field-0-test ∙ c.in-Ok-true.ensures.added) c.in-Ok-true.ensures.updates.0 c.loop-index.invariant
