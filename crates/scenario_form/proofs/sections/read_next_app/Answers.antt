use Rattle.std.proofs.Common.{Err, ap, sym, ◌∙◌}
use Rattle.scenario_form.specs.Tables.{app_of, app_check}
use Rattle.scenario_form.specs.Walk.{refusal}
use Rattle.scenario_form.proofs.Steps.{then_ok_check, then_ok_value, then_err}
use Rattle.scenario_form.proofs.TableSteps.{one_refused, one_passed, one_made, one_counted}
use Rattle.scenario_form.proofs.sections.read_next_app.Goals as goal

pub returns-in-Err-clause-checks : goal.returns-in-Err-clause-checks
returns-in-Err-clause-checks c =
    one_refused 4 _ (app_check c.args.nodes) _ _ c.in-Err.fault c.in-Some.ensures (then_err _ _ _ c.in-Err.ensures)
    ∙ ap (λ k. Err (refusal 4 k c.in-Err.fault)) (sym c.len.ensures) ∙ ap Err (sym c.refusal.ensures)

pub returns-in-Ok-push-clause-checks : goal.returns-in-Ok-push-clause-checks
returns-in-Ok-push-clause-checks c = one_passed 4 _ (app_check c.args.nodes) _ _ c.in-Some.ensures (then_ok_check _ _ _ c.in-Ok.ensures)

pub returns-in-Ok-push-clause-count : goal.returns-in-Ok-push-clause-count
returns-in-Ok-push-clause-count c = one_counted _ _ _ _ c.in-Some.ensures c.in-Ok-push.ensures.len

pub returns-in-Ok-push-clause-rows : goal.returns-in-Ok-push-clause-rows
returns-in-Ok-push-clause-rows c = one_made app_of _ _ c.in-Ok.app _ _ c.in-Some.ensures (then_ok_value _ _ _ c.in-Ok.ensures) c.in-Ok-push.ensures.items
