use Rattle.std.proofs.Common.{List, map, subst, ◌∙◌}
use Rattle.scenario_form.specs.declared.refusal.Place.{Place}
use Rattle.scenario_form.specs.Across.{Target, same_target, connected, indexed, route_target, none_twice, targets_check}
use Rattle.scenario_form.specs.Answers.{Passes}
use Rattle.scenario_form.proofs.HeldKeys.{none_twice-same}
use Rattle.scenario_form.proofs.AnswerSteps.{passes_same}
use Rattle.scenario_form.proofs.across.check_targets.Goals as goal

pub returns-in-Ok : goal.returns-in-Ok
returns-in-Ok c =
    let P : List (Place × Target) → Type 0 = λ keys. Passes c.check_none_twice.result (none_twice same_target c.args.held.keys keys) in
    passes_same c.check_none_twice.result _ (targets_check c.args.ends.now c.args.routes.now)
    (none_twice-same same_target c.args.held.keys (connected c.args.ends.now) (map route_target (indexed c.args.routes.now)) c.requires.held)
    (subst P (c.as_slice.ensures.value ∙ c.in-Ok.ensures) c.check_none_twice.ensures)
