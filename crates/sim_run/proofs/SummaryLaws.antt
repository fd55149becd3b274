-- Lines of applications with the same counts.
use Rattle.std.proofs.Common.{◌≡◌, ℕ, ◌+◌, ◌<◌, ◌≤◌, List, [], ◌∷◌, ◌++◌, length, refl, ap, ◌∙◌, arith}
use Rattle.node_step.specs.declared.local_app.AppCount.{AppCount}
use Rattle.scenario_form.specs.declared.scenario.App.{App}
use Rattle.sim_run.specs.Summary.{app_line, app_lines}

pub app_lines-same : (number : ℕ) (apps : List App) (f g : ℕ → AppCount)
    → ((app : ℕ) → number ≤ app → app < number + length apps → f app ≡ g app) → app_lines number apps f ≡ app_lines number apps g
app_lines-same number [] f g same = refl
app_lines-same number (a ∷ apps) f g same =
    ap (λ c. app_line number a.kind c ++ app_lines (number + 1) apps f) (same number (omega arith) (omega arith))
    ∙ ap (λ lines. app_line number a.kind (g number) ++ lines)
    (app_lines-same (number + 1) apps f g (λ app low within. same app (omega arith) (omega (arith, within))))
