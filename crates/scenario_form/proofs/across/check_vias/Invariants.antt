use Rattle.std.proofs.Common.{◌≡◌, drop}
use Rattle.std.specs.List.{enumerate_from}
use Rattle.scenario_form.specs.Checks.{each}
use Rattle.scenario_form.specs.Across.{via_check, vias_check}
use Rattle.scenario_form.proofs.across.check_vias.Given as goal

-- the check of the routes that are left is that of all
abbrev pub invariant-loop-index : goal.invariant-loop-index
invariant-loop-index l =
    each (via_check l.ends) (enumerate_from l.index (drop l.index l.routes)) ≡ vias_check l.ends l.routes
