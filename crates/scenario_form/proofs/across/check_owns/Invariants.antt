use Rattle.std.proofs.Common.{◌≡◌, drop}
use Rattle.std.specs.List.{enumerate_from}
use Rattle.scenario_form.specs.Checks.{each}
use Rattle.scenario_form.specs.Across.{own_check, owns_check}
use Rattle.scenario_form.proofs.across.check_owns.Given as goal

-- the check of the applications that are left is that of all
abbrev pub invariant-loop-index : goal.invariant-loop-index
invariant-loop-index l =
    each (own_check l.ends) (enumerate_from l.index (drop l.index l.apps)) ≡ owns_check l.ends l.apps
