use Rattle.std.proofs.Common.{◌≡◌, ◌++◌, drop}
use Rattle.std.specs.List.{enumerate_from, filter_map}
use Rattle.scenario_form.specs.Across.{indexed, listened}
use Rattle.scenario_form.proofs.across.listened.Given as goal

-- the ports so far and those of the applications that are left are all
abbrev pub invariant-loop-index : goal.invariant-loop-index
invariant-loop-index l =
    l.ports.items ++ filter_map listened (enumerate_from l.index (drop l.index l.apps)) ≡ filter_map listened (indexed l.apps)
