use Rattle.std.proofs.Common.{◌≡◌, ◌++◌, drop, map}
use Rattle.std.specs.List.{enumerate_from}
use Rattle.scenario_form.specs.Across.{indexed, route_target}
use Rattle.scenario_form.proofs.across.route_targets.Given as goal

-- the targets so far and those of the routes that are left are all
abbrev pub invariant-loop-index : goal.invariant-loop-index
invariant-loop-index l =
    l.targets.items ++ map route_target (enumerate_from l.index (drop l.index l.routes)) ≡ map route_target (indexed l.routes)
