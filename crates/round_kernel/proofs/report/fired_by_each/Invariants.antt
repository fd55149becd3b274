use Rattle.std.proofs.Common.{◌≡◌, map, take}
use Rattle.round_kernel.proofs.report.fired_by_each.Given as goal

abbrev pub invariant-loop-group : goal.invariant-loop-group
invariant-loop-group g l = l.fired.items ≡ map (λ group. group.0.fired) (take l.group-index l.groups.items)
