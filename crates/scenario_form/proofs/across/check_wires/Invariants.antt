use Rattle.std.proofs.Common.{◌≡◌, drop}
use Rattle.std.specs.List.{enumerate_from}
use Rattle.scenario_form.specs.Across.{indexed, losses_check}
use Rattle.scenario_form.proofs.across.check_wires.Given as goal

-- the check of the losses that are left is that of all
abbrev pub invariant-loop-index : goal.invariant-loop-index
invariant-loop-index l =
    losses_check l.ends l.held.keys (enumerate_from l.index (drop l.index l.losses)) ≡ losses_check l.ends l.fn.held.keys (indexed l.losses)
