use Rattle.std.proofs.Common.{◌≡◌, ◌||◌, drop}
use Rattle.std.specs.List.{list_any}
use Rattle.scenario_form.specs.Across.{Target, same_target, connected}
use Rattle.scenario_form.proofs.lookups.connected.Given as goal

-- what is held so far, or is among those that are left, is among all
abbrev pub invariant-loop-end : goal.invariant-loop-end
invariant-loop-end l =
    (t : Target) → (list_any (same_target t) l.held.keys || list_any (same_target t) (connected (drop l.end-index l.ends))) ≡ list_any (same_target t) (connected l.ends)
