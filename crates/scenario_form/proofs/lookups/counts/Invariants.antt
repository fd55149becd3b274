use Rattle.std.proofs.Common.{◌≡◌, ◌+◌, ℕ, drop}
use Rattle.scenario_form.specs.Across.{interface_count}
use Rattle.scenario_form.specs.Lookups.{count_at}
use Rattle.scenario_form.proofs.lookups.counts.Given as goal

-- those counted so far and those that are left are all
abbrev pub invariant-loop-end : goal.invariant-loop-end
invariant-loop-end l =
    (node : ℕ) → count_at l.counts node + interface_count (drop l.end-index l.ends) node ≡ interface_count l.ends node
