use Rattle.std.proofs.Common.{◌≡◌, ◌++◌, drop}
use Rattle.toml.specs.View.{items_view}
use Rattle.scenario_form.specs.Forms.{values_in}
use Rattle.scenario_form.specs.Walk.{groups_of}
use Rattle.scenario_form.proofs.groups.groups_in.Given as goal

-- the groups so far and those of what is left are those of all
abbrev pub invariant-loop-value : goal.invariant-loop-value
invariant-loop-value l =
    l.groups.items ++ groups_of (values_in (items_view (drop l.value-index l.values))) ≡ groups_of (values_in (items_view l.values))
