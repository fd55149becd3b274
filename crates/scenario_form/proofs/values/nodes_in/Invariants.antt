use Rattle.std.proofs.Common.{◌≡◌, ◌++◌, drop}
use Rattle.toml.specs.View.{items_view}
use Rattle.scenario_form.specs.Forms.{values_in}
use Rattle.scenario_form.specs.Values.{nodes_in}
use Rattle.scenario_form.proofs.values.nodes_in.Given as goal

-- those so far and those of what is left are those of all
abbrev pub invariant-loop-value : goal.invariant-loop-value
invariant-loop-value l =
    l.nodes.items ++ nodes_in (values_in (items_view (drop l.value-index l.values))) ≡ nodes_in (values_in (items_view l.values))
