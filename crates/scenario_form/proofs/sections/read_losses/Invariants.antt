use Rattle.std.proofs.Common.{◌≡◌, ◌+◌, length, ◌++◌, map, drop, vec_len, codes}
use Rattle.toml.specs.View.{items_view, table_view}
use Rattle.scenario_form.specs.Forms.{values_in}
use Rattle.scenario_form.specs.Values.{tables_in, tables_at}
use Rattle.scenario_form.specs.Tables.{loss_of, loss_check}
use Rattle.scenario_form.specs.Walk.{section_check}
use Rattle.scenario_form.proofs.sections.read_losses.Given as goal

abbrev pub invariant-loop-value : goal.invariant-loop-value
invariant-loop-value l =
    let left = tables_in (values_in (items_view (drop l.value-index l.value-items))) in
    let all = tables_at (codes "loss") (table_view l.document) in
    record {
      count : vec_len l.losses + length left ≡ length all;
      checks : section_check 5 (vec_len l.losses) (loss_check l.nodes) left ≡ section_check 5 0 (loss_check l.nodes) all;
      made : l.losses.items ++ map loss_of left ≡ map loss_of all;
    }
