use Rattle.std.proofs.Common.{◌≡◌, ◌+◌, length, ◌++◌, map, drop, vec_len, codes}
use Rattle.toml.specs.View.{items_view, table_view}
use Rattle.scenario_form.specs.Forms.{values_in}
use Rattle.scenario_form.specs.Values.{tables_in, tables_at}
use Rattle.scenario_form.specs.Tables.{app_of, app_check}
use Rattle.scenario_form.specs.Walk.{section_check}
use Rattle.scenario_form.proofs.sections.read_apps.Given as goal

abbrev pub invariant-loop-value : goal.invariant-loop-value
invariant-loop-value l =
    let left = tables_in (values_in (items_view (drop l.value-index l.value-items))) in
    let all = tables_at (codes "app") (table_view l.document) in
    record {
      count : vec_len l.apps + length left ≡ length all;
      checks : section_check 4 (vec_len l.apps) (app_check l.nodes) left ≡ section_check 4 0 (app_check l.nodes) all;
      made : l.apps.items ++ map app_of left ≡ map app_of all;
    }
