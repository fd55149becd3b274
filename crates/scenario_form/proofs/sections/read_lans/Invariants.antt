use Rattle.std.proofs.Common.{◌≡◌, ◌+◌, length, ◌++◌, map, drop, vec_len, codes}
use Rattle.toml.specs.View.{items_view, table_view}
use Rattle.scenario_form.specs.Forms.{values_in}
use Rattle.scenario_form.specs.Values.{tables_in, tables_at}
use Rattle.scenario_form.specs.Tables.{lan_of, lan_check}
use Rattle.scenario_form.specs.Walk.{section_check}
use Rattle.scenario_form.proofs.sections.read_lans.Given as goal

abbrev pub invariant-loop-value : goal.invariant-loop-value
invariant-loop-value l =
    let left = tables_in (values_in (items_view (drop l.value-index l.value-items))) in
    let all = tables_at (codes "lan") (table_view l.document) in
    record {
      count : vec_len l.lans + length left ≡ length all;
      checks : section_check 2 (vec_len l.lans) (lan_check l.nodes) left ≡ section_check 2 0 (lan_check l.nodes) all;
      made : l.lans.items ++ map lan_of left ≡ map lan_of all;
    }
