use Rattle.std.proofs.Common.{◌≡◌, ◌+◌, length, ◌++◌, map, drop, vec_len, codes}
use Rattle.toml.specs.View.{items_view, table_view}
use Rattle.scenario_form.specs.Forms.{values_in}
use Rattle.scenario_form.specs.Values.{tables_in, tables_at}
use Rattle.scenario_form.specs.Tables.{link_of, link_check}
use Rattle.scenario_form.specs.Walk.{section_check}
use Rattle.scenario_form.proofs.sections.read_links.Given as goal

abbrev pub invariant-loop-value : goal.invariant-loop-value
invariant-loop-value l =
    let left = tables_in (values_in (items_view (drop l.value-index l.value-items))) in
    let all = tables_at (codes "link") (table_view l.document) in
    record {
      count : vec_len l.links + length left ≡ length all;
      checks : section_check 1 (vec_len l.links) (link_check l.nodes) left ≡ section_check 1 0 (link_check l.nodes) all;
      made : l.links.items ++ map link_of left ≡ map link_of all;
    }
