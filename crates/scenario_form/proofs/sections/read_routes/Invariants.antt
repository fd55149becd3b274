use Rattle.std.proofs.Common.{◌≡◌, ◌+◌, length, ◌++◌, map, drop, vec_len, codes}
use Rattle.toml.specs.View.{items_view, table_view}
use Rattle.scenario_form.specs.Forms.{values_in}
use Rattle.scenario_form.specs.Values.{tables_in, tables_at}
use Rattle.scenario_form.specs.Tables.{route_of, route_check}
use Rattle.scenario_form.specs.Walk.{section_check}
use Rattle.scenario_form.proofs.sections.read_routes.Given as goal

abbrev pub invariant-loop-value : goal.invariant-loop-value
invariant-loop-value l =
    let left = tables_in (values_in (items_view (drop l.value-index l.value-items))) in
    let all = tables_at (codes "route") (table_view l.document) in
    record {
      count : vec_len l.routes + length left ≡ length all;
      checks : section_check 3 (vec_len l.routes) (route_check l.nodes l.routing) left ≡ section_check 3 0 (route_check l.nodes l.routing) all;
      made : l.routes.items ++ map route_of left ≡ map route_of all;
    }
