use Rattle.std.proofs.Common.{length, ◌∙◌}
use Rattle.std.specs.List.{filter_map, range_with_len}
use Rattle.sim_world.specs.Guide.{led_by}
use Rattle.sim_world.proofs.GuideLaws.{least_is}
use Rattle.sim_world.proofs.guide.Map.routes_of.Goals as goal

pub returns : goal.returns
returns c =
    let ends = c.args.ends.now in
    c.in_ok-entries.ensures
    ∙ (λ i. filter_map (led_by (c.as_slice-2.ensures.value i) (c.as_slice-3.ensures.value i) ends) (range_with_len 0 (length (c.as_slice-2.ensures.value i))))
    ∙ least_is c.args.self.now c.args.node c.in_ok-row.row.items ends c.requires.map c.in_ok-row.ensures
