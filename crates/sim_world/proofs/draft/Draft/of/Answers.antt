use Rattle.std.proofs.Common.{[], ◌∷◌, ◌++◌, ap, sym, ◌∙◌}
use Rattle.sim_world.specs.Plan.{planned_node, planned_ticks}
use Rattle.sim_world.proofs.RangeLaws.{map-more, flat_map-more}
use Rattle.sim_world.proofs.draft.Draft.of.Goals as goal

pub loop-number-preserved : goal.loop-number-preserved
loop-number-preserved g c = record {
  nodes = c.in_ok-add_node.ensures.nodes ∙ ap (λ nodes. nodes ++ planned_node c.args.told c.args.seed c.args.losses.now c.args.plan.now c.loop-number.number ∷ []) c.loop-number.invariant.nodes
      ∙ sym (map-more (planned_node c.args.told c.args.seed c.args.losses.now c.args.plan.now) c.loop-number.number);
  first = c.in_ok-add_node.ensures.first ∙ ap (λ events. events ++ planned_ticks c.args.plan.now c.loop-number.number) c.loop-number.invariant.first
      ∙ sym (flat_map-more (planned_ticks c.args.plan.now) c.loop-number.number);
}
