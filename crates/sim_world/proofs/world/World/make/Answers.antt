use Rattle.std.proofs.Common.{◌≡◌, length, map, replicate, ap, sym, subst, ◌∙◌}
use Rattle.std.specs.Prelude.{All}
use Rattle.std.specs.List.{range_with_len}
use Rattle.std.proofs.lemmas.List.{length-replicate}
use Rattle.std.proofs.lemmas.List.FromFn.{length-map-range_with_len}
use Rattle.node_step.specs.Firing.{free}
use Rattle.node_step.specs.Loads.{plain_event}
use Rattle.sim_world.specs.Losses.{IsLoss}
use Rattle.sim_world.specs.Opening.{OpensRuns}
use Rattle.sim_world.specs.Plan.{planned_node}
use Rattle.sim_world.proofs.LossLaws.{all_losses}
use Rattle.sim_world.proofs.PlanLaws.{length-plan, world_is}
use Rattle.sim_world.proofs.WorldLaws.{opens_runs}
use Rattle.sim_world.proofs.world.World.make.Goals as goal

pub of-requires-2-clause-nodes : goal.of-requires-2-clause-nodes
of-requires-2-clause-nodes g c κs within = length-plan c.args.scenario.now c.in_ok-plan.plan c.in_ok-plan.ensures.plan

pub of-requires-2-clause-losses : goal.of-requires-2-clause-losses
of-requires-2-clause-losses g c κs within =
    subst (All IsLoss) (sym c.as_slice-losses.ensures) (all_losses c.args.scenario.now.nodes c.args.scenario.now.losses c.requires.limits.losses)

pub invariant_of-result : goal.invariant_of-result
invariant_of-result g c = (
  c.in_ok-places.ensures
      ∙ ap (range_with_len 0) (sym (ap length c.in_ok-draft.ensures.nodes ∙ length-map-range_with_len (planned_node c.args.scenario.now.ascii c.args.scenario.now.seed c.as_slice-losses.result.now c.in_ok-plan.plan) 0 c.args.scenario.now.nodes)),
  c.in_ok-lans.ensures ∙ ap (λ n. replicate n free) (sym (ap length c.in_ok-lans.ensures ∙ length-replicate c.len.result free)),
  c.requires.limits.events_per_node.to,
)

pub returns : goal.returns
returns g c =
    let s = c.args.scenario.now in
    let count : length c.in_ok-lans.lans.items ≡ length s.lans = ap length c.in_ok-lans.ensures ∙ length-replicate c.len.result free ∙ c.len.ensures in
    let nodes : c.in_ok-draft.draft.nodes.items ≡ map (planned_node s.ascii s.seed s.losses c.in_ok-plan.plan) (range_with_len 0 s.nodes) =
    c.in_ok-draft.ensures.nodes ∙ ap (λ losses. map (planned_node s.ascii s.seed losses c.in_ok-plan.plan) (range_with_len 0 s.nodes)) c.as_slice-losses.ensures in
    let is = world_is s c.in_ok-plan.plan c.in_ok-draft.draft.nodes.items (length c.in_ok-lans.lans.items) (map (plain_event g.P.Pkt.plain) c.in_ok-draft.draft.first.items)
    c.in_ok-plan.ensures.plan nodes count c.in_ok-draft.ensures.first in
    record { world = is; opens = subst OpensRuns (sym is) (opens_runs s c.requires.limits) }
