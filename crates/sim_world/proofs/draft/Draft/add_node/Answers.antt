use Rattle.std.proofs.Common.{◌≡◌, ◌∷◌, ◌++◌, [], List, get_or, length, ap, sym, arith, subst, ◌∙◌}
use Rattle.std.specs.Prelude.{All}
use Rattle.std.proofs.lemmas.List.{get_or_default}
use Rattle.std.proofs.lemmas.List.Elements.{All-weaker}
use Rattle.layer_words.specs.Acts.{Appends}
use Rattle.node_step.specs.Loads.{plain_event}
use Rattle.sim_world.specs.declared.ends.End.{End}
use Rattle.sim_world.specs.declared.routing.Entry.{Entry}
use Rattle.sim_world.specs.Apps.{installed_from}
use Rattle.sim_world.specs.Ends.{IsEnd}
use Rattle.sim_world.specs.Guide.{guided}
use Rattle.sim_world.specs.Networks.{IsNetwork}
use Rattle.sim_world.specs.Plan.{planned_around}
use Rattle.sim_world.specs.Ticks.{ticks_of}
use Rattle.sim_world.specs.World.{id, new_node}
use Rattle.sim_world.proofs.draft.Draft.add_node.Goals as goal

pub routes_of-requires-clause-node : goal.routes_of-requires-clause-node
routes_of-requires-clause-node g c = omega (arith, c.requires.there, c.requires.plan.guide_count)

pub routes_of-requires-clause-ends : goal.routes_of-requires-clause-ends
routes_of-requires-clause-ends g c =
    subst (All (λ (e : End). IsNetwork e.network)) (sym (c.as_slice-ends.ensures ∙ c.index.ensures))
    (All-weaker (IsEnd (length c.args.plan.now.members.items)) (λ (e : End). IsNetwork e.network) (λ e is. is.network)
    (get_or c.args.plan.now.ends.items c.args.number c.index.result.now) (c.requires.plan.ends c.args.number c.index.result.now c.requires.there))

pub returns-clause-nodes : goal.returns-clause-nodes
returns-clause-nodes g c =
    let plan = c.args.plan.now in
    let n = c.args.number in
    let there = c.requires.there in
    let is = c.requires.plan in
    let ends : c.as_slice-ends.result.now ≡ get_or plan.ends.items n [] = c.as_slice-ends.ensures ∙ c.index.ensures ∙ get_or_default plan.ends.items n c.index.result.now [] there in
    let beyond : c.as_slice-2.result.now ≡ guided plan.guide n (get_or plan.ends.items n []) = c.as_slice-2.ensures.value ∙ c.in_ok-beyond.ensures.routes ∙ ap (guided plan.guide n) ends in
    let listed = c.as_slice.ensures ∙ c.index-2.ensures ∙ get_or_default plan.apps.items n c.index-2.result.now [] (omega (arith, there, is.apps_count)) in
    c.in_ok-push.ensures.items
    ∙ ap (λ node. c.args.self.now.nodes.items ++ node ∷ [])
    (c.in_ok-node.ensures
    ∙ (λ i. new_node c.args.seed (planned_around c.args.told c.args.losses.now plan) (id n) (ends i) (beyond i) ((c.as_slice-3.ensures.value ∙ c.in_ok-apps.ensures.apps ∙ ap (installed_from 0) listed) i)))

pub returns-clause-first : goal.returns-clause-first
returns-clause-first g c =
    let plan = c.args.plan.now in
    let n = c.args.number in
    let there = c.requires.there in
    let is = c.requires.plan in
    let listed = c.as_slice.ensures ∙ c.index-2.ensures ∙ get_or_default plan.apps.items n c.index-2.result.now [] (omega (arith, there, is.apps_count)) in
    subst (Appends (plain_event g.P.Pkt.plain) c.args.self.now.first.items c.schedule_ticks.new.first.items)
    (ap (ticks_of (id n)) (c.as_slice-4.ensures.value ∙ c.in_ok-apps.ensures.apps ∙ ap (installed_from 0) listed))
    c.in_ok-schedule_ticks.ensures
