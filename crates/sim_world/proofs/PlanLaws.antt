-- The plan of a scenario is within the limits, and its nodes are the scenario's.
use Rattle.std.proofs.Common.{◌≡◌, ℕ, ◌<◌, ◌≤◌, List, [], length, map, get_or, sym, ap, subst, ◌∙◌, arith}
use Rattle.std.specs.Prelude.{All}
use Rattle.std.specs.List.{filter_map, range_with_len, flat_map}
use Rattle.scenario_form.specs.declared.scenario.Scenario.{Scenario}
use Rattle.scenario_form.specs.Limits.{IsWithinLimits}
use Rattle.sim_base.specs.Packet.{Packet}
use Rattle.node_step.specs.declared.loads.Event.{Event}
use Rattle.node_step.specs.Node.{PlainNode}
use Rattle.sim_world.specs.declared.plan.Plan.{Plan}
use Rattle.sim_world.specs.declared.apps.Listed.{Listed}
use Rattle.sim_world.specs.Grouping.{grouped}
use Rattle.sim_world.specs.Ends.{IsEnd, ends_of, in_order}
use Rattle.sim_world.specs.Ends as ends
use Rattle.sim_world.specs.Lans.{lan_of, member_of}
use Rattle.sim_world.specs.Ifaces.{Around}
use Rattle.sim_world.specs.Apps.{IsListed, listed_from, installed_from}
use Rattle.sim_world.specs.Apps as apps
use Rattle.sim_world.specs.Ticks.{ticks_of}
use Rattle.sim_world.specs.World.{PlainWorld, world_of, around_in, id, new_node, ends_in, beyond_in, apps_in, node_in, ticks_in}
use Rattle.sim_world.specs.Plan.{IsPlan, IsPlanOf, planned_around, planned_node, planned_ticks}
use Rattle.sim_world.specs.Guide.{IsGuide, guided}
use Rattle.sim_world.proofs.GroupLaws.{length-grouped, get_or-grouped}
use Rattle.sim_world.proofs.GuideLaws.{counted, guided_is}
use Rattle.sim_world.proofs.EndLimits.{all_ends_grouped}
use Rattle.sim_world.proofs.AppLaws.{all_listed_grouped, few_listed}
use Rattle.sim_world.proofs.RangeLaws.{map-same, flat_map-same}

pub within : (s : Scenario) (plan : Plan) → IsWithinLimits s → IsPlanOf s plan → IsGuide plan.guide → IsPlan plan
within s plan limits is guide =
    let ends_long : length plan.ends.items ≡ s.nodes = ap length is.ends ∙ length-grouped ends.node_of s.nodes (ends_of s.links s.lans) in
    let apps_long : length plan.apps.items ≡ s.nodes = ap length is.apps ∙ length-grouped apps.node_of s.nodes (listed_from 0 s.apps) in
    let members_long : length plan.members.items ≡ length s.lans =
    ap length is.members ∙ length-grouped lan_of (length s.lans) (filter_map member_of (in_order s.nodes (ends_of s.links s.lans))) in
    record {
      apps_count = apps_long ∙ sym ends_long;
      ends = subst (λ (n : ℕ). All (All (IsEnd n)) plan.ends.items) (sym members_long)
          (subst (All (All (IsEnd (length s.lans)))) (sym is.ends) (all_ends_grouped s.nodes s.links s.lans limits.links limits.lans));
      guide = guide;
      guide_count = counted s plan.guide is.guide ∙ sym ends_long;
      apps = subst (All (All IsListed)) (sym is.apps) (all_listed_grouped s.nodes s.apps limits.apps);
      few = subst (All (λ (there : List Listed). length there ≤ 4000)) (sym is.apps) (few_listed s.nodes 4000 s.apps limits.few.apps);
    }

pub length-plan : (s : Scenario) (plan : Plan) → IsPlanOf s plan → s.nodes ≡ length plan.ends.items
length-plan s plan is = sym (ap length is.ends ∙ length-grouped ends.node_of s.nodes (ends_of s.links s.lans))

-- what stands at a node
apps_at : (s : Scenario) (plan : Plan) (n : ℕ) → IsPlanOf s plan → n < s.nodes → installed_from 0 (get_or plan.apps.items n []) ≡ apps_in s n
apps_at s plan n is lt = ap (λ groups. installed_from 0 (get_or groups n [])) is.apps ∙ ap (installed_from 0) (get_or-grouped apps.node_of s.nodes (listed_from 0 s.apps) n [] lt)

-- what lies around the nodes
same_around : (s : Scenario) (plan : Plan) → IsPlanOf s plan → planned_around s.ascii s.losses plan ≡ around_in s
same_around s plan is = λ i. record { told = s.ascii; losses = s.losses; members = is.members i }

same_node : (s : Scenario) (plan : Plan) (n : ℕ) → IsPlanOf s plan → n < s.nodes → planned_node s.ascii s.seed s.losses plan n ≡ node_in s n
same_node s plan n is lt =
    let ends_here : get_or plan.ends.items n [] ≡ ends_in s n = ap (λ groups. get_or groups n []) is.ends ∙ get_or-grouped ends.node_of s.nodes (ends_of s.links s.lans) n [] lt in
    let planned : Around = planned_around s.ascii s.losses plan in
    (λ i. new_node s.seed planned (id n) (ends_here i) (guided plan.guide n (ends_here i)) (installed_from 0 (get_or plan.apps.items n [])))
    ∙ ap (λ beyond. new_node s.seed planned (id n) (ends_in s n) beyond (installed_from 0 (get_or plan.apps.items n []))) (guided_is s plan.guide n lt is.guide)
    ∙ ap (new_node s.seed planned (id n) (ends_in s n) (beyond_in s.routing s n)) (apps_at s plan n is lt)
    ∙ ap (λ around. new_node s.seed around (id n) (ends_in s n) (beyond_in s.routing s n) (apps_in s n)) (same_around s plan is)

pub same_nodes : (s : Scenario) (plan : Plan) → IsPlanOf s plan → map (planned_node s.ascii s.seed s.losses plan) (range_with_len 0 s.nodes) ≡ map (node_in s) (range_with_len 0 s.nodes)
same_nodes s plan is = map-same (planned_node s.ascii s.seed s.losses plan) (node_in s) 0 s.nodes (λ n lt. same_node s plan n is (omega (arith, lt)))

pub same_ticks : (s : Scenario) (plan : Plan) → IsPlanOf s plan → flat_map (planned_ticks plan) (range_with_len 0 s.nodes) ≡ flat_map (ticks_in s) (range_with_len 0 s.nodes)
same_ticks s plan is = flat_map-same (planned_ticks plan) (ticks_in s) 0 s.nodes (λ n lt. ap (ticks_of (id n)) (apps_at s plan n is (omega (arith, lt))))

-- nodes, so many LANs and first events, with what a scenario says of the run
abbrev pub world : List PlainNode → ℕ → List (Event Packet) → Scenario → PlainWorld
world nodes lans first s = record { nodes = nodes; lans = lans; first = first; stop = s.stop_ns; limit = s.events_per_node }

-- the whole
pub world_is : (s : Scenario) (plan : Plan) (nodes : List PlainNode) (lans : ℕ) (first : List (Event Packet)) → IsPlanOf s plan
    → nodes ≡ map (planned_node s.ascii s.seed s.losses plan) (range_with_len 0 s.nodes) → lans ≡ length s.lans
    → first ≡ flat_map (planned_ticks plan) (range_with_len 0 s.nodes) → world nodes lans first s ≡ world_of s
unfolding world_of
world_is s plan nodes lans first is nodes_are lans_are first_are =
    (λ i. world ((nodes_are ∙ same_nodes s plan is) i) (lans_are i) ((first_are ∙ same_ticks s plan is) i) s)
