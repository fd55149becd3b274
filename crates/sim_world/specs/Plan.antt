-- What a scenario says of each node.
use Rattle.std.specs.Prelude.{ℕ, ◌≡◌, ◌≤◌, Bool, List, [], length, All, slice_index_or}
use Rattle.sim_base.specs.Packet.{Packet}
use Rattle.scenario_form.specs.declared.scenario.Loss.{Loss}
use Rattle.scenario_form.specs.declared.scenario.Scenario.{Scenario}
use Rattle.node_step.specs.declared.loads.Event.{Event}
use Rattle.node_step.specs.Node.{PlainNode}
use Rattle.sim_world.specs.declared.plan.Plan.{Plan}
use Rattle.sim_world.specs.Grouping.{grouped}
use Rattle.sim_world.specs.Ends.{IsEnd, ends_of, in_order}
use Rattle.sim_world.specs.Ends as ends
use Rattle.sim_world.specs.Lans.{members_of}
use Rattle.sim_world.specs.Ifaces.{Around}
use Rattle.sim_world.specs.Guide.{IsGuide, IsGuideOf, guided, node_count}
use Rattle.sim_world.specs.Apps.{IsListed, listed_from, installed_from}
use Rattle.sim_world.specs.Apps as apps
use Rattle.sim_world.specs.Ticks.{ticks_of}
use Rattle.sim_world.specs.World.{id, new_node}

-- the ends and the applications of a scenario, by node; the members of its LANs; and how routes are found
pub record IsPlanOf (s : Scenario) (plan : Plan) : Type 0 where
  pub ends : plan.ends.items ≡ grouped ends.node_of s.nodes (ends_of s.links s.lans)
  pub apps : plan.apps.items ≡ grouped apps.node_of s.nodes (listed_from 0 s.apps)
  pub members : plan.members.items ≡ members_of (length s.lans) (in_order s.nodes (ends_of s.links s.lans))
  pub guide : IsGuideOf s plan.guide

-- a plan for so many nodes, with numbers within the limits
pub record IsPlan (plan : Plan) : Type 0 where
  pub apps_count : length plan.apps.items ≡ length plan.ends.items
  pub ends : All (All (IsEnd (length plan.members.items))) plan.ends.items
  pub guide : IsGuide plan.guide
  pub guide_count : node_count plan.guide ≡ length plan.ends.items
  pub apps : All (All IsListed) plan.apps.items
  pub few : All (λ listed. length listed ≤ 4000) plan.apps.items

-- what lies around the nodes of a plan
abbrev pub planned_around : Bool → List Loss → Plan → Around
planned_around told losses plan = record { told = told; losses = losses; members = plan.members.items }

-- a node of a plan, and its first ticks
abbrev pub planned_node : Bool → ℕ → List Loss → Plan → ℕ → PlainNode
planned_node told seed losses plan n =
    new_node seed (planned_around told losses plan) (id n) (slice_index_or plan.ends.items n []) (guided plan.guide n (slice_index_or plan.ends.items n [])) (installed_from 0 (slice_index_or plan.apps.items n []))

abbrev pub planned_ticks : Plan → ℕ → List (Event Packet)
planned_ticks plan n = ticks_of (id n) (installed_from 0 (slice_index_or plan.apps.items n []))
