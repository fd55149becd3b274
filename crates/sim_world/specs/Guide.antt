-- How the routes of nodes beyond their networks are found.
use Rattle.std.specs.Prelude.{ℕ, ◌≡◌, ◌≤◌, List, [], length, All, Option, slice_get, slice_index_or}
use Rattle.std.specs.List.{filter_map, range_with_len}
use Rattle.std.specs.Ordering.{nat_cmp}
use Rattle.std.specs.BTreeMap.{get}
use Rattle.route_calc.specs.declared.graph.Reach.{Reach}
use Rattle.route_calc.specs.declared.graph.Reach.TheVariants.{Unreachable}
use Rattle.route_calc.specs.Least.{answer, nets_of}
use Rattle.route_calc.specs.Walks.{HasItsNodes}
use Rattle.route_calc.specs.Places.{ArePlaces}
use Rattle.scenario_form.specs.declared.scenario.Scenario.{Scenario}
use Rattle.scenario_form.specs.declared.scenario.Routing.TheVariants.{Static, Auto}
use Rattle.sim_world.specs.declared.ends.End.{End}
use Rattle.sim_world.specs.declared.guide.Guide.{Guide}
use Rattle.sim_world.specs.declared.guide.Guide.TheVariants.{Listed, Least}
use Rattle.sim_world.specs.declared.guide.Map.{Map}
use Rattle.sim_world.specs.declared.routing.Entry.{Entry}
use Rattle.sim_world.specs.Grouping.{grouped}
use Rattle.sim_world.specs.Graph.{led, least_routes}
use Rattle.sim_world.specs.Networks.{IsNetwork}
use Rattle.sim_world.specs.Routing.{holder_of, listed_routes, node_of}
use Rattle.sim_world.specs.World.{all_ends, nets_in, on_in}

-- the route of a node with these interfaces to the network of a number, as its row says how it reaches the networks
abbrev pub led_by : List Reach → List (List End) → List End → ℕ → Option Entry
led_by row on ends t = led ends (answer (slice_index_or row t Unreachable)) (slice_get (slice_index_or on t []) 0)

-- the routes that a guide gives to a node with these interfaces
abbrev pub guided : Guide → ℕ → List End → List Entry
guided (Listed routes holders) n ends = listed_routes (get nat_cmp holders) ends (slice_index_or routes.items n [])
guided (Least map) n ends = least_routes (nets_of map.graph) map.on.items map.graph.nodes n ends

-- how many nodes a guide knows
abbrev pub node_count : Guide → ℕ
node_count (Listed routes holders) = length routes.items
node_count (Least map) = map.graph.nodes

-- a map of networks that cost something, with the interfaces on each
pub record IsMap (map : Map) : Type 0 where
  pub its_nodes : HasItsNodes map.graph
  pub some : All (λ n. 1 ≤ n.cost) map.graph.nets.items
  pub places : ArePlaces map.graph map.places.items
  pub count : length map.on.items ≡ length map.graph.nets.items
  pub networks : All (All (λ e. IsNetwork e.network)) map.on.items

-- a guide whose prefixes are within the limits
abbrev pub IsGuide : Guide → Type 0
IsGuide (Listed routes holders) = All (All (λ r. r.prefix ≤ 30)) routes.items
IsGuide (Least map) = IsMap map

-- it lists the routes of a scenario, or maps its networks
pub record IsMapOf (s : Scenario) (map : Map) : Type 0 where
  pub nodes : map.graph.nodes ≡ s.nodes
  pub nets : nets_of map.graph ≡ nets_in s
  pub on : map.on.items ≡ on_in s

abbrev pub IsGuideOf : Scenario → Guide → Type 0
IsGuideOf s (Listed routes holders) =
    (s.routing ≡ Static) × (routes.items ≡ grouped node_of s.nodes s.routes) × ((addr : ℕ) → get nat_cmp holders addr ≡ holder_of (all_ends s) addr)
IsGuideOf s (Least map) = (s.routing ≡ Auto) × IsMapOf s map
