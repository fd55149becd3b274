-- The walk over a document's tables, and the scenario that they say.
use Rattle.std.specs.Prelude.{ℕ, ◌+◌, List, [], ◌∷◌, map, Option, option_map, Result, Ok, codes}
use Rattle.std.specs.List.{filter_map}
use Rattle.toml.specs.Data.{Data, Members, as_array}
use Rattle.sim_base.specs.declared.key.NodeId.{NodeId}
use Rattle.scenario_form.specs.declared.field.Fault.{Fault}
use Rattle.scenario_form.specs.declared.scenario.Routing.{Routing}
use Rattle.scenario_form.specs.declared.scenario.Scenario.{Scenario}
use Rattle.scenario_form.specs.declared.refusal.Place.{Place}
use Rattle.scenario_form.specs.declared.refusal.Refusal.{Refusal}
use Rattle.scenario_form.specs.declared.refusal.Refusal.TheVariants.{Schema}
use Rattle.scenario_form.specs.Checks.{Check, ◌>>◌, refuse_as}
use Rattle.scenario_form.specs.Forms.{values_in}
use Rattle.scenario_form.specs.Rows.{top_rows, table_check}
use Rattle.scenario_form.specs.Values.{node_of, nodes_in, time_of, number_or, text_or, flag_or_false, list_at, tables_at}
use Rattle.scenario_form.specs.Tables.{routing_of, link_of, link_check, lan_of, lan_check, route_of, route_check, app_of, app_check, loss_of, loss_check}

-- the number of nodes, which node numbers have to be below
abbrev pub nodes_of : Members → ℕ
nodes_of t = (node_of (number_or 0 (codes "nodes") t)).0

abbrev pub routing_at : Members → Routing
routing_at t = routing_of (text_or (codes "static") (codes "routing") t)

abbrev pub group_of : Data → Option (List NodeId)
group_of d = option_map (λ ds. nodes_in (values_in ds)) (as_array d)

abbrev pub groups_of : List Data → List (List NodeId)
groups_of ds = filter_map group_of ds

-- what the tables say, with defaults filled in
abbrev pub scenario_in : Members → Scenario
scenario_in t = record {
  format = number_or 0 (codes "format") t;
  nodes = nodes_of t;
  stop_ns = time_of (number_or 0 (codes "stop_ns") t);
  seed = number_or 1 (codes "seed") t;
  events_per_node = number_or 1000000 (codes "events_per_node") t;
  routing = routing_at t;
  ascii = flag_or_false (codes "ascii") t;
  groups = option_map groups_of (list_at (codes "groups") t);
  links = map link_of (tables_at (codes "link") t);
  lans = map lan_of (tables_at (codes "lan") t);
  routes = map route_of (tables_at (codes "route") t);
  apps = map app_of (tables_at (codes "app") t);
  losses = map loss_of (tables_at (codes "loss") t);
}

-- ---- the walk over the tables

abbrev pub place : ℕ → ℕ → ℕ → Place
place section index field = record { section = section; index = index; field = field }

-- the refusal of a fault in a table
abbrev pub refusal : ℕ → ℕ → Fault → Refusal
refusal section index f = Schema (place section index f.field) f.code

-- the tables of a section, each by index
abbrev pub section_check : ℕ → ℕ → (Members → Check Fault) → List Members → Check Refusal
section_check section index check [] = Ok tt
section_check section index check (t ∷ more) =
    refuse_as (refusal section index) (check t) >> section_check section (index + 1) check more

-- the top table
abbrev pub top_check : Members → Check Fault
top_check t = table_check (nodes_of t) top_rows t

-- the top table, and then each section's tables
abbrev pub walk_check : Members → Check Refusal
walk_check t =
    refuse_as (refusal 0 0) (top_check t)
    >> (section_check 1 0 (link_check (nodes_of t)) (tables_at (codes "link") t)
    >> (section_check 2 0 (lan_check (nodes_of t)) (tables_at (codes "lan") t)
    >> (section_check 3 0 (route_check (nodes_of t) (routing_at t)) (tables_at (codes "route") t)
    >> (section_check 4 0 (app_check (nodes_of t)) (tables_at (codes "app") t)
    >> section_check 5 0 (loss_check (nodes_of t)) (tables_at (codes "loss") t)))))

-- the scenario before the checks over all tables
abbrev pub walk_reading : Members → Result Scenario Refusal
walk_reading t = walk_check t >> Ok (scenario_in t)
