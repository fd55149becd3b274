-- The world before a run.
use Rattle.std.specs.List.{AllByRecursion}
use Rattle.std.specs.Prelude.{◌≢◌, ℕ, ◌<◌, List, [], ◌∷◌}
use Rattle.sim_base.specs.declared.key.Key.{Key}
use Rattle.round_core.specs.Laws.{Health}
use Rattle.round_core.specs.Order.{in_key_order}
use Rattle.round_core.specs.World.{Event, Rules, World}

-- the world of these nodes and LANs, in which these events are the first to come, in the order of their keys
unfoldable pub opening : {Node Lan Load Text : Type 0} → (ℕ → Node) → (ℕ → Lan) → List (Event Load) → World Node Lan Load Text
opening nodes lans events = record { nodes = nodes; lans = lans; pending = in_key_order (λ e. e.key) events; fired = [] }

-- no two items of a list have the same key
abbrev pub HaveOwnKeys : {A : Type 0} → (A → Key) → List A → Type 0
HaveOwnKeys key_of [] = Unit {0}
HaveOwnKeys key_of (x ∷ xs) = AllByRecursion (λ y. key_of x ≢ key_of y) xs × HaveOwnKeys key_of xs

-- nodes, LANs and first events that are all well, where each event has a key of its own and is counted by the node
-- that scheduled it
pub record IsOpening {Node Lan Load Text : Type 0} (rules : Rules Node Lan Load Text) (ok : Health Node Lan Load)
    (nodes : ℕ → Node) (lans : ℕ → Lan) (events : List (Event Load)) : Type 0 where
  pub nodes_ok : (n : ℕ) → ok.node n (nodes n)
  pub lans_ok : (l : ℕ) → ok.lan l (lans l)
  pub events_ok : AllByRecursion ok.event events
  pub own_keys : HaveOwnKeys (λ e. e.key) events
  pub counted : AllByRecursion (λ e. e.key.count < rules.counter (nodes e.key.by.0)) events
