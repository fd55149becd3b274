-- A world in parts, one for each group of a cut.
use Rattle.std.specs.Prelude.{ℕ, ◌≡◌, ◌≢◌, ◌+◌, ◌<◌, ◌≤◌, ◌⊎◌, ◌==◌, Bool, List, [], ◌∷◌, ◌++◌, Vec, length, map, filter, replicate, Some, slice_get, slice_index, slice_index_or, slice_set}
use Rattle.std.specs.Global.{Global}
use Rattle.sim_base.specs.Packet.{Packet}
use Rattle.csma_dev.specs.declared.bus.Bus.{Bus}
use Rattle.node_step.specs.declared.loads.Event.{Event}
use Rattle.node_step.specs.Firing.{free}
use Rattle.node_step.specs.Loads.{plain_event}
use Rattle.node_step.specs.Node.{PlainNode}
use Rattle.node_step.specs.Part.{PlainPart}
use Rattle.sim_world.specs.World.{PlainWorld}

-- a group's share of a world: where each of all nodes stands among its own, its nodes and its first events
pub record PlainShare : Type 0 where
  pub places : List ℕ
  pub nodes : List PlainNode
  pub first : List (Event Packet)

-- a share with no node, where there are so many
abbrev pub empty_share : ℕ → PlainShare
empty_share nodes = record { places = replicate nodes nodes; nodes = []; first = [] }

-- with one more node, or event
abbrev pub with_node : ℕ → PlainNode → PlainShare → PlainShare
with_node number node s = record { places = slice_set s.places number (length s.nodes); nodes = s.nodes ++ node ∷ []; first = s.first }

abbrev pub with_event : Event Packet → PlainShare → PlainShare
with_event e s = record { places = s.places; nodes = s.nodes; first = s.first ++ e ∷ [] }

-- the shares where that of a group has changed
abbrev pub changed : (PlainShare → PlainShare) → ℕ → List PlainShare → List PlainShare
changed change group shares = slice_set shares group (change (slice_index_or shares group (empty_share 0)))

-- whether an event is for a node of a group
abbrev pub is_of : List ℕ → ℕ → Event Packet → Bool
is_of group_of group e = slice_index group_of e.key.node.0 == group

-- The nodes of a group from a number on stand in its share, each at its place, and no two at one; any other node has a place
-- beyond them
pub record IsPlaced (group_of : List ℕ) (nodes : List PlainNode) (from group : ℕ) (places : List ℕ) (own : List PlainNode) : Type 0 where
  pub count : length places ≡ length nodes
  pub few : length own + from ≤ length nodes
  pub known : (n : ℕ) → from ≤ n → n < length nodes → slice_index group_of n ≡ group →
      (slice_index places n < length own) × (slice_get own (slice_index places n) ≡ slice_get nodes n)
  pub elsewhere : (n : ℕ) → n < length nodes → ((n < from) ⊎ (slice_index group_of n ≢ group)) → slice_index places n ≡ length nodes
  pub apart : (n m : ℕ) → from ≤ n → n < length nodes → from ≤ m → m < length nodes → slice_index group_of n ≡ group →
      slice_index group_of m ≡ group → slice_index places n ≡ slice_index places m → n ≡ m

-- the shares have the nodes from a number on
pub record HaveNodes (group_of : List ℕ) (nodes : List PlainNode) (from : ℕ) (old new : List PlainShare) : Type 0 where
  pub count : length new ≡ length old
  pub each : (g : ℕ) (s : PlainShare) → slice_get new g ≡ Some s → IsPlaced group_of nodes from g s.places s.nodes × (s.first ≡ [])

-- the shares have the same nodes, and all events but those that are left
pub record KeepNodes (group_of : List ℕ) (events left : List (Event Packet)) (old new : List PlainShare) : Type 0 where
  pub count : length new ≡ length old
  pub each : (g : ℕ) (s : PlainShare) → slice_get new g ≡ Some s → (from : PlainShare) × (slice_get old g ≡ Some from)
      × (s.places ≡ from.places) × (s.nodes ≡ from.nodes) × (s.first ++ filter (is_of group_of g) left ≡ filter (is_of group_of g) events)

-- a part and its first events, seen with plain packets
abbrev pub part_seen : {P : Type 0} → (P → Packet) → PlainPart × Vec (Event P) Global → PlainPart × List (Event Packet)
part_seen plain made = (made.0, map (plain_event plain) made.1.items)

-- a share as a part with these buses, and its first events
abbrev pub as_part : List Bus → ℕ → PlainShare → PlainPart × List (Event Packet)
as_part lans limit s = (record { places = s.places; nodes = s.nodes; lans = lans; limit = limit }, s.first)

-- a part has the nodes of a group, each at its place, all buses, and the first events for its nodes
pub record IsPartOf (w : PlainWorld) (group_of : List ℕ) (group : ℕ) (made : PlainPart × List (Event Packet)) : Type 0 where
  pub placed : IsPlaced group_of w.nodes 0 group made.0.places made.0.nodes
  pub lans : made.0.lans ≡ replicate w.lans free
  pub limit : made.0.limit ≡ w.limit
  pub first : made.1 ≡ filter (is_of group_of group) w.first

-- the parts of a world, one for each of so many groups
pub record AreSplit (w : PlainWorld) (group_of : List ℕ) (groups : ℕ) (parts : List (PlainPart × List (Event Packet))) : Type 0 where
  pub count : length parts ≡ groups
  pub each : (g : ℕ) (made : PlainPart × List (Event Packet)) → slice_get parts g ≡ Some made → IsPartOf w group_of g made
