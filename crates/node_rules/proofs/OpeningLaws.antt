-- Nodes that are well by what they have together open a world.
use Rattle.std.proofs.Common.{◌≡◌, ℕ, ◌<◌, List, [], ◌∷◌, length, map, Option, None, Some, slice_get, refl, sym, ap}
use Rattle.std.specs.List.{AllByRecursion}
use Rattle.std.specs.Prelude.{◌≢◌}
use Rattle.sim_base.specs.Packet.{Packet}
use Rattle.std.proofs.lemmas.List.Elements.{All-nil}
use Rattle.tcp_flow.specs.declared.conn.Conn.{Conn}
use Rattle.round_core.specs.Laws.{IsSound}
use Rattle.round_core.specs.Opening.{HaveOwnKeys, IsOpening}
use Rattle.round_core.specs.World.{Event}
use Rattle.round_core.proofs.OpeningLaws.{opening-sound}
use Rattle.node_step.specs.declared.loads.Event.{Event as NodeEvent}
use Rattle.node_step.specs.declared.loads.Load.{Load}
use Rattle.node_step.specs.Firing.{free}
use Rattle.node_step.specs.Node.{PlainNode}
use Rattle.node_rules.specs.Health.{IsWellEvent, IsWellNode, health}
use Rattle.node_rules.specs.Rules.{rules}
use Rattle.node_rules.specs.Shape.{wire_of}
use Rattle.node_rules.specs.Worlds.{AreFirstEvents, AreWellNodes, event_of, node_at, node_or, opening_world, shape_of}

nothing-there : {A : Type 0} {P : Type 0} (i : ℕ) (x : A) → slice_get [] i ≡ Some x → P
nothing-there i x h = absurd (let d : None ≡ Some x = h in cc)

node-well : (count : ℕ) (nodes : List PlainNode) → AreWellNodes count nodes → (n : ℕ) (o : Option PlainNode) → slice_get nodes n ≡ o →
    IsWellNode (shape_of count nodes) n (node_or n o)
node-well count nodes well n None is = record {
  number = refl;
  ifaces = ap (λ (o : Option PlainNode). length (map (λ face. wire_of face.at) (node_or n o).ifaces)) (sym is);
  apps = ap (λ (o : Option PlainNode). length (node_or n o).apps) (sym is);
  each_iface = λ i wire face here at. nothing-there i face at;
  each_app = λ i a at. nothing-there i a at;
  waits = All-nil (λ (k : Conn). 0 < k.connection.round_trip.rto);
}
node-well count nodes well n (Some node) is = well n node is

pub all-over : {A B : Type 0} (P : B → Type 0) (f : A → B) (xs : List A) → AllByRecursion (λ x. P (f x)) xs → AllByRecursion P (map f xs)
all-over P f [] h = tt
all-over P f (x ∷ xs) h = (h.0, all-over P f xs h.1)

own-keys : (events : List (NodeEvent Packet)) → HaveOwnKeys (λ e. e.key) events → HaveOwnKeys (λ (e : Event (Load Packet)). e.key) (map event_of events)
own-keys [] h = tt
own-keys (e ∷ events) h = (all-over (λ (y : Event (Load Packet)). e.key ≢ y.key) event_of events h.0, own-keys events h.1)

module _ (limit count : ℕ) (nodes : List PlainNode) (events : List (NodeEvent Packet)) (first : AreFirstEvents count nodes events)
    (well : AreWellNodes count nodes) where
  pub opens : IsOpening (rules limit (shape_of count nodes)) (health (shape_of count nodes)) (node_at nodes) (λ lan. free) (map event_of events)
  opens = record {
    nodes_ok = λ n. node-well count nodes well n (slice_get nodes n) refl;
    lans_ok = λ l. tt;
    events_ok = all-over (IsWellEvent (shape_of count nodes)) event_of events first.well;
    own_keys = own-keys events first.own_keys;
    counted = all-over (λ (e : Event (Load Packet)). e.key.count < (node_at nodes e.key.by.0).scheduled) event_of events first.counted;
  }

  pub opening-well : IsSound (rules limit (shape_of count nodes)) (health (shape_of count nodes)) (opening_world nodes events)
  opening-well = opening-sound (rules limit (shape_of count nodes)) (health (shape_of count nodes)) (node_at nodes) (λ lan. free) (map event_of events) opens
