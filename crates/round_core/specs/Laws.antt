-- What must hold of a simulation's rules, and of a cut into groups.
use Rattle.std.specs.List.{AllByRecursion}
use Rattle.std.specs.Prelude.{◌≡◌, ℕ, ◌+◌, ◌<◌, ◌≤◌, true, length, ◌⊎◌}
use Rattle.sim_base.specs.KeyOrder.{IsRising}
use Rattle.round_core.specs.World.{Event, Effect, Rules, World, Does, reaction, scheduled}

-- what a simulation keeps true of each node, each LAN and each event
pub record Health (Node Lan Load : Type 0) : Type 1 where
  pub node : ℕ → Node → Type 0
  pub lan : ℕ → Lan → Type 0
  pub event : Event Load → Type 0

-- a world whose nodes, LANs and pending events are all well
pub record IsHealthy {Node Lan Load Text : Type 0} (ok : Health Node Lan Load) (w : World Node Lan Load Text) : Type 0 where
  pub nodes : (n : ℕ) → ok.node n (w.nodes n)
  pub lans : (l : ℕ) → ok.lan l (w.lans l)
  pub pending : AllByRecursion ok.event w.pending

-- a healthy world whose pending events stand in the order of their keys, each key once, and each counted by the
-- node that scheduled it
pub record IsSound {Node Lan Load Text : Type 0} (rules : Rules Node Lan Load Text) (ok : Health Node Lan Load)
    (w : World Node Lan Load Text) : Type 0 where
  pub health : IsHealthy ok w
  pub rising : IsRising (λ e. e.key) w.pending
  pub counted : AllByRecursion (λ e. e.key.count < rules.counter (w.nodes e.key.by.0)) w.pending

-- what a firing owes: each event that it schedules is at least 1 ns later, all are counted, and what was well
-- stays so
pub record IsOwed {Node Lan Load Text : Type 0} (rules : Rules Node Lan Load Text) (ok : Health Node Lan Load)
    (e : Event Load) (node : Node) (effect : Effect Node Lan Load Text) : Type 0 where
  pub later : AllByRecursion (λ s. e.key.time.0 < s.at) effect.sends
  pub counted : rules.counter effect.node ≡ rules.counter node + length effect.sends
  pub node_ok : ok.node e.key.node.0 effect.node
  pub lans_ok : (l : ℕ) → rules.sits e.key.node.0 l ≡ true → ok.lan l (effect.lans l)
  pub events_ok : AllByRecursion ok.event (scheduled e.key (rules.counter node) effect.sends)

pub record IsLawful {Node Lan Load Text : Type 0} (rules : Rules Node Lan Load Text) (ok : Health Node Lan Load) : Type 0 where
  pub owed : (w : World Node Lan Load Text) (e : Event Load) (effect : Effect Node Lan Load Text) →
      IsHealthy ok w → ok.event e → reaction rules w e ≡ Does effect → IsOwed rules ok e (w.nodes e.key.node.0) effect

-- each LAN lies within one group
abbrev pub KeepsLans : {Node Lan Load Text : Type 0} → Rules Node Lan Load Text → (ℕ → ℕ) → Type 0
KeepsLans rules group_of =
    (n m l : ℕ) → rules.sits n l ≡ true → rules.sits m l ≡ true → group_of n ≡ group_of m

-- what a firing in a window schedules for another group is at or above the window's end
abbrev pub IsClosed : {Node Lan Load Text : Type 0} → Rules Node Lan Load Text → Health Node Lan Load → (ℕ → ℕ) → ℕ → ℕ → Type 0
IsClosed {Node} {Lan} {Load} {Text} rules ok group_of from end =
    (w : World Node Lan Load Text) (e : Event Load) (effect : Effect Node Lan Load Text) →
    IsHealthy ok w → ok.event e → from ≤ e.key.time.0 → e.key.time.0 < end → reaction rules w e ≡ Does effect →
    AllByRecursion (λ s. (group_of s.to ≡ group_of e.key.node.0) ⊎ (end ≤ s.at)) effect.sends

-- a sound world with nothing pending below a time
pub record BeginsAt {Node Lan Load Text : Type 0} (rules : Rules Node Lan Load Text) (ok : Health Node Lan Load) (from : ℕ)
    (w : World Node Lan Load Text) : Type 0 where
  pub sound : IsSound rules ok w
  pub above : AllByRecursion (λ e. from ≤ e.key.time.0) w.pending
