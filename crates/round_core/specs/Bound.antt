-- Why a run ends: each node may schedule only so many more events.
use Rattle.std.specs.Prelude.{◌≡◌, ℕ, ◌+◌, ◌<◌, ◌≤◌, zero, suc, length}
use Rattle.round_core.specs.Laws.{Health, IsHealthy}
use Rattle.round_core.specs.Rounds.{Ending, ending_of, plain_firings}
use Rattle.round_core.specs.World.{Event, Effect, Rules, World, Does, reaction}

-- the nodes are those below a count, and each firing takes its sends from what its node may still schedule
pub record IsBounded {Node Lan Load Text : Type 0} (rules : Rules Node Lan Load Text) (ok : Health Node Lan Load)
    (count : ℕ) (room : Node → ℕ) : Type 0 where
  pub target : (e : Event Load) → ok.event e → e.key.node.0 < count
  pub spent : (w : World Node Lan Load Text) (e : Event Load) (effect : Effect Node Lan Load Text) → IsHealthy ok w →
      ok.event e → reaction rules w e ≡ Does effect → room effect.node + length effect.sends ≤ room (w.nodes e.key.node.0)

-- how many events the nodes below a count may still schedule
abbrev pub room_of : {Node : Type 0} → (Node → ℕ) → (ℕ → Node) → ℕ → ℕ
room_of room nodes zero = 0
room_of room nodes (suc n) = room_of room nodes n + room (nodes n)

-- how many firings can come at most
abbrev pub most_firings : {Node Lan Load Text : Type 0} → ℕ → (Node → ℕ) → World Node Lan Load Text → ℕ
most_firings count room w = length w.pending + room_of room w.nodes count

-- the plain run from a world, as a function: as many firings as can come at most
unfoldable pub plain_run : {Node Lan Load Text : Type 0} → Rules Node Lan Load Text → ℕ → ℕ → (Node → ℕ) →
    World Node Lan Load Text → World Node Lan Load Text
plain_run rules stop count room w = plain_firings rules stop (most_firings count room w) w

-- how it ends
abbrev pub plain_ending : {Node Lan Load Text : Type 0} → Rules Node Lan Load Text → ℕ → ℕ → (Node → ℕ) →
    World Node Lan Load Text → Ending Node Lan Load Text
plain_ending rules stop count room w = ending_of stop (plain_run rules stop count room w)
