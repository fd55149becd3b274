-- Handing over: each group gets what the others have scheduled for it.
use Rattle.std.specs.Prelude.{ℕ, ◌≡◌, ◌≢◌, List, filter, length, Some, slice_get}
use Rattle.sim_base.specs.Packet.{Packet}
use Rattle.sim_base.specs.KeyOrder.{insert_by}
use Rattle.round_core.specs.Opening.{HaveOwnKeys}
use Rattle.round_core.specs.Order.{insert_each}
use Rattle.round_core.specs.Parts.{IsIn, is_for}
use Rattle.round_core.specs.World.{Event}
use Rattle.node_step.specs.declared.loads.Load.{Load}
use Rattle.lp_run.specs.Lp.{PlainLp}
use Rattle.round_kernel.specs.Window.{Gone}

-- events that groups can get: each is for a node of one of them, and has a key that no other of them has, nor any that is
-- pending there
pub record CanGet (group_of : ℕ → ℕ) (groups : List PlainLp) (events : List (Event (Load Packet))) : Type 0 where
  pub own : HaveOwnKeys (λ e. e.key) events
  pub new : (e x : Event (Load Packet)) (lp : PlainLp) → IsIn e events → slice_get groups (group_of e.key.node.0) ≡ Some lp →
      IsIn x lp.pending → e.key ≢ x.key

-- a group that has got those of some events that are for it
abbrev pub with_events : (ℕ → ℕ) → ℕ → List (Event (Load Packet)) → PlainLp → PlainLp
with_events group_of g events lp = record lp { pending = insert_each (λ e. e.key) (filter (is_for group_of g) events) lp.pending }

-- a group that has got one more event
abbrev pub got_one : Event (Load Packet) → Gone → Gone
got_one e was = (record was.0 { pending = insert_by (λ x. x.key) e was.0.pending }, was.1)

-- each group has got what is for it
pub record HaveGot (group_of : ℕ → ℕ) (events : List (Event (Load Packet))) (old new : List PlainLp) : Type 0 where
  pub count : length new ≡ length old
  pub each : (g : ℕ) (lp : PlainLp) → slice_get new g ≡ Some lp →
      (before : PlainLp) × (slice_get old g ≡ Some before) × (lp ≡ with_events group_of g events before)
