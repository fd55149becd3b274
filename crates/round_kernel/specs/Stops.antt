-- A round in which the node of some group may schedule no more.
use Rattle.std.specs.Prelude.{ℕ, ◌≡◌, ◌≢◌, ◌⊎◌, true, List, [], fold, length, Option, Some, None, slice_get, if◌then◌else◌}
use Rattle.sim_base.specs.Packet.{Packet}
use Rattle.sim_base.specs.declared.key.Key.{Key}
use Rattle.sim_base.specs.declared.key.NodeId.{NodeId}
use Rattle.sim_base.specs.KeyOrder.{before}
use Rattle.pkt_face.specs.declared.line.Line.{Line}
use Rattle.lp_run.specs.declared.stop.LpStop.{LpStop}
use Rattle.lp_run.specs.declared.stop.LpStop.TheVariants.{NoMemory, Limit}
use Rattle.lp_run.specs.Lp.{PlainLp}
use Rattle.round_kernel.specs.Window.{Gone, HasGone}

pub record HaveGone (end : ℕ) (old : List PlainLp) (new : List Gone) : Type 0 where
  pub count : length new ≡ length old
  pub each : (g : ℕ) (lp : PlainLp) → slice_get old g ≡ Some lp → (later : Gone) × (slice_get new g ≡ Some later) × HasGone end lp later.0 later.1
  pub memory : (g : ℕ) (lp : PlainLp) → slice_get new g ≢ Some (lp, Some NoMemory)

-- the least key at which a group has stopped
pub record IsLeastStop (new : List Gone) (key : Key) (node : NodeId) : Type 0 where
  pub group : ℕ
  pub lp : PlainLp
  pub stopped : slice_get new group ≡ Some (lp, Some (Limit key node))
  pub least : (h : ℕ) (other : PlainLp) (k : Key) (n : NodeId) → slice_get new h ≡ Some (other, Some (Limit k n)) → (k ≡ key) ⊎ (before key k ≡ true)

abbrev pub gone_lines : Option Gone → List (Line Packet)
gone_lines None = []
gone_lines (Some gone) = gone.0.lines

-- a stop, and the earlier of it and the least so far
abbrev pub earlier_stop : Key × NodeId → Option (Key × NodeId) → Option (Key × NodeId)
earlier_stop stop None = Some stop
earlier_stop stop (Some least) = if before stop.0 least.0 then Some stop else Some least

abbrev pub with_stop : Option (Key × NodeId) → Option LpStop → Option (Key × NodeId)
with_stop least None = least
with_stop least (Some NoMemory) = least
with_stop least (Some (Limit key node)) = earlier_stop (key, node) least

-- the earliest stop of groups
abbrev pub least_stop : List Gone → Option (Key × NodeId)
least_stop groups = fold (λ least group. with_stop least group.1) None groups

-- what the earliest stop says of groups: none has stopped, or it is the least key at which one has
abbrev pub IsStopOf : List Gone → Option (Key × NodeId) → Type 0
IsStopOf groups None = (g : ℕ) (lp : PlainLp) (stop : LpStop) → slice_get groups g ≢ Some (lp, Some stop)
IsStopOf groups (Some stop) = IsLeastStop groups stop.0 stop.1

-- lines are cut at the stop, where there is one
abbrev pub limit_of : Option (Key × NodeId) → Option Key
limit_of None = None
limit_of (Some stop) = Some stop.0
