-- What groups leave when they have run: their lines, and what they have scheduled for one another.
use Rattle.std.specs.Prelude.{ℕ, ◌≡◌, List, [], ◌∷◌, map, Vec}
use Rattle.std.specs.Global.{Global}
use Rattle.std.specs.List.{flat_map}
use Rattle.sim_base.specs.Packet.{Packet}
use Rattle.sim_base.specs.declared.key.Key.{Key}
use Rattle.sim_base.specs.declared.key.NodeId.{NodeId}
use Rattle.pkt_face.specs.declared.line.Line.{Line}
use Rattle.pkt_face.specs.Seen.{plain_line}
use Rattle.round_core.specs.World.{Event}
use Rattle.node_step.specs.declared.loads.Event.{Event as NodeEvent}
use Rattle.node_step.specs.declared.loads.Load.{Load}
use Rattle.node_step.specs.Loads.{plain_event}
use Rattle.node_rules.specs.Worlds.{event_of}
use Rattle.lp_run.specs.Lp.{PlainLp}
use Rattle.trace_merge.specs.Merge.{IsMerged}
use Rattle.std.specs.Prelude.{Option}
use Rattle.round_kernel.specs.Stops.{HaveGone, IsStopOf, limit_of}
use Rattle.round_kernel.specs.Window.{Gone}

-- a group from which lines and events for others were taken
abbrev pub emptied : PlainLp → PlainLp
emptied lp = record lp { lines = []; sends = [] }

abbrev pub emptied_group : Gone → Gone
emptied_group group = (emptied group.0, group.1)

-- a list among some, unless it is empty
abbrev pub full : List (Line Packet) → List (List (Line Packet))
full [] = []
full (x ∷ xs) = (x ∷ xs) ∷ []

-- lists of lines, seen with plain packets
abbrev pub plain_lists : {P : Type 0} → (P → Packet) → List (Vec (Line P) Global) → List (List (Line Packet))
plain_lists plain lists = map (λ list. map (plain_line plain) list.items) lists

-- events, seen as those of the rounds
abbrev pub plain_sends : {P : Type 0} → (P → Packet) → List (NodeEvent P) → List (Event (Load Packet))
plain_sends plain events = map event_of (map (plain_event plain) events)

abbrev pub lines_in : List Gone → List (List (Line Packet))
lines_in groups = map (λ group. group.0.lines) groups

abbrev pub full_lines : List Gone → List (List (Line Packet))
full_lines groups = flat_map (λ group. full group.0.lines) groups

abbrev pub sends_in : List Gone → List (Event (Load Packet))
sends_in groups = flat_map (λ group. group.0.sends) groups

abbrev pub lps_of : List Gone → List PlainLp
lps_of groups = map (λ group. group.0) groups

-- Groups have run to a window's end: what has become of them, and what they have left
pub record HavePlayed (end : ℕ) (old new : List PlainLp) (lines : List (Line Packet)) (sends : List (Event (Load Packet)))
    (stop : Option (Key × NodeId)) : Type 0 where
  pub gone : List Gone
  pub are_gone : HaveGone end old gone
  pub stops : IsStopOf gone stop
  pub merged : IsMerged (lines_in gone) (limit_of stop) lines
  pub sent : sends ≡ sends_in gone
  pub left : new ≡ map (λ group. emptied group.0) gone
