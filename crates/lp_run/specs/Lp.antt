-- A group of nodes that runs by itself, as a part of the rounds.
use Rattle.std.specs.Prelude.{◌≡◌, ℕ, zero, suc, Bool, true, false, List, [], ◌++◌, length, map, Some, None, slice_get, if◌then◌else◌}
use Rattle.sim_base.specs.declared.key.Key.{Key}
use Rattle.sim_base.specs.Packet.{Packet}
use Rattle.pkt_face.specs.declared.line.Line.{Line}
use Rattle.csma_dev.specs.declared.bus.Bus.{Bus}
use Rattle.layer_words.specs.Counting.{count_up}
use Rattle.round_core.specs.Lines.{lines_of}
use Rattle.round_core.specs.Order.{in_key_order}
use Rattle.round_core.specs.Parts.{Part, PartRuns, IsPartSound, part_after}
use Rattle.round_core.specs.Rounds.{below}
use Rattle.round_core.specs.World.{Event, Ready, first, next}
use Rattle.node_step.specs.declared.loads.Load.{Load}
use Rattle.node_step.specs.declared.stop.FireStop.{FireStop}
use Rattle.node_step.specs.declared.stop.FireStop.TheVariants.{NoMemory as OutOfMemory, Limit as AtLimit}
use Rattle.node_step.specs.Firing.{Text, bus_at}
use Rattle.node_step.specs.Node.{PlainNode}
use Rattle.node_step.specs.Part.{PlainPart, has, place_of}
use Rattle.node_rules.specs.Firings.{trace_line}
use Rattle.node_rules.specs.Health.{health}
use Rattle.node_rules.specs.Rules.{rules}
use Rattle.node_rules.specs.Shape.{Shape}
use Rattle.node_rules.specs.Worlds.{node_or}
use Rattle.lp_run.specs.declared.stop.LpStop.{LpStop}
use Rattle.lp_run.specs.declared.stop.LpStop.TheVariants.{NoMemory, Limit}

-- the nodes; their pending events, in the order of their keys; the events for other groups and the lines that no one has
-- taken yet; how many events have fired
pub record PlainLp : Type 0 where
  pub part : PlainPart
  pub pending : List (Event (Load Packet))
  pub sends : List (Event (Load Packet))
  pub lines : List (Line Packet)
  pub fired : ℕ

-- a group that has fired nothing yet, whose first events have been put into the order of their keys
abbrev pub made : PlainPart → List (Event (Load Packet)) → PlainLp
made part first = record { part = part; pending = in_key_order (λ e. e.key) first; sends = []; lines = []; fired = 0 }

-- the group of the nodes that are here is 0, and that of all others 1
abbrev pub own_group : PlainPart → ℕ → ℕ
own_group part node = if has node part then 0 else 1

-- a node of the part by its number; any other is a node with nothing
unfoldable pub nodes_of : PlainPart → ℕ → PlainNode
nodes_of part node = node_or node (if has node part then slice_get part.nodes (place_of node part) else None)

-- as a part of the rounds, whose log is empty
abbrev pub part_of : PlainLp → Part PlainNode Bus (Load Packet) Text
part_of lp = record {
  world = record { nodes = nodes_of lp.part; lans = bus_at lp.part.lans; pending = lp.pending; fired = [] };
  sent = lp.sends;
}

-- no two nodes of the part stand at one place
abbrev pub StandApart : PlainPart → Type 0
StandApart part = (n m : ℕ) → has n part ≡ true → has m part ≡ true → place_of n part ≡ place_of m part → n ≡ m

-- a part of the rounds, beside which the nodes that aren't here are these
abbrev pub beside : (ℕ → Bool) → (ℕ → PlainNode) → Part PlainNode Bus (Load Packet) Text → Part PlainNode Bus (Load Packet) Text
beside here others p = record p { world = record p.world { nodes = λ n. if here n then p.world.nodes n else others n } }

-- whether a node is one of the group's
abbrev pub here : PlainLp → ℕ → Bool
here lp node = has node lp.part

-- a group whose nodes and events are well in a network of a shape, beside nodes of other groups that are well too
pub record IsWellIn (shape : Shape) (lp : PlainLp) : Type 0 where
  pub others : ℕ → PlainNode
  pub nodes : shape.nodes ≡ length lp.part.places
  pub lans : length lp.part.lans ≡ shape.lans
  pub apart : StandApart lp.part
  pub sound : IsPartSound (rules lp.part.limit shape) (health shape) (own_group lp.part) 0 (beside (here lp) others (part_of lp))

-- a group that is well in some network
abbrev pub IsWellLp : PlainLp → Type 0
IsWellLp lp = (shape : Shape) × IsWellIn shape lp

-- a part of the rounds, without its log
abbrev pub unlogged_part : Part PlainNode Bus (Load Packet) Text → Part PlainNode Bus (Load Packet) Text
unlogged_part p = record p { world = record p.world { fired = [] } }

-- a count, when so many more have been counted
abbrev pub counted : ℕ → ℕ → ℕ
counted zero count = count
counted (suc n) count = count_up 1 (counted n count)

-- what firings have left in a group: the part that they leave, and their lines behind those that were there
pub record HasFired (old new : PlainLp) (p : Part PlainNode Bus (Load Packet) Text) : Type 0 where
  pub places : new.part.places ≡ old.part.places
  pub count : length new.part.nodes ≡ length old.part.nodes
  pub lans : length new.part.lans ≡ length old.part.lans
  pub limit : new.part.limit ≡ old.part.limit
  pub part : part_of new ≡ unlogged_part p
  pub lines : new.lines ≡ old.lines ++ map trace_line (lines_of p.world.fired)
  pub fired : new.fired ≡ counted (length p.world.fired) old.fired

-- a group has fired all its own events below an end: a run of its part of the rounds that leaves none there
pub record HasRunIn (shape : Shape) (end : ℕ) (old new : PlainLp) : Type 0 where
  pub left : Part PlainNode Bus (Load Packet) Text
  pub runs : PartRuns (rules old.part.limit shape) (own_group old.part) 0 end (part_of old) left
  pub none : first (below end) left.world.pending ≡ None
  pub fired : HasFired old new left

-- so it has in each network in which it is well
abbrev pub HasRun : ℕ → PlainLp → PlainLp → Type 0
HasRun end old new = (shape : Shape) → IsWellIn shape old → HasRunIn shape end old new

-- a group after one firing of its least event below an end
abbrev pub IsStepIn : Shape → ℕ → PlainLp → PlainLp → Type 0
IsStepIn shape end old new = (ready : Ready PlainNode Bus (Load Packet) Text)
    × (next (rules old.part.limit shape) (below end) (part_of old).world ≡ Some ready)
    × HasFired old new (part_after (rules old.part.limit shape) (own_group old.part) 0 end (part_of old) ready)

-- a group after one firing of its least event below an end; where there is none, it is as it was
abbrev pub IsStep : ℕ → PlainLp → PlainLp → Bool → Type 0
IsStep end old new false = (first (below end) old.pending ≡ None) × (new ≡ old)
IsStep end old new true = (shape : Shape) → IsWellIn shape old → IsStepIn shape end old new

-- the node of the least event below an end may schedule no more: the event has not fired, and no line has been added
abbrev pub IsRefused : ℕ → PlainLp → PlainLp → LpStop → Type 0
IsRefused end old new NoMemory = Unit {0}
IsRefused end old new (Limit key node) = (e : Event (Load Packet)) × (first (below end) old.pending ≡ Some e) × (e.key ≡ key)
    × (node ≡ key.node) × ((shape : Shape) → IsWellIn shape old → next (rules old.part.limit shape) (below end) (part_of old).world ≡ None)
    × (new.lines ≡ old.lines)

-- a group has stopped at an event whose node may schedule no more: its part of the rounds has come to rest at that event,
-- and the lines before it stand
abbrev pub HasStopped : ℕ → PlainLp → PlainLp → LpStop → Type 0
HasStopped end old new NoMemory = Unit {0}
HasStopped end old new (Limit key node) = (shape : Shape) → IsWellIn shape old →
    (left : Part PlainNode Bus (Load Packet) Text) × (e : Event (Load Packet))
    × PartRuns (rules old.part.limit shape) (own_group old.part) 0 end (part_of old) left
    × (first (below end) left.world.pending ≡ Some e) × (e.key ≡ key) × (node ≡ key.node)
    × (new.lines ≡ old.lines ++ map trace_line (lines_of left.world.fired))

-- a refusal of a part's firing, as that of the group's run
abbrev pub stop_at : Key → FireStop → LpStop
stop_at key OutOfMemory = NoMemory
stop_at key (AtLimit node) = Limit key node
