-- The groups of a cut, as the parts of the rounds.
use Rattle.std.specs.Prelude.{ℕ, ◌≡◌, ◌<◌, ◌==◌, List, [], length, map, Option, Some, None, slice_get}
use Rattle.sim_base.specs.Packet.{Packet}
use Rattle.partition_cut.specs.declared.network.Cut.{Cut}
use Rattle.csma_dev.specs.declared.bus.Bus.{Bus}
use Rattle.round_core.specs.Kernel.{IsNextRound}
use Rattle.round_core.specs.Parts.{Part}
use Rattle.round_core.specs.Rounds.{fired_by}
use Rattle.round_core.specs.World.{Firing, World}
use Rattle.node_step.specs.declared.loads.Event.{Event as NodeEvent}
use Rattle.node_step.specs.declared.loads.Load.{Load}
use Rattle.node_step.specs.Firing.{Text, free}
use Rattle.node_step.specs.Node.{PlainNode}
use Rattle.node_step.specs.Part.{PlainPart, has}
use Rattle.node_rules.specs.Health.{health}
use Rattle.node_rules.specs.Rules.{rules}
use Rattle.node_rules.specs.Shape.{Shape}
use Rattle.node_rules.specs.Worlds.{event_of, no_node}
use Rattle.lp_run.specs.Lp.{PlainLp, StandApart, counted, made, part_of}
use Rattle.sim_world.specs.Shares.{AreSplit}
use Rattle.sim_world.specs.World.{PlainWorld}
use Rattle.plain_kernel.specs.Run.{shape_in, start}
use Rattle.round_kernel.specs.Cut.{group_of, rounds_cut}

abbrev pub GroupPart : Type 0
GroupPart = Part PlainNode Bus (Load Packet) Text

abbrev pub GroupWorld : Type 0
GroupWorld = World PlainNode Bus (Load Packet) Text

-- a group has the nodes of its number, among those of a network, and a bus for each LAN
pub record HasNodes (shape : Shape) (limit : ℕ) (group_of : ℕ → ℕ) (g : ℕ) (lp : PlainLp) : Type 0 where
  pub limit_is : lp.part.limit ≡ limit
  pub places : length lp.part.places ≡ shape.nodes
  pub lans : length lp.part.lans ≡ shape.lans
  pub mine : (n : ℕ) → n < shape.nodes → has n lp.part ≡ (group_of n == g)
  pub apart : StandApart lp.part

-- the group that a part with its first events makes
abbrev pub group_made : PlainPart × List (NodeEvent Packet) → PlainLp
group_made m = made m.0 (map event_of m.1)

-- the part of a group that there isn't
abbrev pub nothing : GroupPart
nothing = record { world = record { nodes = no_node; lans = λ lan. free; pending = []; fired = [] }; sent = [] }

abbrev pub part_at : Option PlainLp → GroupPart
part_at None = nothing
part_at (Some lp) = part_of lp

-- groups as the parts of the rounds
abbrev pub parts_of : List PlainLp → ℕ → GroupPart
parts_of lps g = part_at (slice_get lps g)

-- the next round finds the run at these parts
abbrev pub IsNext : PlainWorld → Cut → List (Firing Text) → ℕ → ℕ → (ℕ → GroupPart) → Type 0
IsNext w cut written rounds last parts =
    IsNextRound (rules w.limit (shape_in w)) (health (shape_in w)) w.stop.0 (rounds_cut w cut) (start w) written rounds last parts

-- The groups between two rounds: these firings are written, in so many rounds, the last of which ended here
pub record Between (w : PlainWorld) (cut : Cut) (lps : List PlainLp) (written : List (Firing Text)) (rounds last : ℕ) : Type 0 where
  pub count : length lps ≡ cut.groups
  pub has : (g : ℕ) (lp : PlainLp) → slice_get lps g ≡ Some lp → HasNodes (shape_in w) w.limit (group_of cut) g lp
  pub sends : (g : ℕ) (lp : PlainLp) → slice_get lps g ≡ Some lp → lp.sends ≡ []
  pub lines : (g : ℕ) (lp : PlainLp) → slice_get lps g ≡ Some lp → lp.lines ≡ []
  pub fired : (g : ℕ) (lp : PlainLp) → slice_get lps g ≡ Some lp → lp.fired ≡ counted (fired_by (group_of cut) g written) 0
  pub next : IsNext w cut written rounds last (parts_of lps)

-- the groups of a cut before the first round: one for each part of the world
pub record AreFirst (w : PlainWorld) (cut : Cut) (lps : List PlainLp) : Type 0 where
  pub parts : List (PlainPart × List (NodeEvent Packet))
  pub split : AreSplit w cut.group_of.items cut.groups parts
  pub made_of : lps ≡ map group_made parts
