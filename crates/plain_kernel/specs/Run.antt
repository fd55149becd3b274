-- The plain run of a world: its events fire in the order of their keys, until none is left below its stop.
use Rattle.std.specs.Prelude.{◌≡◌, ℕ, List, [], length, map}
use Rattle.std.specs.List.{range_with_len}
use Rattle.sim_base.specs.Packet.{Packet}
use Rattle.pkt_face.specs.declared.line.Line.{Line}
use Rattle.csma_dev.specs.declared.bus.Bus.{Bus}
use Rattle.round_core.specs.Bound.{plain_ending}
use Rattle.round_core.specs.Lines.{lines_of}
use Rattle.round_core.specs.Rounds.{Ending, firings_of}
use Rattle.round_core.specs.World.{World}
use Rattle.node_step.specs.declared.loads.Load.{Load}
use Rattle.node_step.specs.Firing.{Text}
use Rattle.node_step.specs.Node.{PlainNode}
use Rattle.node_step.specs.Part.{counts, drops}
use Rattle.node_rules.specs.Firings.{trace_line}
use Rattle.node_rules.specs.Rules.{room, rules}
use Rattle.node_rules.specs.Shape.{Shape}
use Rattle.node_rules.specs.Worlds.{opening_world, shape_of}
use Rattle.lp_run.specs.Lp.{counted}
use Rattle.sim_world.specs.World.{PlainWorld}
use Rattle.plain_kernel.specs.declared.report.Report.{Report}

-- nodes, buses and pending events, as the laws of runs see them
abbrev pub RunWorld : Type 0
RunWorld = World PlainNode Bus (Load Packet) Text

-- what the world has, as long as it runs
abbrev pub shape_in : PlainWorld → Shape
shape_in w = shape_of w.lans w.nodes

-- where the run begins
abbrev pub start : PlainWorld → RunWorld
start w = opening_world w.nodes w.first

-- how the run ends
unfoldable pub ending : PlainWorld → Ending PlainNode Bus (Load Packet) Text
ending w = plain_ending (rules w.limit (shape_in w)) w.stop.0 (length w.nodes) (room w.limit) (start w)

-- the lines that its firings write
unfoldable pub run_lines : PlainWorld → List (Line Packet)
run_lines w = map trace_line (lines_of (firings_of (ending w)))

-- the nodes of a world, by their numbers
abbrev pub nodes_in : ℕ → RunWorld → List PlainNode
nodes_in count w = map w.nodes (range_with_len 0 count)

-- what a report says of a run that has ended at a world
pub record Reports (w : PlainWorld) (final : RunWorld) (report : Report) : Type 0 where
  pub events : report.events ≡ counted (length final.fired) 0
  pub drops_are : report.drops ≡ drops (nodes_in (length w.nodes) final)
  pub apps : report.apps.items ≡ counts (nodes_in (length w.nodes) final)
  pub windows : report.windows ≡ 0
  pub groups : report.group_events.items ≡ []
