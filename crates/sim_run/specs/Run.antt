-- The plain run of a scenario, and what its last world says.
use Rattle.std.specs.Prelude.{ℕ, ◌-◌, ◌^◌, min, List, length}
use Rattle.sim_base.specs.Packet.{Packet}
use Rattle.pkt_face.specs.declared.line.Line.{Line}
use Rattle.round_core.specs.Rounds.{Ending}
use Rattle.node_step.specs.declared.loads.Load.{Load}
use Rattle.node_step.specs.declared.local_app.AppCount.{AppCount}
use Rattle.node_step.specs.Firing.{Text}
use Rattle.node_step.specs.Node.{PlainNode}
use Rattle.node_step.specs.Part.{counts, drops}
use Rattle.csma_dev.specs.declared.bus.Bus.{Bus}
use Rattle.scenario_form.specs.declared.scenario.Scenario.{Scenario}
use Rattle.sim_world.specs.World.{world_of}
use Rattle.plain_kernel.specs.Run.{RunWorld, ending, nodes_in, run_lines}

abbrev pub RunEnding : Type 0
RunEnding = Ending PlainNode Bus (Load Packet) Text

-- how the plain run of a scenario ends
abbrev pub ending_of : Scenario → RunEnding
ending_of s = ending (world_of s)

-- the lines that it writes, in the order of their keys and indices
abbrev pub lines_of : Scenario → List (Line Packet)
lines_of s = run_lines (world_of s)

-- how many events have fired; the count stays at the end of its type
abbrev pub events_in : RunWorld → ℕ
events_in final = min (length final.fired) (2 ^ 64 - 1)

-- how many packets the nodes of a scenario have dropped
abbrev pub drops_in : Scenario → RunWorld → ℕ
drops_in s final = drops (nodes_in s.nodes final)

-- what their applications have sent and received
abbrev pub counts_in : Scenario → RunWorld → List AppCount
counts_in s final = counts (nodes_in s.nodes final)
