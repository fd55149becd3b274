use Rattle.std.proofs.Common.{◌≡◌, map, take}
use Rattle.sim_run.specs.declared.traces.Trace.TheVariants.{Packets}
use Rattle.sim_run.proofs.traces.packet_traces.Given as goal

abbrev pub invariant-loop-capture : goal.invariant-loop-capture
invariant-loop-capture l = l.traces.items ≡ map Packets (take l.capture-index l.captures)
