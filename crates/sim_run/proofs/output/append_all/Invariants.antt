use Rattle.std.proofs.Common.{◌≡◌, ◌-◌, ◌≤◌, length, take}
use Rattle.sim_run.specs.Growth.{HasGrown}
use Rattle.sim_run.proofs.output.append_all.Given as goal

abbrev pub invariant-loop-at : goal.invariant-loop-at
invariant-loop-at g l = record {
  grown : HasGrown (g.F.TraceStore.files l.fn.store) (g.F.TraceStore.files l.store) l.file (take l.at l.bytes);
  within : l.at ≤ length l.bytes;
  made : g.F.TraceStore.made l.store ≡ g.F.TraceStore.made l.fn.store;
  later : g.F.TraceStore.faults l.fn.store ≤ g.F.TraceStore.faults l.store;
}

abbrev pub decreases-loop-at : goal.decreases-loop-at
decreases-loop-at g l = length l.bytes - l.at
