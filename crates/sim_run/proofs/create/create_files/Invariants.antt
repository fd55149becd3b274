use Rattle.std.proofs.Common.{◌≡◌, ◌+◌, ◌≤◌, ◌^◌, map, take, drop}
use Rattle.std.specs.List.{AllByRecursion}
use Rattle.outside.specs.Store.{empty_file}
use Rattle.sim_run.specs.Traces.{trace_name}
use Rattle.sim_run.specs.Growth.{HasNewFiles}
use Rattle.sim_run.proofs.create.create_files.Given as goal

abbrev pub invariant-loop-i : goal.invariant-loop-i
invariant-loop-i g l = record {
  new : HasNewFiles (g.F.TraceStore.files l.fn.store) (g.F.TraceStore.files l.store) l.first (map (λ t. empty_file (trace_name t)) (take l.i l.traces));
  made : l.first + l.i ≤ g.F.TraceStore.made l.store;
  numbers : l.first + l.i ≤ 2 ^ 64;
  known : g.F.TraceStore.made l.store ≡ g.F.TraceStore.made l.fn.store + l.i;
  takes : AllByRecursion (λ t. g.F.TraceStore.takes l.store (trace_name t)) (drop l.i l.traces);
  later : g.F.TraceStore.faults l.fn.store ≤ g.F.TraceStore.faults l.store;
}
