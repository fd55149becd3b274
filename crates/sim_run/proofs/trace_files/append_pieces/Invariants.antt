use Rattle.std.proofs.Common.{◌≡◌, ◌≤◌, take}
use Rattle.sim_run.specs.Pieces.{HasGrownFrom}
use Rattle.sim_run.proofs.trace_files.append_pieces.Given as goal

abbrev pub invariant-loop-place : goal.invariant-loop-place
invariant-loop-place g l = record {
  grown : HasGrownFrom (g.F.TraceStore.files l.fn.store) (g.F.TraceStore.files l.store) l.first (take l.place l.pieces.pieces);
  made : g.F.TraceStore.made l.store ≡ g.F.TraceStore.made l.fn.store;
  later : g.F.TraceStore.faults l.fn.store ≤ g.F.TraceStore.faults l.store;
}
