use Rattle.std.proofs.Common.{◌≡◌, map, take}
use Rattle.sim_run.specs.Places.{FindsPlaces}
use Rattle.sim_run.specs.Traces.{trace_head}
use Rattle.sim_run.proofs.pieces.Pieces.make.Given as goal

abbrev pub invariant-loop-place : goal.invariant-loop-place
invariant-loop-place l = record {
  found : FindsPlaces l.places (take l.place l.fn.traces.items);
  heads : map (λ piece. piece.items) l.pieces.items ≡ map trace_head (take l.place l.fn.traces.items);
}
