use Rattle.std.proofs.Common.{◌≡◌, ℕ, ◌<◌, [], get_or, vec_len}
use Rattle.sim_run.specs.Places.{Piece}
use Rattle.sim_run.proofs.pieces.clear_all.Given as goal

abbrev pub invariant-loop-place : goal.invariant-loop-place
invariant-loop-place l = record {
  count : vec_len l.pieces ≡ vec_len l.initial.pieces;
  empty : (k : ℕ) (d : Piece) → k < l.place → (get_or l.pieces.items k d).items ≡ [];
}
