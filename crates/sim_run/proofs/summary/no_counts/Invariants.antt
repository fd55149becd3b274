use Rattle.std.proofs.Common.{◌≡◌, ℕ, ◌<◌, length, get_or}
use Rattle.sim_run.specs.Summary.{no_count}
use Rattle.sim_run.proofs.summary.no_counts.Given as goal

abbrev pub invariant-loop-number : goal.invariant-loop-number
invariant-loop-number l = record {
  size : length l.table.items ≡ l.number;
  counts : (app : ℕ) → app < l.number → get_or l.table.items app (no_count app) ≡ no_count app;
}
