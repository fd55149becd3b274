use Rattle.std.proofs.Common.{◌≡◌, ℕ, ◌<◌, length, get_or, take}
use Rattle.sim_run.specs.Summary.{count_of, no_count}
use Rattle.sim_run.proofs.summary.by_number.Given as goal

abbrev pub invariant-loop-count : goal.invariant-loop-count
invariant-loop-count l = record {
  size : length l.table.items ≡ l.apps;
  counts : (app : ℕ) → app < l.apps → get_or l.table.items app (no_count app) ≡ count_of app (take l.count-index l.counts);
}
