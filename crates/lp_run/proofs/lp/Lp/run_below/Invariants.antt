use Rattle.lp_run.proofs.Loop.{Runs, firings_left}
use Rattle.lp_run.proofs.lp.Lp.run_below.Given as goal

-- what the loop keeps: some firings of the group as it began
abbrev pub invariant-firings : goal.invariant-firings
invariant-firings g l = Runs l.end.0 l.fn.self l.self

abbrev pub decreases-firings : goal.decreases-firings
decreases-firings g l = firings_left l.self
