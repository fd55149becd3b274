use Rattle.lp_run.specs.Lp.{IsWellLp}
use Rattle.test_group.proofs.windows.run_group.Given as goal

abbrev pub invariant-loop : goal.invariant-loop
invariant-loop g l = IsWellLp l.group
