use Rattle.std.proofs.Common.{◌≡◌}
use Rattle.std.specs.List.{AllByRecursion}
use Rattle.sim_run.specs.Captures.{captures_below, HasNumbers}
use Rattle.sim_run.proofs.captures.captures_of.Given as goal

abbrev pub invariant-loop-node : goal.invariant-loop-node
invariant-loop-node l = record {
  captures : l.captures.items ≡ captures_below l.scenario l.node;
  numbers : AllByRecursion HasNumbers l.captures.items;
}
