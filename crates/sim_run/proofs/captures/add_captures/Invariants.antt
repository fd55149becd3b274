use Rattle.std.proofs.Common.{◌≡◌, ◌++◌, drop}
use Rattle.std.specs.List.{AllByRecursion}
use Rattle.sim_run.specs.Captures.{captures_from, HasNumbers}
use Rattle.sim_run.proofs.captures.add_captures.Given as goal

abbrev pub invariant-loop-i : goal.invariant-loop-i
invariant-loop-i l = record {
  captures : l.captures.items ++ captures_from l.node.0 l.i (drop l.i l.faces) ≡ l.initial.captures.items ++ captures_from l.node.0 0 l.faces;
  numbers : AllByRecursion HasNumbers l.captures.items;
}
