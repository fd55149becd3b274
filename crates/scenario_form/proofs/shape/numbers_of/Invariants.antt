use Rattle.std.proofs.Common.{◌≡◌, take}
use Rattle.scenario_form.specs.Shape.{numbers_of}
use Rattle.scenario_form.proofs.shape.numbers_of.Given as goal

abbrev pub invariant-loop-node : goal.invariant-loop-node
invariant-loop-node l = l.numbers.items ≡ numbers_of (take l.node-index l.nodes)
