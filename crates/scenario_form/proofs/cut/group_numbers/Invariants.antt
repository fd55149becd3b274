use Rattle.std.proofs.Common.{◌≡◌, map, take}
use Rattle.partition_cut.specs.Network.{node_lists}
use Rattle.scenario_form.specs.Shape.{numbers_of}
use Rattle.scenario_form.proofs.cut.group_numbers.Given as goal

abbrev pub invariant-loop-group : goal.invariant-loop-group
invariant-loop-group l = node_lists l.made.items ≡ map numbers_of (take l.group-index l.groups)
