use Rattle.std.proofs.Common.{◌≡◌, take}
use Rattle.partition_cut.specs.Network.{node_lists}
use Rattle.scenario_form.specs.Shape.{lans_of}
use Rattle.scenario_form.proofs.shape.shape_lans.Given as goal

abbrev pub invariant-loop-lan : goal.invariant-loop-lan
invariant-loop-lan l = node_lists l.made.items ≡ lans_of (take l.lan-index l.lans)
