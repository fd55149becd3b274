use Rattle.std.proofs.Common.{◌≡◌, take}
use Rattle.node_step.specs.Part.{drops}
use Rattle.node_step.proofs.part.Part.drops.Given as goal

-- the nodes so far are counted
abbrev pub invariant-loop-node : goal.invariant-loop-node
invariant-loop-node g l = l.drops ≡ drops (take l.node-index l.node-items)
