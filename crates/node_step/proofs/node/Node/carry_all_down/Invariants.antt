use Rattle.std.proofs.Common.{◌≡◌, fold, map, reverse}
use Rattle.iface_step.specs.Seen.{plain_act}
use Rattle.node_step.specs.Node.{progress}
use Rattle.node_step.specs.Down.{carry_down}
use Rattle.node_step.proofs.node.Node.carry_all_down.Given as goal

-- what is left to carry out leads to where all acts lead
abbrev pub invariant-loop-act : goal.invariant-loop-act
invariant-loop-act g l =
    fold (carry_down l.iface) (progress l.self l.work.firing) (map (plain_act g.P.Pkt.plain) (reverse l.acts.items)) ≡ fold (carry_down l.iface) (progress l.fn.self l.fn.work.firing) (map (plain_act g.P.Pkt.plain) l.fn.acts.items)

abbrev pub decreases-loop-act : goal.decreases-loop-act
decreases-loop-act g l = goal.left-loop-act g l
