use Rattle.std.proofs.Common.{◌≡◌, fold, map, reverse, All}
use Rattle.udp_icmp.specs.Seen.{plain_act}
use Rattle.udp_icmp.specs.Step.{FitsDatagram}
use Rattle.node_step.specs.Node.{progress}
use Rattle.node_step.specs.Delivery.{carry_ports}
use Rattle.node_step.proofs.node.Node.carry_all_ports.Given as goal

-- what is left to carry out leads to where all acts lead
abbrev pub invariant-loop-act : goal.invariant-loop-act
invariant-loop-act g l = record {
  leads : fold carry_ports (progress l.self l.work.firing) (map (plain_act g.P.Pkt.plain) (reverse l.acts.items)) ≡ fold carry_ports (progress l.fn.self l.fn.work.firing) (map (plain_act g.P.Pkt.plain) l.fn.acts.items);
  fit : All FitsDatagram (map (plain_act g.P.Pkt.plain) l.acts.items);
}

abbrev pub decreases-loop-act : goal.decreases-loop-act
decreases-loop-act g l = goal.left-loop-act g l
