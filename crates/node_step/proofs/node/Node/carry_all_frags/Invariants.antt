use Rattle.std.proofs.Common.{◌≡◌, fold, map, reverse, All}
use Rattle.frag_core.specs.Seen.{plain_act}
use Rattle.frag_core.specs.Step.{FitsDatagram}
use Rattle.node_step.specs.Node.{progress}
use Rattle.node_step.specs.Reassembly.{carry_frags}
use Rattle.node_step.proofs.node.Node.carry_all_frags.Given as goal

-- what is left to carry out leads to where all acts lead
abbrev pub invariant-loop-act : goal.invariant-loop-act
invariant-loop-act g l = record {
  leads : fold carry_frags (progress l.self l.work.firing) (map (plain_act g.P.Pkt.plain) (reverse l.acts.items)) ≡ fold carry_frags (progress l.fn.self l.fn.work.firing) (map (plain_act g.P.Pkt.plain) l.fn.acts.items);
  fit : All FitsDatagram (map (plain_act g.P.Pkt.plain) l.acts.items);
}

abbrev pub decreases-loop-act : goal.decreases-loop-act
decreases-loop-act g l = goal.left-loop-act g l
