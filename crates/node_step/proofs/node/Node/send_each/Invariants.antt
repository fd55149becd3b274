use Rattle.std.proofs.Common.{◌≡◌, ◌<◌, ◌^◌, fold, map, reverse, All}
use Rattle.sim_base.specs.Packet.{len}
use Rattle.node_step.specs.Node.{progress}
use Rattle.node_step.specs.Leaving.{leaves}
use Rattle.node_step.proofs.node.Node.send_each.Given as goal

-- what is left to send leads to where all packets lead
abbrev pub invariant-loop-packet : goal.invariant-loop-packet
invariant-loop-packet g l = record {
  leads : fold (leaves l.iface l.hop) (progress l.self l.work.firing) (map g.P.Pkt.plain (reverse l.packets.items)) ≡ fold (leaves l.iface l.hop) (progress l.fn.self l.fn.work.firing) (map g.P.Pkt.plain l.fn.packets.items);
  fit : All (λ p. len p < 2 ^ 16) (map g.P.Pkt.plain l.packets.items);
}

abbrev pub decreases-loop-packet : goal.decreases-loop-packet
decreases-loop-packet g l = goal.left-loop-packet g l
