use Rattle.std.proofs.Common.{refl, arith}
use Rattle.pkt_face.specs.Seen.{plain_line}
use Rattle.node_step.proofs.Numbering.{numbered-more}
use Rattle.node_step.proofs.firing.Firing.write.Goals as goal

pub invariant_of-self-2 : goal.invariant_of-self-2
invariant_of-self-2 g c = (
  c.self.invariant.0,
  c.self.invariant.1,
  c.self.invariant.2,
  numbered-more (plain_line g.P.Pkt.plain) c.self.inside.key c.in-Ok.index c.self.inside.lines.items c.push.new.self.items _ c.in_ok-push.ensures.items c.self.invariant.3 (omega (arith, c.len.ensures, c.self.inside.lines.ok.0, c.in-Ok.ensures)) refl,
)
