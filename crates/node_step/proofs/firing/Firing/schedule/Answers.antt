use Rattle.std.proofs.Common.{◌+◌, refl, arith}
use Rattle.node_step.specs.Loads.{plain_event}
use Rattle.node_step.proofs.Numbering.{scheduled-more}
use Rattle.node_step.proofs.firing.Firing.schedule.Goals as goal

pub invariant_of-self-2 : goal.invariant_of-self-2
invariant_of-self-2 g c = (
  c.self.invariant.0,
  c.self.invariant.1,
  scheduled-more (plain_event g.P.Pkt.plain) c.self.inside.key c.self.inside.before (c.self.inside.before + c.len.result) c.self.inside.sends.items c.push.new.self.items _ c.in_ok-push.ensures.items c.self.invariant.2 (omega (arith, c.len.ensures, c.self.inside.sends.ok.0)) refl,
  c.self.invariant.3,
)
