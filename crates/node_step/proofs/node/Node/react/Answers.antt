use Rattle.std.proofs.Common.{◌+◌, ◌<◌, ◌≤◌, ap, subst, ◌∙◌, refl}
use Rattle.node_step.specs.Loads.{plain_event}
use Rattle.node_step.specs.Node.{PlainNode}
use Rattle.node_step.proofs.ReactLaws.{over_when, reacts_over, reacts_within}
use Rattle.node_step.proofs.node.Node.react.Goals as goal

pub returns-then-settle-clause-ok : goal.returns-then-settle-clause-ok
returns-then-settle-clause-ok g c =
    let after : PlainNode = c.handle.new.self in
    reacts_within c.args.limit (plain_event g.P.Pkt.plain c.args.ev) _ c.args.self.now after c.args.work.now.firing.lans c.begin.new.self c.handle.new.work.firing
    c.self.view_is c.begin.ensures c.in_ok-handle.ensures c.settle.new.self
    (subst (λ n. after.scheduled + n ≤ after.first + c.args.limit) c.count.ensures.value (c.settle.ensures.fits.0 c.if-settle.true))
    (c.settle.ensures.counted c.if-settle.true ∙ ap (λ n. record after { scheduled = after.scheduled + n }) c.count.ensures.value)

pub returns-else-settle-clause-err : goal.returns-else-settle-clause-err
returns-else-settle-clause-err g c =
    let after : PlainNode = c.handle.new.self in (
      reacts_over c.args.limit (plain_event g.P.Pkt.plain c.args.ev) _ c.args.self.now after c.args.work.now.firing.lans c.begin.new.self c.handle.new.work.firing
          c.self.view_is c.begin.ensures c.in_ok-handle.ensures
          (subst (λ n. after.first + c.args.limit < after.scheduled + n) c.count.ensures.value
          (over_when c.settle.result (after.scheduled + c.count.result) (after.first + c.args.limit) c.settle.ensures.fits c.if-settle.false)),
      refl,
    )
