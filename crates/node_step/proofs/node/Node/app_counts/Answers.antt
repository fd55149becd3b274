use Rattle.std.proofs.Common.{arith}
use Rattle.traffic_apps.specs.Seen.{plain_in}
use Rattle.node_step.specs.Node.{PlainNode}
use Rattle.node_step.proofs.Stages.{counts-none, counts-some}
use Rattle.node_step.proofs.node.Node.app_counts.Goals as goal

pub returns-then-app-len : goal.returns-then-app-len
returns-then-app-len g c =
    let inside : PlainNode = record { ifaces = c.self.inside.ifaces.items; ip = c.self.inside.ip; frags = c.self.inside.frags; ports = c.self.inside.ports; conns = c.self.inside.conns; apps = c.self.inside.apps.items; random = c.self.inside.random; numbers = c.self.inside.numbers; drops = c.self.inside.drops; first = c.self.inside.first; scheduled = c.self.inside.scheduled } in
    counts-none c.args.app (plain_in g.P.Pkt.plain c.args.input) inside c.args.self.now c.args.work.now.firing c.self.view_is (omega (arith, c.if-app-len.true, c.len.ensures))

pub returns : goal.returns
returns g c =
    let inside : PlainNode = record { ifaces = c.self.inside.ifaces.items; ip = c.self.inside.ip; frags = c.self.inside.frags; ports = c.self.inside.ports; conns = c.self.inside.conns; apps = c.self.inside.apps.items; random = c.self.inside.random; numbers = c.self.inside.numbers; drops = c.self.inside.drops; first = c.self.inside.first; scheduled = c.self.inside.scheduled } in
    counts-some c.args.app (plain_in g.P.Pkt.plain c.args.input) inside c.args.self.now c.args.work.now.firing c.index_mut-local.result.now c.step.new.self
    c.step.new.numbers c.self.view_is (omega (arith, c.if-app-len.false, c.len.ensures)) c.index_mut-local.ensures.value c.in_ok-step.ensures.state
    c.in_ok-step.ensures.numbers
