use Rattle.std.proofs.Common.{arith}
use Rattle.node_step.specs.Node.{PlainNode}
use Rattle.node_step.proofs.StepLaws.{arrives-none, arrives-some}
use Rattle.node_step.proofs.node.Node.can_arrive.Goals as goal

pub returns-then-iface-len : goal.returns-then-iface-len
returns-then-iface-len g c =
    let inside : PlainNode = record { ifaces = c.self.inside.ifaces.items; ip = c.self.inside.ip; frags = c.self.inside.frags; ports = c.self.inside.ports; conns = c.self.inside.conns; apps = c.self.inside.apps.items; random = c.self.inside.random; numbers = c.self.inside.numbers; drops = c.self.inside.drops; first = c.self.inside.first; scheduled = c.self.inside.scheduled } in
    arrives-none c.args.iface c.args.len inside c.args.self.now c.self.view_is (omega (arith, c.if-iface-len.true, c.len.ensures))

pub returns : goal.returns
returns g c =
    let inside : PlainNode = record { ifaces = c.self.inside.ifaces.items; ip = c.self.inside.ip; frags = c.self.inside.frags; ports = c.self.inside.ports; conns = c.self.inside.conns; apps = c.self.inside.apps.items; random = c.self.inside.random; numbers = c.self.inside.numbers; drops = c.self.inside.drops; first = c.self.inside.first; scheduled = c.self.inside.scheduled } in
    arrives-some c.args.iface c.args.len c.least_frame.result inside c.args.self.now c.index-face.result.now c.self.view_is
    (omega (arith, c.if-iface-len.false, c.len.ensures)) c.index-face.ensures c.least_frame.ensures
