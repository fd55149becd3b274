use Rattle.std.proofs.Common.{arith}
use Rattle.traffic_apps.specs.Seen.{plain_act, plain_in}
use Rattle.traffic_apps.specs.Step.{FitsDatagram}
use Rattle.node_step.specs.Node.{PlainNode}
use Rattle.node_step.proofs.Fits.{fit-made}
use Rattle.node_step.proofs.Stages.{app-none, app-some, made}
use Rattle.node_step.proofs.node.Node.app_takes.Goals as goal

pub returns-then-app-len : goal.returns-then-app-len
returns-then-app-len g c =
    let inside : PlainNode = record { ifaces = c.self.inside.ifaces.items; ip = c.self.inside.ip; frags = c.self.inside.frags; ports = c.self.inside.ports; conns = c.self.inside.conns; apps = c.self.inside.apps.items; random = c.self.inside.random; numbers = c.self.inside.numbers; drops = c.self.inside.drops; first = c.self.inside.first; scheduled = c.self.inside.scheduled } in
    app-none c.args.app (plain_in g.P.Pkt.plain c.args.input) inside c.args.self.now c.args.work.now.firing c.self.view_is (omega (arith, c.if-app-len.true, c.len.ensures))

pub carry_all_app-requires-after_bounds : goal.carry_all_app-requires-after_bounds
carry_all_app-requires-after_bounds g c κs within =
    fit-made FitsDatagram (plain_act g.P.Pkt.plain) c.room-acts.result.items c.step.new.out.items _ c.room-acts.ensures c.in_ok-step.ensures.acts (c.in_ok-step.ensures.fits c.requires.datagram)

pub returns : goal.returns
returns g c =
    let inside : PlainNode = record { ifaces = c.self.inside.ifaces.items; ip = c.self.inside.ip; frags = c.self.inside.frags; ports = c.self.inside.ports; conns = c.self.inside.conns; apps = c.self.inside.apps.items; random = c.self.inside.random; numbers = c.self.inside.numbers; drops = c.self.inside.drops; first = c.self.inside.first; scheduled = c.self.inside.scheduled } in
    app-some c.args.app (plain_in g.P.Pkt.plain c.args.input) inside c.args.self.now c.args.work.now.firing c.index_mut-local.result.now c.step.new.self c.port-port.result
    c.step.new.numbers _ _ c.self.view_is (omega (arith, c.if-app-len.false, c.len.ensures)) c.index_mut-local.ensures.value c.in_ok-step.ensures.state c.port-port.ensures
    c.in_ok-step.ensures.numbers
    (made (plain_act g.P.Pkt.plain) c.room-acts.result.items c.step.new.out.items _ c.room-acts.ensures c.in_ok-step.ensures.acts) c.in_ok-carry_all_app.ensures
