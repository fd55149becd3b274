use Rattle.std.proofs.Common.{arith, ap, sym, ◌∙◌, map, ◌++◌}
use Rattle.iface_step.specs.Seen.{plain_act, plain_in}
use Rattle.iface_step.specs.Step.{CanTake}
use Rattle.node_step.specs.Node.{PlainNode, progress}
use Rattle.node_step.proofs.Stages.{puts-none}
use Rattle.node_step.proofs.StepLaws.{of-node, past, step_at-none, takes, takes-acts}
use Rattle.node_step.proofs.node.Node.step_at.Goals as goal

pub returns-then-iface-len-clause-progress : goal.returns-then-iface-len-clause-progress
returns-then-iface-len-clause-progress g c =
    let inside : PlainNode = record { ifaces = c.self.inside.ifaces.items; ip = c.self.inside.ip; frags = c.self.inside.frags; ports = c.self.inside.ports; conns = c.self.inside.conns; apps = c.self.inside.apps.items; random = c.self.inside.random; numbers = c.self.inside.numbers; drops = c.self.inside.drops; first = c.self.inside.first; scheduled = c.self.inside.scheduled } in
    sym (ap (λ s. s.progress) (step_at-none c.args.iface (plain_in g.P.Pkt.plain c.args.input) (progress c.args.self.now c.args.work.now.firing)
    (past inside c.args.self.now c.args.iface c.self.view_is (omega (arith, c.if-iface-len.true, c.len.ensures)))))

pub returns-then-iface-len-clause-acts : goal.returns-then-iface-len-clause-acts
returns-then-iface-len-clause-acts g c =
    let inside : PlainNode = record { ifaces = c.self.inside.ifaces.items; ip = c.self.inside.ip; frags = c.self.inside.frags; ports = c.self.inside.ports; conns = c.self.inside.conns; apps = c.self.inside.apps.items; random = c.self.inside.random; numbers = c.self.inside.numbers; drops = c.self.inside.drops; first = c.self.inside.first; scheduled = c.self.inside.scheduled } in
    puts-none (plain_act g.P.Pkt.plain) c.args.acts.now.items _ (ap (λ s. s.acts) (step_at-none c.args.iface (plain_in g.P.Pkt.plain c.args.input) (progress c.args.self.now c.args.work.now.firing)
    (past inside c.args.self.now c.args.iface c.self.view_is (omega (arith, c.if-iface-len.true, c.len.ensures)))))

pub step-requires-clause-input : goal.step-requires-clause-input
step-requires-clause-input g c κs within =
    let inside : PlainNode = record { ifaces = c.self.inside.ifaces.items; ip = c.self.inside.ip; frags = c.self.inside.frags; ports = c.self.inside.ports; conns = c.self.inside.conns; apps = c.self.inside.apps.items; random = c.self.inside.random; numbers = c.self.inside.numbers; drops = c.self.inside.drops; first = c.self.inside.first; scheduled = c.self.inside.scheduled } in
    of-node (λ face. CanTake face (plain_in g.P.Pkt.plain c.args.input)) inside c.args.self.now c.args.iface c.index_mut-face.result.now c.self.view_is
    c.requires.input (omega (arith, c.if-iface-len.false, c.len.ensures)) c.index_mut-face.ensures.value

pub returns-clause-progress : goal.returns-clause-progress
returns-clause-progress g c =
    let inside : PlainNode = record { ifaces = c.self.inside.ifaces.items; ip = c.self.inside.ip; frags = c.self.inside.frags; ports = c.self.inside.ports; conns = c.self.inside.conns; apps = c.self.inside.apps.items; random = c.self.inside.random; numbers = c.self.inside.numbers; drops = c.self.inside.drops; first = c.self.inside.first; scheduled = c.self.inside.scheduled } in
    takes c.args.iface (plain_in g.P.Pkt.plain c.args.input) inside c.args.self.now c.args.work.now.firing c.index_mut-face.result.now c.lan-lan.result c.bus-bus.result
    c.self.view_is (omega (arith, c.if-iface-len.false, c.len.ensures)) c.index_mut-face.ensures.value c.lan-lan.ensures c.bus-bus.ensures
    c.step.new.self c.step.new.bus c.step.new.random c.step.new.numbers c.set_bus.new.self
    c.in_ok-step.ensures.iface c.in_ok-step.ensures.bus c.in_ok-step.ensures.random c.in_ok-step.ensures.numbers c.set_bus.ensures

pub returns-clause-acts : goal.returns-clause-acts
returns-clause-acts g c =
    let inside : PlainNode = record { ifaces = c.self.inside.ifaces.items; ip = c.self.inside.ip; frags = c.self.inside.frags; ports = c.self.inside.ports; conns = c.self.inside.conns; apps = c.self.inside.apps.items; random = c.self.inside.random; numbers = c.self.inside.numbers; drops = c.self.inside.drops; first = c.self.inside.first; scheduled = c.self.inside.scheduled } in
    c.in_ok-step.ensures.acts ∙ ap (λ ys. map (plain_act g.P.Pkt.plain) c.args.acts.now.items ++ ys)
    (takes-acts c.args.iface (plain_in g.P.Pkt.plain c.args.input) inside c.args.self.now c.args.work.now.firing c.index_mut-face.result.now c.lan-lan.result c.bus-bus.result
    c.self.view_is (omega (arith, c.if-iface-len.false, c.len.ensures)) c.index_mut-face.ensures.value c.lan-lan.ensures c.bus-bus.ensures)
