use Rattle.std.proofs.Common.{◌≡◌, List, [], ◌++◌, map, ap, sym, ◌∙◌}
use Rattle.iface_step.specs.declared.words.Act.{Act}
use Rattle.sim_base.specs.Packet.{Packet}
use Rattle.iface_step.specs.Seen.{plain_act, plain_in}
use Rattle.iface_step.specs.Step.{step}
use Rattle.iface_step.specs.Transit.{Progress}
use Rattle.iface_step.proofs.Begun.{step_from}
use Rattle.iface_step.proofs.iface.Iface.step.Goals as goal

pub returns-clause-iface : goal.returns-clause-iface
returns-clause-iface g c =
    ap (λ (p : Progress). p.iface)
    (step_from (plain_in g.P.Pkt.plain c.args.input) c.args.self.now c.args.bus.now c.args.random.now c.args.numbers.now
    (map (plain_act g.P.Pkt.plain) c.args.out.now.items) _ (ap (map (plain_act g.P.Pkt.plain)) c.requires.empty) c.in_ok-handle.ensures)

pub returns-clause-numbers : goal.returns-clause-numbers
returns-clause-numbers g c =
    ap (λ (p : Progress). p.numbers)
    (step_from (plain_in g.P.Pkt.plain c.args.input) c.args.self.now c.args.bus.now c.args.random.now c.args.numbers.now
    (map (plain_act g.P.Pkt.plain) c.args.out.now.items) _ (ap (map (plain_act g.P.Pkt.plain)) c.requires.empty) c.in_ok-handle.ensures)

pub returns-clause-bus : goal.returns-clause-bus
returns-clause-bus g c =
    ap (λ (p : Progress). p.bus)
    (step_from (plain_in g.P.Pkt.plain c.args.input) c.args.self.now c.args.bus.now c.args.random.now c.args.numbers.now
    (map (plain_act g.P.Pkt.plain) c.args.out.now.items) _ (ap (map (plain_act g.P.Pkt.plain)) c.requires.empty) c.in_ok-handle.ensures)

pub returns-clause-random : goal.returns-clause-random
returns-clause-random g c =
    ap (λ (p : Progress). p.random)
    (step_from (plain_in g.P.Pkt.plain c.args.input) c.args.self.now c.args.bus.now c.args.random.now c.args.numbers.now
    (map (plain_act g.P.Pkt.plain) c.args.out.now.items) _ (ap (map (plain_act g.P.Pkt.plain)) c.requires.empty) c.in_ok-handle.ensures)

pub returns-clause-acts : goal.returns-clause-acts
returns-clause-acts g c =
    let input = plain_in g.P.Pkt.plain c.args.input in
    let none : map (plain_act g.P.Pkt.plain) c.args.out.now.items ≡ [] = ap (map (plain_act g.P.Pkt.plain)) c.requires.empty in
    ap (λ (p : Progress). p.acts)
    (step_from input c.args.self.now c.args.bus.now c.args.random.now c.args.numbers.now (map (plain_act g.P.Pkt.plain) c.args.out.now.items) _ none c.in_ok-handle.ensures)
    ∙ sym (ap (λ (xs : List (Act Packet)). xs ++ (step c.args.self.now c.args.bus.now c.args.random.now c.args.numbers.now input).acts) none)
