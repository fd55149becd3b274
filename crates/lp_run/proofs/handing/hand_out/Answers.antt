use Rattle.std.proofs.Common.{◌∙◌, ap, sym, reverse, arith}
use Rattle.std.proofs.lemmas.List.{take_at}
use Rattle.node_step.specs.Loads.{plain_load}
use Rattle.lp_run.proofs.QueueLaws.{new-seen}
use Rattle.lp_run.proofs.Seen.{out-first, out-own, out-other, out-new, out-last, none-left}
use Rattle.lp_run.proofs.handing.hand_out.Goals as goal

pub loop-event-init : goal.loop-event-init
loop-event-init g c =
    let turned = take_at c.reverse.new.self _ _ (omega arith) ∙ c.reverse.ensures.after ∙ ap reverse c.as_mut_slice.ensures.value in
    out-first g.P.Pkt.plain c.args.part.now c.args.scheduled.now.items _ c.args.pending.now c.args.sends.now.items turned c.requires.new

pub push-requires : goal.push-requires
push-requires g c = new-seen (plain_load g.P.Pkt.plain) c.in-Some.event.key c.loop-event.pending
    (out-new g.P.Pkt.plain c.args.part.now c.args.scheduled.now.items c.args.pending.now c.args.sends.now.items _ c.pop.new.self.items c.loop-event.pending
    c.loop-event.sends.items c.in-Some.event c.in-Some.ensures.items c.loop-event.invariant).0

pub loop-event-preserved-in-Continue-1 : goal.loop-event-preserved-in-Continue-1
loop-event-preserved-in-Continue-1 g c =
    out-own g.P.Pkt.plain c.args.part.now c.args.scheduled.now.items c.args.pending.now c.args.sends.now.items _ c.pop.new.self.items c.loop-event.pending
    c.loop-event.sends.items c.in-Some.event c.in-Some.ensures.items c.loop-event.invariant c.push.new.self (sym c.has.ensures ∙ c.if-has.true) c.in_ok-push.ensures.ok

pub loop-event-preserved : goal.loop-event-preserved
loop-event-preserved g c =
    out-other g.P.Pkt.plain c.args.part.now c.args.scheduled.now.items c.args.pending.now c.args.sends.now.items _ c.pop.new.self.items c.loop-event.pending
    c.loop-event.sends.items c.in-Some.event c.in-Some.ensures.items c.loop-event.invariant c.push-else-has.new.self.items (sym c.has.ensures ∙ c.if-has.false) c.in_ok-push-2.ensures.items

pub returns-clause-pending : goal.returns-clause-pending
returns-clause-pending g c = (out-last g.P.Pkt.plain c.args.part.now c.args.scheduled.now.items c.args.pending.now c.args.sends.now.items
    c.loop-event.scheduled.items c.loop-event.pending c.loop-event.sends.items (none-left c.loop-event.scheduled.items (λ more. c.in_default.ensures.variant.1 (omega (arith, c.loop-event.scheduled.ok.0)))) c.loop-event.invariant).0

pub returns-clause-sends : goal.returns-clause-sends
returns-clause-sends g c = (out-last g.P.Pkt.plain c.args.part.now c.args.scheduled.now.items c.args.pending.now c.args.sends.now.items
    c.loop-event.scheduled.items c.loop-event.pending c.loop-event.sends.items (none-left c.loop-event.scheduled.items (λ more. c.in_default.ensures.variant.1 (omega (arith, c.loop-event.scheduled.ok.0)))) c.loop-event.invariant).1
