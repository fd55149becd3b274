use Rattle.std.proofs.Common.{◌∙◌, ap, reverse, arith}
use Rattle.std.proofs.lemmas.List.{take_at}
use Rattle.node_step.specs.Loads.{plain_load}
use Rattle.lp_run.proofs.QueueLaws.{new-seen}
use Rattle.lp_run.proofs.Scheduled.{put-first, put-last, put-more, put-new}
use Rattle.lp_run.proofs.Seen.{none-left}
use Rattle.lp_run.proofs.handing.schedule.Goals as goal

pub loop-event-init : goal.loop-event-init
loop-event-init g c =
    let turned = take_at c.reverse.new.self _ _ (omega arith) ∙ c.reverse.ensures.after ∙ ap reverse c.as_mut_slice.ensures.value in
    put-first g.P.Pkt.plain c.args.events.now.items _ c.args.pending.now turned c.requires.new

pub push-requires : goal.push-requires
push-requires g c = new-seen (plain_load g.P.Pkt.plain) c.in-Some.event.key c.loop-event.pending
    (put-new g.P.Pkt.plain c.args.events.now.items c.args.pending.now _ c.pop.new.self.items c.loop-event.pending c.in-Some.event
    c.in-Some.ensures.items c.loop-event.invariant).0

pub loop-event-preserved : goal.loop-event-preserved
loop-event-preserved g c = put-more g.P.Pkt.plain c.args.events.now.items c.args.pending.now _ c.pop.new.self.items c.loop-event.pending
    c.in-Some.event c.in-Some.ensures.items c.loop-event.invariant c.push.new.self c.in_ok-push.ensures.ok

pub returns-clause-pending : goal.returns-clause-pending
returns-clause-pending g c = put-last g.P.Pkt.plain c.args.events.now.items c.args.pending.now c.loop-event.events.items c.loop-event.pending
    (none-left c.loop-event.events.items (λ more. c.in_default.ensures.variant.1 (omega (arith, c.loop-event.events.ok.0)))) c.loop-event.invariant
