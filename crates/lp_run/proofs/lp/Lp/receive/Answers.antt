use Rattle.std.proofs.Common.{◌∙◌, ap, sym, subst, List}
use Rattle.sim_base.specs.KeyOrder.{insert_by}
use Rattle.sim_base.specs.Packet.{Packet}
use Rattle.round_core.specs.World.{Event}
use Rattle.node_step.specs.declared.loads.Load.{Load}
use Rattle.node_rules.specs.Worlds.{event_of}
use Rattle.node_step.specs.Loads.{plain_event, plain_load}
use Rattle.lp_run.specs.Lp.{PlainLp}
use Rattle.lp_run.specs.Pending.{HasNoKey}
use Rattle.lp_run.proofs.QueueLaws.{insert-seen, new-seen}
use Rattle.lp_run.proofs.Seen.{held, seen_lp}
use Rattle.lp_run.proofs.lp.Lp.receive.Goals as goal

pub push-requires : goal.push-requires
push-requires g c = new-seen (plain_load g.P.Pkt.plain) c.args.ev.key c.self.inside.pending
    (subst (λ (x : PlainLp). HasNoKey c.args.ev.key x.pending) (sym c.self.view_is) c.requires)

pub returns-clause-ok : goal.returns-clause-ok
returns-clause-ok g c =
    let before : PlainLp = seen_lp g.P.Pkt.plain c.self.inside.part c.self.inside.pending c.self.inside.sends.items c.self.inside.effects.lines.items c.self.inside.fired in
    ap (λ (pending : List (Event (Load Packet))). record before { pending = pending })
    (ap (held g.P.Pkt.plain) c.in_ok-push.ensures.ok ∙ insert-seen (plain_load g.P.Pkt.plain) (c.args.ev.key, c.args.ev.load) c.self.inside.pending)
    ∙ ap (λ (x : PlainLp). record x { pending = insert_by (λ e. e.key) (event_of (plain_event g.P.Pkt.plain c.args.ev)) x.pending }) c.self.view_is
