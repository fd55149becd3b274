use Rattle.std.proofs.Common.{◌∙◌, ap, sym, subst, refl, List, map, true}
use Rattle.sim_base.specs.declared.key.Key.{Key}
use Rattle.round_core.specs.Rounds.{below}
use Rattle.round_core.specs.World.{first}
use Rattle.node_step.specs.declared.loads.Load.{Load}
use Rattle.pkt_face.specs.Seen.{plain_line}
use Rattle.node_step.specs.Loads.{plain_load}
use Rattle.lp_run.specs.Lp.{IsRefused, IsStep, IsWellLp, PlainLp, stop_at}
use Rattle.lp_run.specs.declared.stop.LpStop.{LpStop}
use Rattle.lp_run.proofs.Firing.{are-new, can-fire, refused, stepped}
use Rattle.lp_run.proofs.QueueLaws.{none-first}
use Rattle.lp_run.proofs.Seen.{held, seen_lp}
use Rattle.lp_run.proofs.lp.Lp.fire_below.Goals as goal

pub returns-in_default-clause-step : goal.returns-in_default-clause-step
returns-in_default-clause-step g c = (
  ap (λ (x : PlainLp). first (below c.args.end.0) x.pending) (sym c.self.view_is)
      ∙ none-first (plain_load g.P.Pkt.plain) c.args.end c.self.inside.pending c.in_default.ensures.none,
  ap (λ (now : List (Key × Load g.row.P.Denot)). seen_lp g.P.Pkt.plain c.self.inside.part now c.self.inside.sends.items c.self.inside.effects.lines.items c.self.inside.fired)
      c.in_default.ensures.unchanged ∙ c.self.view_is,
)

pub fire-requires-after_bounds : goal.fire-requires-after_bounds
fire-requires-after_bounds g c κs within =
    can-fire g.P.Pkt.plain c.args.end.0 _ (subst IsWellLp (sym c.self.view_is) c.requires.well) c.in-Some.key c.in-Some.load c.pop_below.new.self
    (ap (held g.P.Pkt.plain) c.in-Some.ensures.some) c.in-Some.ensures.below c.requires.end

pub returns-in-Err-clause-stop : goal.returns-in-Err-clause-stop
returns-in-Err-clause-stop g c =
    let after : PlainLp = seen_lp g.P.Pkt.plain c.fire.new.self c.pop_below.new.self c.self.inside.sends.items c.fire.new.out.lines.items c.self.inside.fired in
    subst (λ (stop : LpStop). IsRefused c.args.end.0 c.args.self.now after stop) (sym c.at.ensures)
    (subst (λ (x : PlainLp). IsRefused c.args.end.0 x after (stop_at c.in-Some.key c.in-Err.stop)) c.self.view_is
    (refused g.P.Pkt.plain c.args.end.0 _ (subst IsWellLp (sym c.self.view_is) c.requires.well) c.in-Some.key c.in-Some.load c.pop_below.new.self
    (ap (held g.P.Pkt.plain) c.in-Some.ensures.some) c.in-Some.ensures.below
    c.in-Err.stop after c.in-Err.ensures.limit (ap (map (plain_line g.P.Pkt.plain)) c.in-Err.ensures.err.1)))

pub hand_out-handed-requires-clause-new : goal.hand_out-handed-requires-clause-new
hand_out-handed-requires-clause-new g c κs within =
    are-new g.P.Pkt.plain c.args.end.0 _ (subst IsWellLp (sym c.self.view_is) c.requires.well) c.in-Some.key c.in-Some.load c.pop_below.new.self
    (ap (held g.P.Pkt.plain) c.in-Some.ensures.some) c.in-Some.ensures.below
    c.fire.new.self c.self.inside.effects.sends.items c.fire.new.out.sends.items c.self.inside.effects.lines.items c.fire.new.out.lines.items
    c.self.invariant refl c.in_default-fire.ensures.ok

pub returns-clause-step : goal.returns-clause-step
returns-clause-step g c =
    let after : PlainLp = seen_lp g.P.Pkt.plain c.fire.new.self c.hand_out-handed.new.pending c.hand_out-handed.new.sends.items
    c.fire.new.out.lines.items c.saturating_add-self-inside.result in
    subst (λ (x : PlainLp). IsStep c.args.end.0 x after true) c.self.view_is
    (stepped g.P.Pkt.plain c.args.end.0 _ (subst IsWellLp (sym c.self.view_is) c.requires.well) c.in-Some.key c.in-Some.load c.pop_below.new.self
    (ap (held g.P.Pkt.plain) c.in-Some.ensures.some) c.in-Some.ensures.below
    c.fire.new.self c.self.inside.effects.sends.items c.fire.new.out.sends.items c.self.inside.effects.lines.items c.fire.new.out.lines.items
    c.self.invariant refl c.in_default-fire.ensures.ok
    after refl c.in_ok-handed.ensures.pending c.in_ok-handed.ensures.sends refl c.saturating_add-self-inside.ensures)
