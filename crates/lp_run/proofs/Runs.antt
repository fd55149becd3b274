-- The steps of the loop of a group's firings.
use Rattle.std.proofs.Common.{◌≡◌, ℕ, ◌<◌, Bool, true, false, sym, ap, ◌∙◌, None, subst}
use Rattle.sim_base.specs.Packet.{Packet}
use Rattle.csma_dev.specs.declared.bus.Bus.{Bus}
use Rattle.round_core.specs.Parts.{Part, part_firings}
use Rattle.round_core.specs.Rounds.{below}
use Rattle.round_core.specs.World.{first}
use Rattle.round_core.proofs.Plain.{next-none}
use Rattle.node_step.specs.declared.loads.Load.{Load}
use Rattle.node_step.specs.Firing.{Text}
use Rattle.node_step.specs.Node.{PlainNode}
use Rattle.node_rules.specs.Rules.{rules}
use Rattle.node_rules.specs.Shape.{Shape}
use Rattle.node_rules.proofs.RuleLaws.{bounded, lawful}
use Rattle.lp_run.specs.declared.stop.LpStop.{LpStop}
use Rattle.lp_run.specs.declared.stop.LpStop.TheVariants.{NoMemory, Limit}
use Rattle.lp_run.specs.Lp.{PlainLp, HasRun, HasRunIn, HasStopped, IsRefused, IsStep, IsWellIn, IsWellLp, own_group, part_of}
use Rattle.lp_run.proofs.Loop.{Runs, RunsIn, firings_left, less-more, runs-last, runs-more}

module _ (shape : Shape) (end : ℕ) (old now : PlainLp) (runs : RunsIn shape end old now) where
  abbrev pub left : Part PlainNode Bus (Load Packet) Text
  left = part_firings (rules old.part.limit shape) (own_group old.part) 0 end runs.steps (part_of old)

  pub same_pending : left.world.pending ≡ now.pending
  same_pending = ap (λ (p : Part PlainNode Bus (Load Packet) Text). p.world.pending) (sym runs.fired.part)

  pub rests : first (below end) now.pending ≡ None → HasRunIn shape end old now
  rests none = record {
    left = left;
    runs = runs-last lawful bounded shape end old now runs (next-none (rules now.part.limit shape) (below end) (part_of now).world none);
    none = ap (first (below end)) same_pending ∙ none;
    fired = runs.fired;
  }

module _ (end : ℕ) (old now new : PlainLp) (runs : Runs end old now) where
  pub loop-more : (more : Bool) → more ≡ true → IsStep end now new more → Runs end old new
  loop-more more is step shape well =
      let run = runs shape well in
      let s = (subst (IsStep end now new) is step) shape run.well in
      runs-more lawful bounded shape end old now new s.0 run s.1 s.2

  pub loop-less : (more : Bool) → IsWellLp old → more ≡ true → IsStep end now new more → firings_left new < firings_left now
  loop-less more well is step =
      let run = runs well.0 well.1 in
      let s = (subst (IsStep end now new) is step) well.0 run.well in
      less-more lawful bounded well.0 end now new s.0 run.well s.1 s.2

  -- the group is still well
  pub loop-now : IsWellLp old → IsWellLp now
  loop-now well = (well.0, (runs well.0 well.1).well)

  pub loop-idle : (more : Bool) → more ≡ false → IsStep end now new more → HasRun end old new
  loop-idle more is step = let s = subst (IsStep end now new) is step in
      subst (HasRun end old) (sym s.1) (λ shape well. rests shape end old now (runs shape well) s.0)

  pub loop-well : (more : Bool) → IsWellLp old → more ≡ false → IsStep end now new more → IsWellLp new
  loop-well more well is step = let s = subst (IsStep end now new) is step in subst IsWellLp (sym s.1) (loop-now well)

  pub loop-stopped : (stop : LpStop) → IsRefused end now new stop → HasStopped end old new stop
  loop-stopped NoMemory h = tt
  loop-stopped (Limit key node) h = λ shape well.
      let run = runs shape well in (
        left shape end old now run,
        h.0,
        runs-last lawful bounded shape end old now run (h.4 shape run.well),
        ap (first (below end)) (same_pending shape end old now run) ∙ h.1,
        h.2,
        h.3,
        h.5 ∙ run.fired.lines,
      )
