use Rattle.lp_run.proofs.Loop.{runs-first}
use Rattle.lp_run.proofs.Runs.{loop-idle, loop-less, loop-more, loop-now, loop-stopped, loop-well}
use Rattle.lp_run.proofs.lp.Lp.run_below.Goals as goal

pub firings-init : goal.firings-init
firings-init g c shape well = runs-first shape c.args.end.0 c.args.self.now well

pub fire_below-requires-clause-well : goal.fire_below-requires-clause-well
fire_below-requires-clause-well g c κs within =
    loop-now c.args.end.0 c.args.self.now c.firings.self c.firings.self c.firings.invariant c.requires.well

pub firings-smaller : goal.firings-smaller
firings-smaller g c = loop-less c.args.end.0 c.args.self.now c.firings.self c.fire_below.new.self c.firings.invariant
    c.in-Ok-true.field-0 c.requires.well c.in-Ok-true.field-0-test c.in-Ok-true.ensures.step

pub firings-preserved : goal.firings-preserved
firings-preserved g c = loop-more c.args.end.0 c.args.self.now c.firings.self c.fire_below.new.self c.firings.invariant
    c.in-Ok-true.field-0 c.in-Ok-true.field-0-test c.in-Ok-true.ensures.step

pub returns-in-Ok-false-clause-run : goal.returns-in-Ok-false-clause-run
returns-in-Ok-false-clause-run g c = loop-idle c.args.end.0 c.args.self.now c.firings.self c.fire_below.new.self c.firings.invariant
    c.in-Ok-false.field-0 c.in-Ok-false.field-0-test c.in-Ok-false.ensures.step

pub returns-in-Ok-false-clause-well : goal.returns-in-Ok-false-clause-well
returns-in-Ok-false-clause-well g c = loop-well c.args.end.0 c.args.self.now c.firings.self c.fire_below.new.self c.firings.invariant
    c.in-Ok-false.field-0 c.requires.well c.in-Ok-false.field-0-test c.in-Ok-false.ensures.step

pub returns-in-Err-clause-stop : goal.returns-in-Err-clause-stop
returns-in-Err-clause-stop g c = loop-stopped c.args.end.0 c.args.self.now c.firings.self c.fire_below.new.self c.firings.invariant
    c.in-Err.stop c.in-Err.ensures.stop
