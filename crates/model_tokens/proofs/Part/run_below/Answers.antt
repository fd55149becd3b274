use Rattle.std.proofs.Common.{◌∙◌, refl}
use Rattle.model_tokens.proofs.RunLaws.{runs-first, loop-more, loop-less, loop-idle}
use Rattle.model_tokens.specs.Tokens.{group_of}
use Rattle.model_tokens.specs.TokenParts.{part_of}
use Rattle.model_tokens.proofs.Part.run_below.Goals as goal

pub firings-init : goal.firings-init
firings-init c = record {
  runs = runs-first c.args.net.now c.requires.well (group_of c.args.groups.now) c.args.group c.args.end (part_of c.args.self.now) c.requires.sound;
  nodes = refl;
}

pub firings-smaller : goal.firings-smaller
firings-smaller c = loop-less c.args.net.now c.requires.well (group_of c.args.groups.now) c.args.group c.args.end (part_of c.args.self.now)
    (part_of c.firings.self) (part_of c.fire_first.new.self) c.in_ok-fire_first.field-0 c.firings.invariant.runs c.in_ok-fire_first.ensures.step c.in-Fired.is

pub firings-preserved : goal.firings-preserved
firings-preserved c = record {
  runs = loop-more c.args.net.now c.requires.well (group_of c.args.groups.now) c.args.group c.args.end (part_of c.args.self.now)
      (part_of c.firings.self) (part_of c.fire_first.new.self) c.in_ok-fire_first.field-0 c.firings.invariant.runs c.in_ok-fire_first.ensures.step c.in-Fired.is;
  nodes = c.in_ok-fire_first.ensures.nodes ∙ c.firings.invariant.nodes;
}

pub returns-in-Idle-clause-runs : goal.returns-in-Idle-clause-runs
returns-in-Idle-clause-runs c = loop-idle c.args.net.now c.requires.well (group_of c.args.groups.now) c.args.group c.args.end (part_of c.args.self.now)
    (part_of c.firings.self) (part_of c.fire_first.new.self) c.in_ok-fire_first.field-0 c.firings.invariant.runs c.in_ok-fire_first.ensures.step c.in-Idle.is
