use Rattle.model_tokens.proofs.PlainLaws.{plain-runs}
use Rattle.model_tokens.specs.TokenParts.{part_of}
use Rattle.model_tokens.proofs.run_plain.Goals as goal

pub returns-clause-run : goal.returns-clause-run
returns-clause-run c = plain-runs c.args.net.now (part_of c.args.world.now) (part_of c.run_below.new.self) c.in_ok-limit.ensures.runs
