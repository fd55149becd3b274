use Rattle.sim_run.proofs.CaptureLaws.{captures-apart}
use Rattle.sim_run.proofs.captures.captures_of.Goals as goal

pub returns-clause-apart : goal.returns-clause-apart
returns-clause-apart c = rw c.loop-node.invariant.captures (captures-apart c.args.scenario.now c.loop-node.node)
