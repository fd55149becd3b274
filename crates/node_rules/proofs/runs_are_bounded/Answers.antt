use Rattle.node_rules.proofs.RuleLaws.{bounded}
use Rattle.node_rules.proofs.runs_are_bounded.Goals as goal

pub returns : goal.returns
returns c limit shape = bounded limit shape
