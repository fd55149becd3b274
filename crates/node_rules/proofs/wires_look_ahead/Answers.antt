use Rattle.node_rules.proofs.RuleLaws.{ahead}
use Rattle.node_rules.proofs.wires_look_ahead.Goals as goal

pub returns : goal.returns
returns c limit shape group_of lookahead positive cut = ahead limit shape group_of lookahead positive cut
