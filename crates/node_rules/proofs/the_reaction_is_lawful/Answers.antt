use Rattle.node_rules.proofs.RuleLaws.{lawful}
use Rattle.node_rules.proofs.the_reaction_is_lawful.Goals as goal

pub returns : goal.returns
returns c limit shape = lawful limit shape
