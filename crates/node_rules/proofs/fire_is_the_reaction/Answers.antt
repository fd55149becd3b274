use Rattle.node_rules.proofs.FireLaws.{all-pass, fire-none, fire-some}
use Rattle.node_rules.proofs.fire_is_the_reaction.Goals as goal

pub returns-clause-refuses : goal.returns-clause-refuses
returns-clause-refuses c shape part e node count well at = fire-none shape part e node count (all-pass shape e.key.node.0 node well) at

pub returns-clause-fires : goal.returns-clause-fires
returns-clause-fires c shape part e node f count well at fires =
    fire-some shape part e node count (all-pass shape e.key.node.0 node well) at f fires
