use Rattle.std.proofs.Common.{◌∙◌}
use Rattle.sim_base.proofs.ListedLaws.{search-finds}
use Rattle.sim_base.proofs.loss.is_listed.Goals as goal

pub returns : goal.returns
returns c = c.is_ok.ensures.value ∙ search-finds c.args.numbers.now c.args.number c.binary_search.result c.requires c.binary_search.ensures.position
