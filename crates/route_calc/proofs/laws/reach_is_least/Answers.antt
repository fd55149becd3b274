use Rattle.route_calc.proofs.LeastLaws.{reach-least}
use Rattle.route_calc.proofs.laws.reach_is_least.Goals as goal

pub returns : goal.returns
returns c g node net reach its some is = reach-least g node net reach its some is
