use Rattle.std.proofs.Common.{rules}
use Rattle.std.proofs.lemmas.Fn.{filter_same}
use Rattle.sim_base.specs.KeyOrder.{before}
use Rattle.test_rounds.proofs.rounds.before_limit.Goals as goal

pub returns : goal.returns
returns c = filter_same _ (λ token. before token.key c.args.limit.now) _ (λ x b f' k. search rules) _ _ c.retain.ensures.filtered
