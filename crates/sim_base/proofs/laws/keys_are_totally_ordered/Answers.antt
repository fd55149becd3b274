use Rattle.sim_base.proofs.KeyLaws.{before-not_back, before-trans, before-total, time-before}
use Rattle.sim_base.proofs.laws.keys_are_totally_ordered.Goals as goal

pub returns-clause-one_way : goal.returns-clause-one_way
returns-clause-one_way c = before-not_back

pub returns-clause-through : goal.returns-clause-through
returns-clause-through c = before-trans

pub returns-clause-total : goal.returns-clause-total
returns-clause-total c = before-total

pub returns-clause-time_first : goal.returns-clause-time_first
returns-clause-time_first c = time-before
