use Rattle.tcp_flow.specs.Conns.{step}
use Rattle.tcp_flow.specs.Life.{concerned}
use Rattle.delivered_prefix.proofs.Does.{step-does}
use Rattle.delivered_prefix.proofs.Numbered.{numbered}
use Rattle.delivered_prefix.proofs.Others.{others, in_order, nobodys, goes_on, begins}
use Rattle.delivered_prefix.proofs.law.inputs_concern_one_connection.Goals as goal

pub returns-clause-others : goal.returns-clause-others
returns-clause-others c t n input number order off =
    others t n input (step t n input) order number (concerned t input) (step-does t n input order) off

pub returns-clause-goes_on : goal.returns-clause-goes_on
returns-clause-goes_on c t n input number k order is found = goes_on t n input order number k is found

pub returns-clause-begins : goal.returns-clause-begins
returns-clause-begins c t n input number order is free = begins t n input order number is free

pub returns-clause-nobodys : goal.returns-clause-nobodys
returns-clause-nobodys c t n input order none = nobodys t n input (step t n input) order (concerned t input) (step-does t n input order) none

pub returns-clause-order : goal.returns-clause-order
returns-clause-order c t n input order = in_order t n input (step t n input) order (concerned t input) (step-does t n input order)

pub returns-clause-numbered : goal.returns-clause-numbered
returns-clause-numbered c t n input order all number k found = numbered t n input order all number k found
