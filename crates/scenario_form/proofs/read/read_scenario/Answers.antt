use Rattle.scenario_form.proofs.Within.{accepted, accepted-groups}
use Rattle.scenario_form.proofs.read.read_scenario.Goals as goal

pub returns-in-Ok-clause-accepted : goal.returns-in-Ok-clause-accepted
returns-in-Ok-clause-accepted c = accepted c.args.bytes.now c.in-Ok.scenario c.in-Ok.ensures.value

pub returns-in-Ok-clause-cut : goal.returns-in-Ok-clause-cut
returns-in-Ok-clause-cut c = accepted-groups c.args.bytes.now c.in-Ok.scenario c.in-Ok.ensures.value
