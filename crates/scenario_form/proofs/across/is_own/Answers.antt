use Rattle.std.proofs.Common.{Some, None, sym, ◌∙◌}
use Rattle.scenario_form.proofs.FoundLaws.{own_is}
use Rattle.scenario_form.proofs.across.is_own.Goals as goal

pub returns-in-None : goal.returns-in-None
returns-in-None c = sym (own_is c.args.ends.now c.args.node c.args.address None c.requires.once (c.in-None.ensures.value ∙ c.requires.found c.args.address))

pub returns-in-Some : goal.returns-in-Some
returns-in-Some c = sym (own_is c.args.ends.now c.args.node c.args.address (Some c.in-Some.end.now) c.requires.once (c.in-Some.ensures.value ∙ c.requires.found c.args.address))
