use Rattle.std.proofs.Common.{◌∙◌, arith}
use Rattle.command_words.proofs.WordLaws.{number-within, too-great}
use Rattle.command_words.proofs.setting.digits_up_to.Goals as goal

pub returns-in-None : goal.returns-in-None
returns-in-None c = too-great c.args.most c.args.text.now (omega (arith, c.ranges.most)) c.in-None.ensures

pub returns-in-Some : goal.returns-in-Some
returns-in-Some c = c.bounded.ensures ∙ number-within c.args.most c.args.text.now c.in-Some.number c.requires c.in-Some.ensures
