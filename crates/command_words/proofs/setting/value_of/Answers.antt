use Rattle.command_words.proofs.WordLaws.{number-parsed}
use Rattle.command_words.proofs.setting.value_of.Goals as goal

pub returns-in-Ok : goal.returns-in-Ok
returns-in-Ok c = rw c.in-Ok.is at (number-parsed c.args.text.now c.parse.result c.requires c.parse.ensures.value.0)

pub returns-in-Err : goal.returns-in-Err
returns-in-Err c = rw c.in-Err.is at (number-parsed c.args.text.now c.parse.result c.requires c.parse.ensures.value.0)
