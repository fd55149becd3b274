use Rattle.std.proofs.Common.{◌∙◌, None, Some, arith}
use Rattle.std.proofs.lemmas.Str.Pattern.{split_once_first, split_parts}
use Rattle.command_words.proofs.WordLaws.{no-equals, part-any, setting-at}
use Rattle.command_words.proofs.setting.with_setting.Goals as goal

pub returns-in-None : goal.returns-in-None
returns-in-None c = no-equals c.args.verb c.args.given c.args.word.now (split_parts 61 c.args.word.now None c.in-None.ensures.cases (omega arith))

pub returns-in-Some : goal.returns-in-Some
returns-in-Some c =
    let word = c.args.word.now in
    let first = split_once_first 61 word (Some (c.in-Some.name, c.in-Some.text)) c.in-Some.ensures.cases (omega arith) in
    let parts = split_parts 61 word (Some (c.in-Some.name, c.in-Some.text)) c.in-Some.ensures.cases (omega arith) in
    c.with_key.ensures
    ∙ setting-at c.args.verb c.args.given word c.in-Some.name.now c.in-Some.text.now c.key_of.result c.key_of.ensures first.1 first.2
    (part-any 61 word c.in-Some.name.now c.in-Some.text.now parts.0)
