use Rattle.std.proofs.lemmas.Str.{is_utf8-from_IsUtf8}
use Rattle.scenario_form.specs.Reading.{document_of}
use Rattle.scenario_form.proofs.Texts.{not_utf8}
use Rattle.scenario_form.proofs.read.document_of.Goals as goal

pub returns-in_default : goal.returns-in_default
unfolding document_of
returns-in_default c = rw (not_utf8 c.args.bytes.now c.in_default.ensures.cases.0)

pub returns-in-Ok-table_from_str : goal.returns-in-Ok-table_from_str
unfolding document_of
returns-in-Ok-table_from_str c =
    let text = c.in-Ok.ensures.cases in
    rw (is_utf8-from_IsUtf8 c.args.bytes.now text.1, ← text.0, c.in-Ok-table_from_str.ensures.ok)
