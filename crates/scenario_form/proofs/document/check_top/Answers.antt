use Rattle.std.proofs.Common.{ap, sym, ◌∙◌}
use Rattle.toml.specs.View.{table_view}
use Rattle.scenario_form.specs.Rows.{top_rows, table_check}
use Rattle.scenario_form.proofs.Counted.{counted}
use Rattle.scenario_form.proofs.document.check_top.Goals as goal

pub returns-in-Ok-clause-counted : goal.returns-in-Ok-clause-counted
returns-in-Ok-clause-counted c =
    let t = table_view c.args.document.now in
    counted t
    (ap (λ n. table_check n top_rows t) (sym c.nodes_of.ensures) ∙ ap (λ r. table_check c.nodes_of.result r t) (sym c.top_fields.ensures) ∙ sym c.in-Ok.ensures)
