use Rattle.std.proofs.Common.{◌++◌, ap, sym, ◌∙◌}
use Rattle.std.proofs.lemmas.List.{append-nil}
use Rattle.scenario_form.proofs.EndsPast.{ends_from_past}
use Rattle.scenario_form.proofs.interface.add_ends.Goals as goal

pub returns-then-addresses-number : goal.returns-then-addresses-number
returns-then-addresses-number c =
    sym (append-nil c.loop-number.ends.items)
    ∙ ap (λ x. c.loop-number.ends.items ++ x) (sym (ends_from_past c.args.index c.args.prefix c.args.members.now c.args.addresses.now c.loop-number.number c.if-addresses-number.true))
    ∙ c.loop-number.invariant
