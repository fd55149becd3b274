use Rattle.std.proofs.Common.{rules, ◌≡◌, ◌<◌, ◌^◌, Some, map, length, sym, ap, subst, ◌∙◌}
use Rattle.std.specs.List.{flat_map}
use Rattle.std.specs.Option.{option_to_list}
use Rattle.work_claims.proofs.Draws.{begins}
use Rattle.work_claims.proofs.Dealing.{laid-back}
use Rattle.work_claims.proofs.row.Row.make.Goals as goal

pub new-requires : goal.new-requires
new-requires g c =
    let items = sym c.of.ensures in
    let short : length c.args.items.items < 2 ^ 31 = search rules in
    begins (record { items = c.of.result; passes = c.args.passes }) c.lay_out.new.slots.items
    (c.lay_out.ensures.slots ∙ ap (λ v. map Some v.items) items) (subst (λ v. length v.items < 2 ^ 31) items short) c.requires.some_pass c.requires.few_passes

pub returns-in-Err-clause-back : goal.returns-in-Err-clause-back
returns-in-Err-clause-back g c =
    let laid : c.in-Err.field-0.slots.items ≡ map Some c.args.items.items = search rules in
    c.bring_back.ensures ∙ ap (λ l. flat_map option_to_list l) laid ∙ laid-back c.args.items.items
