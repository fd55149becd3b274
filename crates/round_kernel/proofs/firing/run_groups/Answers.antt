use Rattle.std.proofs.Common.{rules, of_calls, ap, subst}
use Rattle.lp_run.specs.Lp.{IsWellLp}
use Rattle.row_work.specs.Made.{AreMade}
use Rattle.row_work.proofs.MadeLaws.{made-so}
use Rattle.round_kernel.specs.Window.{HasGone}
use Rattle.round_kernel.proofs.TurnLaws.{well-there}
use Rattle.round_kernel.proofs.firing.run_groups.Goals as goal

pub work_all-requires-clause-accepts : goal.work_all-requires-clause-accepts
work_all-requires-clause-accepts g c κs within i group low is =
    let well : IsWellLp group.now.0 =
    well-there c.args.groups.now.items c.replace-drawn.result.items i group.now (ap (λ v. v.items) c.replace-drawn.ensures.value) c.requires.well low is in
    let end = c.requires.end in
    search (rules, of_calls)

pub returns : goal.returns
returns g c =
    subst (λ l. AreMade (λ _ old new. HasGone c.args.end.0 old.0 new.0 new.1) l c.in_ok-groups.field-0.items) (ap (λ v. v.items) c.replace-drawn.ensures.value)
    (made-so _ _ c.in_ok-groups.ensures
    (λ n from item changes.
    subst (λ x. HasGone c.args.end.0 x.0 item.0 item.1) changes.argument_is
    (subst (λ y. HasGone c.args.end.0 changes.argument.now.0 y.0 y.1) changes.left (let call = changes.call in search (rules, of_calls)))))
