use Rattle.std.proofs.Common.{◌∙◌, List, ap, fold, get_or, length, None, arith}
use Rattle.std.proofs.lemmas.List.{take_all}
use Rattle.lp_run.specs.Lp.{PlainLp}
use Rattle.lp_run.specs.Pending.{first_key}
use Rattle.round_kernel.specs.Window.{Gone, sooner_of}
use Rattle.round_kernel.proofs.LoopLaws.{fold-more}
use Rattle.round_kernel.proofs.window.first_time.Goals as goal

pub loop-group-preserved : goal.loop-group-preserved
loop-group-preserved g c =
    let l = ap length c.deref-group-items.ensures.value in
    let below = c.loop-group-test.true in
    let is = c.group-item.is ∙ ap (λ (groups : List Gone). get_or groups c.loop-group.group-index c.group-item.result) c.deref-group-items.ensures.value in
    fold-more c.args.groups.now.items c.loop-group.group-index c.group-item.result (omega arith) is
    (λ least group. sooner_of least (first_key group.0.pending)) None c.loop-group.least c.with_first-least.result c.loop-group.invariant
    (c.with_first-least.ensures ∙ ap (sooner_of c.loop-group.least) (c.least.ensures ∙ ap (λ (lp : PlainLp). first_key lp.pending) c.lp.ensures))

pub returns : goal.returns
returns g c = c.loop-group.invariant
    ∙ ap (λ (groups : List Gone). fold (λ least group. sooner_of least (first_key group.0.pending)) None groups)
    (take_all c.loop-group.group-index c.args.groups.now.items
    (let past = c.loop-group-test.false in let l = ap length c.deref-group-items.ensures.value in omega arith))
