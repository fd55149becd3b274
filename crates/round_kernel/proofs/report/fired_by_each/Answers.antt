use Rattle.std.proofs.Common.{◌∙◌, ◌++◌, List, [], ◌∷◌, ap, get_or, length, map, arith}
use Rattle.std.proofs.lemmas.List.{take_all}
use Rattle.lp_run.specs.Lp.{PlainLp}
use Rattle.round_kernel.specs.Window.{Gone}
use Rattle.round_kernel.proofs.LoopLaws.{map-more}
use Rattle.round_kernel.proofs.report.fired_by_each.Goals as goal

pub loop-group-preserved : goal.loop-group-preserved
loop-group-preserved g c =
    let l = ap length c.deref-group-items.ensures.value in
    let low = c.loop-group-test.true in
    map-more c.args.groups.now.items c.loop-group.group-index c.group-item.result (omega arith)
    (c.group-item.is ∙ ap (λ (groups : List Gone). get_or groups c.loop-group.group-index c.group-item.result) c.deref-group-items.ensures.value)
    (λ group. group.0.fired) c.loop-group.fired.items c.push.new.self.items c.loop-group.invariant
    (c.in_ok-push.ensures.items ∙ ap (λ n. c.loop-group.fired.items ++ n ∷ []) (c.fired.ensures ∙ ap (λ (lp : PlainLp). lp.fired) c.lp.ensures))

pub returns : goal.returns
returns g c = c.loop-group.invariant
    ∙ ap (λ (groups : List Gone). map (λ group. group.0.fired) groups) (take_all c.loop-group.group-index c.args.groups.now.items
    (let past = c.loop-group-test.false in let l = ap length c.deref-group-items.ensures.value in omega arith))
