use Rattle.std.proofs.Common.{◌∙◌, ◌≢◌, List, Option, ap, fold, get_or, length, None, Some, subst, arith}
use Rattle.std.proofs.lemmas.List.{take_all}
use Rattle.lp_run.specs.declared.stop.LpStop.{LpStop}
use Rattle.lp_run.specs.declared.stop.LpStop.TheVariants.{NoMemory}
use Rattle.round_kernel.specs.Stops.{with_stop}
use Rattle.round_kernel.specs.Window.{Gone}
use Rattle.round_kernel.proofs.LoopLaws.{facts-more, fold-more}
use Rattle.round_kernel.proofs.firing.first_stop.Goals as goal

pub loop-group-preserved : goal.loop-group-preserved
loop-group-preserved g c =
    let l = ap length c.deref-group-items.ensures.value in
    let below = c.loop-group-test.true in
    let is = c.group-item.is ∙ ap (λ (groups : List Gone). get_or groups c.loop-group.group-index c.group-item.result) c.deref-group-items.ensures.value in
    record {
      memory = facts-more c.args.groups.now.items c.loop-group.group-index c.group-item.result (omega arith) is (λ (group : Gone). group.1 ≢ Some NoMemory)
          c.loop-group.invariant.memory (subst (λ (stop : Option LpStop). stop ≢ Some NoMemory) c.stop.ensures c.in_ok-least.ensures.memory);
      least = fold-more c.args.groups.now.items c.loop-group.group-index c.group-item.result (omega arith) is (λ least group. with_stop least group.1) None
          c.loop-group.least c.in_ok-least.least c.loop-group.invariant.least (c.in_ok-least.ensures.least ∙ ap (with_stop c.loop-group.least) c.stop.ensures);
    }

pub returns-clause-memory : goal.returns-clause-memory
returns-clause-memory g c k d low = c.loop-group.invariant.memory k d
    (let past = c.loop-group-test.false in let l = ap length c.deref-group-items.ensures.value in omega arith)

pub returns-clause-least : goal.returns-clause-least
returns-clause-least g c = c.loop-group.invariant.least
    ∙ ap (λ (groups : List Gone). fold (λ least group. with_stop least group.1) None groups)
    (take_all c.loop-group.group-index c.args.groups.now.items
    (let past = c.loop-group-test.false in let l = ap length c.deref-group-items.ensures.value in omega arith))
