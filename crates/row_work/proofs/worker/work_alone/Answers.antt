use Rattle.std.proofs.Common.{rules, length, refl, arith}
use Rattle.std.specs.Fork.{ChangesAt}
use Rattle.row_work.proofs.MadeLaws.{accepts-at}
use Rattle.row_work.proofs.OrderLaws.{along-last, along-step, along-there, within}
use Rattle.row_work.proofs.worker.work_alone.Goals as goal

pub index_mut-requires : goal.index_mut-requires
index_mut-requires g c =
    let low = within (length c.args.items.now.items) c.args.order.now c.requires.order c.loop-at.at c.number_at-place.result c.number_at-place.ensures in
    let same = c.loop-at.invariant.count in omega (arith, c.loop-at.items.ok.0)

pub work_at-requires : goal.work_at-requires
work_at-requires g c =
    accepts-at g.F.Fn c.args.work.now c.args.items.now.items c.number_at-place.result c.index_mut.result.now c.requires.accepts
    (along-there (ChangesAt g.F.Fn c.args.work.now) c.args.order.now c.args.items.now.items c.requires.order c.loop-at.items.items c.loop-at.at
    c.number_at-place.result c.index_mut.result.now _ c.loop-at.invariant c.number_at-place.ensures c.index_mut.ensures.value).1

pub loop-at-preserved : goal.loop-at-preserved
loop-at-preserved g c =
    along-step (ChangesAt g.F.Fn c.args.work.now) c.args.order.now c.args.items.now.items c.requires.order c.loop-at.items.items _ c.loop-at.at
    c.number_at-place.result c.index_mut.result.now c.work_at.new.item c.loop-at.invariant c.number_at-place.ensures
    (along-there (ChangesAt g.F.Fn c.args.work.now) c.args.order.now c.args.items.now.items c.requires.order c.loop-at.items.items c.loop-at.at
    c.number_at-place.result c.index_mut.result.now _ c.loop-at.invariant c.number_at-place.ensures c.index_mut.ensures.value).0
    c.work_at.ensures refl

pub returns : goal.returns
returns g c =
    along-last (ChangesAt g.F.Fn c.args.work.now) c.args.order.now c.args.items.now.items c.requires.order c.loop-at.items.items c.loop-at.at (search rules)
    c.loop-at.invariant
