use Rattle.std.proofs.Common.{◌≡◌, Some, length, slice_get, subst, arith}
use Rattle.row_work.proofs.OrderLaws.{within}
use Rattle.row_work.proofs.SlotLaws.{put-step}
use Rattle.row_work.proofs.slots.put_back.Goals as goal

pub put_slot-requires : goal.put_slot-requires
put_slot-requires g c =
    let low = within (length c.args.slots.now.items) c.args.order.now c.requires.order c.len.result c.number_at.result c.number_at.ensures in
    let same = c.loop-item.invariant.count in omega arith

pub loop-item-preserved : goal.loop-item-preserved
loop-item-preserved g c =
    let low = within (length c.args.slots.now.items) c.args.order.now c.requires.order c.len.result c.number_at.result c.number_at.ensures in
    let same = c.loop-item.invariant.count in
    put-step c.args.order.now c.args.drawn.now.items c.args.slots.now.items c.requires.order c.loop-item.drawn.items c.pop.new.self.items c.loop-item.slots.items
    c.put_slot.new.slots.items c.number_at.result c.in-Some.item c.loop-item.invariant c.in-Some.ensures.items
    (subst (λ n. slice_get c.args.order.now n ≡ Some c.number_at.result) (let l = c.len.ensures in omega (arith, c.pop.new.self.ok.0)) c.number_at.ensures)
    (omega arith) c.put_slot.ensures
