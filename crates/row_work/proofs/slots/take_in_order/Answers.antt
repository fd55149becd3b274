use Rattle.std.proofs.Common.{rules}
use Rattle.row_work.proofs.SlotLaws.{taken-last, taken-next, taken-step}
use Rattle.row_work.proofs.slots.take_in_order.Goals as goal

pub take_slot-item-requires : goal.take_slot-item-requires
take_slot-item-requires g c =
    taken-next c.args.order.now c.args.slots.now.items c.requires.order c.loop-at.slots.items c.loop-at.drawn.items c.loop-at.at _ c.requires.full
    c.loop-at.invariant.taken c.number_at.ensures

pub loop-at-preserved : goal.loop-at-preserved
loop-at-preserved g c = record {
  taken = taken-step c.args.order.now c.args.slots.now.items c.requires.order c.loop-at.slots.items c.take_slot-item.new.slots.items c.loop-at.drawn.items
      c.push_reserved.new.self.items c.loop-at.at _ c.take_slot-item.result c.loop-at.invariant.taken c.number_at.ensures c.take_slot-item.ensures.item
      c.take_slot-item.ensures.rest c.push_reserved.ensures.items;
  room = search rules;
}

pub returns-clause-drawn : goal.returns-clause-drawn
returns-clause-drawn g c =
    taken-last c.args.order.now c.args.slots.now.items c.requires.order c.loop-at.slots.items c.loop-at.drawn.items c.loop-at.at (search rules)
    c.loop-at.invariant.taken
