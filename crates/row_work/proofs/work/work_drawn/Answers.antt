use Rattle.std.proofs.Common.{◌≡◌, length, ap, ◌∙◌, arith}
use Rattle.row_work.proofs.OrderLaws.{numbers-length}
use Rattle.row_work.proofs.RowLaws.{accepts-row, all-worked, fill-full, fill-length}
use Rattle.row_work.proofs.SlotLaws.{back-filled}
use Rattle.row_work.proofs.work.work_drawn.Goals as goal

pub take_in_order-requires-clause-full : goal.take_in_order-requires-clause-full
take_in_order-requires-clause-full g c = fill-full c.args.items.items c.fill_slots.new.slots.items c.fill_slots.ensures.slots

pub take_in_order-requires-clause-room : goal.take_in_order-requires-clause-room
take_in_order-requires-clause-room g c =
    let long = numbers-length (length c.args.items.items) c.args.order.now c.requires.order in
    let room = c.in_ok-drawn.ensures.capacity in
    let l = c.len-2.ensures in omega (arith, c.args.items.ok.0)

pub make-requires-clause-short : goal.make-requires-clause-short
make-requires-clause-short g c =
    let long = numbers-length (length c.args.items.items) c.args.order.now c.requires.order in
    let all = c.take_in_order.ensures.all in
    let short = c.requires.short in omega (arith, c.args.items.ok.0, c.take_in_order.new.drawn.ok.0)

pub draw_and_close-made-requires-clause-accepts : goal.draw_and_close-made-requires-clause-accepts
draw_and_close-made-requires-clause-accepts g c κs within =
    accepts-row c.args.items.items c.fill_slots.new.slots.items c.fill_slots.ensures.slots g.F.Fn c.args.work.now c.args.order.now
    c.take_in_order.new.drawn.items c.in-Ok.row.items c.requires.order c.take_in_order.ensures.drawn c.in-Ok.ensures.items c.requires.accepts

pub empty_slots-requires-clause-full : goal.empty_slots-requires-clause-full
empty_slots-requires-clause-full g c =
    let filled = fill-length c.args.items.items c.fill_slots.new.slots.items c.fill_slots.ensures.slots in
    let long = numbers-length (length c.args.items.items) c.args.order.now c.requires.order in
    let all = c.take_in_order.ensures.all in
    let laid : length c.in-Ok.row.items ≡ length c.take_in_order.new.drawn.items = ap length c.in-Ok.ensures.items in
    let made = c.draw_and_close-made.ensures.count in
    let slots = c.take_in_order.ensures.slots in
    let back = c.put_back.ensures.all in
    back-filled (length c.args.items.items) c.args.order.now c.draw_and_close-made.result.items c.put_back.new.slots.items c.requires.order (omega arith)
    (omega arith) c.put_back.ensures.slots

pub returns-in-Ok : goal.returns-in-Ok
returns-in-Ok g c =
    all-worked c.args.items.items c.fill_slots.new.slots.items c.fill_slots.ensures.slots g.F.Fn c.args.work.now c.args.order.now
    c.take_in_order.new.drawn.items c.in-Ok.row.items c.requires.order c.take_in_order.ensures.drawn c.in-Ok.ensures.items
    c.draw_and_close-made.result.items c.put_back.new.slots.items c.empty_slots.new.items.items c.draw_and_close-made.ensures c.put_back.ensures.slots
    (c.put_back.ensures.all ∙ c.take_in_order.ensures.slots) c.empty_slots.ensures
