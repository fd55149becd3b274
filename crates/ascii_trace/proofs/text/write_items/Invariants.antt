use Rattle.std.proofs.Common.{◌≡◌, ◌++◌, take}
use Rattle.ascii_trace.specs.Text.{items_text}
use Rattle.ascii_trace.proofs.text.write_items.Given as goal

abbrev pub invariant-loop-item : goal.invariant-loop-item
invariant-loop-item l = l.out.items ≡ l.initial.out.items ++ items_text (take l.item-index l.items)
