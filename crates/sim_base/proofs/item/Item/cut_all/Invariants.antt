use Rattle.std.proofs.Common.{◌≡◌, ◌++◌, take, drop}
use Rattle.sim_base.specs.Items.{cut_each}
use Rattle.sim_base.proofs.item.Item.cut_all.Given as goal

abbrev pub invariant-loop-item : goal.invariant-loop-item
invariant-loop-item l = record {
  parts : take l.item-index l.items ++ cut_each l.from l.to (drop l.item-index l.items) ≡ cut_each l.fn.from l.fn.to l.fn.items;
  rest : drop l.item-index l.items ≡ drop l.item-index l.fn.items;
}
