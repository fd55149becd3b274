use Rattle.std.proofs.Common.{◌+◌, arith, ◌∙◌}
use Rattle.std.proofs.lemmas.List.{drop-set-lt}
use Rattle.std.proofs.lemmas.Grind.{drop_more_same}
use Rattle.sim_base.proofs.ItemLaws.{IsLeft-rest, cut_each_in_place}
use Rattle.sim_base.proofs.item.Item.cut_all.Goals as goal

pub cut-requires : goal.cut-requires
cut-requires c =
    IsLeft-rest c.args.items.now c.loop-item.items c.loop-item.item-index _ c.loop-item.invariant.rest (omega arith) c.requires

pub loop-item-preserved : goal.loop-item-preserved
loop-item-preserved c =
    let i = c.loop-item.item-index in
    record {
      parts =
          rw (c.saturating_sub-from.ensures, c.saturating_sub-to.ensures, c.left-left.ensures, c.cut.ensures)
          (cut_each_in_place c.loop-item.from c.loop-item.to c.loop-item.items _ i _ (omega arith) c.loop-item.invariant.parts);
      rest =
          drop-set-lt (i + 1) c.loop-item.items i c.cut.result (omega arith)
          ∙ drop_more_same c.loop-item.items c.args.items.now i c.loop-item.invariant.rest;
    }
