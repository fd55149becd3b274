use Rattle.std.proofs.Common.{arith}
use Rattle.sim_base.specs.ByteTags.{moved_up}
use Rattle.sim_base.proofs.ListLaws.{map_in_place}
use Rattle.sim_base.proofs.tags.ByteTag.shift_all.Goals as goal

pub loop-tag-preserved : goal.loop-tag-preserved
loop-tag-preserved c =
    rw c.moved_up.ensures (map_in_place (moved_up c.args.n) c.args.tags.now c.loop-tag.tags c.loop-tag.tag-index _ (omega arith) (omega arith) c.loop-tag.invariant)
