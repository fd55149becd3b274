use Rattle.std.proofs.Common.{arith}
use Rattle.sim_base.specs.ByteTags.{part_within}
use Rattle.sim_base.proofs.ListLaws.{map_in_place}
use Rattle.sim_base.proofs.tags.ByteTag.part_all.Goals as goal

pub loop-tag-preserved : goal.loop-tag-preserved
loop-tag-preserved c =
    rw c.part_within.ensures (map_in_place (part_within c.args.from c.args.to) c.args.tags.now c.loop-tag.tags c.loop-tag.tag-index _ (omega arith) (omega arith) c.loop-tag.invariant)
