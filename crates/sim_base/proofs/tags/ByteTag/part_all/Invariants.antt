use Rattle.std.proofs.Common.{◌≡◌, ◌++◌, take, drop}
use Rattle.sim_base.specs.ByteTags.{parts_within}
use Rattle.sim_base.proofs.tags.ByteTag.part_all.Given as goal

abbrev pub invariant-loop-tag : goal.invariant-loop-tag
invariant-loop-tag l = l.tags ≡ parts_within l.from l.to (take l.tag-index l.initial.tags) ++ drop l.tag-index l.initial.tags
