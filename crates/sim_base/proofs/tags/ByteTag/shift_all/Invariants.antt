use Rattle.std.proofs.Common.{◌≡◌, ◌++◌, take, drop}
use Rattle.sim_base.specs.ByteTags.{shift}
use Rattle.sim_base.proofs.tags.ByteTag.shift_all.Given as goal

abbrev pub invariant-loop-tag : goal.invariant-loop-tag
invariant-loop-tag l = l.tags ≡ shift l.n (take l.tag-index l.initial.tags) ++ drop l.tag-index l.initial.tags
