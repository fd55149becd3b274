use Rattle.std.proofs.Common.{◌≡◌, ℕ, List, ◌++◌, length, take}
use Rattle.sim_world.specs.declared.ends.End.{End}
use Rattle.sim_world.specs.Lans.{members_of}
use Rattle.sim_world.proofs.lans.add_members.Given as goal

-- the members so far
abbrev pub invariant-loop-end : goal.invariant-loop-end
invariant-loop-end l = record {
  members : (lans : ℕ) (before : List End) → l.fn.members.items ≡ members_of lans before → l.members.items ≡ members_of lans (before ++ take l.end-index l.ends);
  count : length l.members.items ≡ length l.fn.members.items;
}
