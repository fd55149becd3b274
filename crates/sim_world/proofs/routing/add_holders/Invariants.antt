use Rattle.std.proofs.Common.{◌≡◌, ℕ, List, ◌++◌, take}
use Rattle.std.specs.Ordering.{nat_cmp}
use Rattle.std.specs.BTreeMap.{get}
use Rattle.sim_world.specs.declared.ends.End.{End}
use Rattle.sim_world.specs.Routing.{holder_of}
use Rattle.sim_world.proofs.routing.add_holders.Given as goal

-- the first of the interfaces so far, behind those before
abbrev pub invariant-loop-end : goal.invariant-loop-end
invariant-loop-end l =
    (before : List End) → ((addr : ℕ) → get nat_cmp l.fn.holders addr ≡ holder_of before addr)
    → (addr : ℕ) → get nat_cmp l.holders addr ≡ holder_of (before ++ take l.end-index l.ends) addr
