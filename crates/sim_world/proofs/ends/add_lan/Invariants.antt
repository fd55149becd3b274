use Rattle.std.proofs.Common.{◌≡◌, ℕ, ◌+◌, ◌≤◌, List, fold, length, take}
use Rattle.std.specs.Prelude.{All}
use Rattle.std.specs.List.{zip}
use Rattle.sim_world.specs.declared.ends.End.{End}
use Rattle.sim_world.specs.Grouping.{grouped}
use Rattle.sim_world.specs.Ends.{node_of, with_face}
use Rattle.sim_world.proofs.ends.add_lan.Given as goal

-- the faces of the members so far; and no node has got more than one by each
abbrev pub invariant-loop-i : goal.invariant-loop-i
invariant-loop-i l = record {
  faces : (nodes : ℕ) (before : List End) → l.fn.ends.items ≡ grouped node_of nodes before
      → l.ends.items ≡ grouped node_of nodes (fold (with_face l.network l.number) before (take l.i (zip l.lan.members l.lan.addrs)));
  count : length l.ends.items ≡ length l.fn.ends.items;
  few : All (λ there. length there ≤ 47800 + l.i) l.ends.items;
}
