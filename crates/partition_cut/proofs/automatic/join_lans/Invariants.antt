use Rattle.std.proofs.Common.{ℕ, List, fold, flat_map, take}
use Rattle.partition_cut.specs.AutoCut.{joined, pairs_of_lan}
use Rattle.partition_cut.specs.Forest.{AreParents, LeadTo}
use Rattle.partition_cut.specs.Network.{node_lists}
use Rattle.partition_cut.proofs.automatic.join_lans.Given as goal

-- the LANs so far are joined
abbrev pub invariant-loop-lan : goal.invariant-loop-lan
invariant-loop-lan l = AreParents l.parents × ((labels : List ℕ) → LeadTo l.initial.parents labels →
    LeadTo l.parents (fold joined labels (flat_map pairs_of_lan (take l.lan-index (node_lists l.lans)))))
