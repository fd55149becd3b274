use Rattle.std.proofs.Common.{ℕ, List, fold, get_or, map, take}
use Rattle.partition_cut.specs.AutoCut.{joined}
use Rattle.partition_cut.specs.Forest.{AreParents, LeadTo}
use Rattle.partition_cut.proofs.automatic.join_lan.Given as goal

-- the members so far are joined to the first
abbrev pub invariant-loop-member : goal.invariant-loop-member
invariant-loop-member l = AreParents l.parents × ((labels : List ℕ) → LeadTo l.initial.parents labels →
    LeadTo l.parents (fold joined labels (map (λ node. (get_or l.lan 0 0, node)) (take l.member-index l.lan))))
