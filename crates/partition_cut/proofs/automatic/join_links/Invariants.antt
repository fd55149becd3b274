use Rattle.std.proofs.Common.{ℕ, List, fold, take}
use Rattle.partition_cut.specs.AutoCut.{joined, pairs_of_links}
use Rattle.partition_cut.specs.Forest.{AreParents, LeadTo}
use Rattle.partition_cut.proofs.automatic.join_links.Given as goal

-- the links so far are joined
abbrev pub invariant-loop-link : goal.invariant-loop-link
invariant-loop-link l = AreParents l.parents × ((labels : List ℕ) → LeadTo l.initial.parents labels →
    LeadTo l.parents (fold joined labels (pairs_of_links l.threshold (take l.link-index l.links))))
