-- Members without an address have no end.
use Rattle.std.proofs.Common.{◌≡◌, ℕ, ◌≤◌, List, [], ◌∷◌, length, drop, refl, ap, ◌∙◌}
use Rattle.std.proofs.lemmas.List.{drop_all}
use Rattle.sim_base.specs.declared.key.NodeId.{NodeId}
use Rattle.scenario_form.specs.Across.{ends_from}

ends_from-none : (index prefix : ℕ) (members : List NodeId) → ends_from index prefix members [] ≡ []
ends_from-none index prefix [] = refl
ends_from-none index prefix (m ∷ ms) = refl

pub ends_from_past : (index prefix : ℕ) (members : List NodeId) (addresses : List ℕ) (k : ℕ) → length addresses ≤ k → ends_from index prefix (drop k members) (drop k addresses) ≡ []
ends_from_past index prefix members addresses k h = ap (ends_from index prefix (drop k members)) (drop_all k addresses h) ∙ ends_from-none index prefix (drop k members)
