-- Tags on a whole packet, at most one of each number.
use Rattle.std.specs.Prelude.{ℕ, ◌≢◌, ◌==◌, not, Bool, if◌then◌else◌, Option, None, Some, List, [], ◌∷◌, ◌++◌, filter, AllPairs}
use Rattle.sim_base.specs.declared.tags.PacketTag.{PacketTag}

abbrev pub has_tag : ℕ → PacketTag → Bool
has_tag tag t = t.tag == tag

-- the value of the tag of this number
abbrev pub find_tag : ℕ → List PacketTag → Option ℕ
find_tag tag [] = None
find_tag tag (t ∷ ts) = if t.tag == tag then Some t.value else find_tag tag ts

abbrev pub add_tag : ℕ → ℕ → List PacketTag → List PacketTag
add_tag tag value ts = ts ++ record { tag = tag; value = value } ∷ []

-- the tag of this number gets the value in its place, or comes last where there was none
abbrev pub replace_tag : ℕ → ℕ → List PacketTag → List PacketTag
replace_tag tag value [] = record { tag = tag; value = value } ∷ []
replace_tag tag value (t ∷ ts) =
    if t.tag == tag then record { tag = tag; value = value } ∷ ts else t ∷ replace_tag tag value ts

abbrev pub has_other_tag : ℕ → PacketTag → Bool
has_other_tag tag t = not (t.tag == tag)

abbrev pub remove_tag : ℕ → List PacketTag → List PacketTag
remove_tag tag ts = filter (has_other_tag tag) ts

abbrev pub HaveDistinctTags : List PacketTag → Type 0
HaveDistinctTags ts = AllPairs (λ (s t : PacketTag). s.tag ≢ t.tag) ts
