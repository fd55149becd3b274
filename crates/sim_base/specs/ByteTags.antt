-- Tags on ranges of bytes: what becomes of them where bytes come in front, and where bytes are cut.
use Rattle.std.specs.Prelude.{ℕ, ◌+◌, ◌-◌, ◌<◌, ◌≤◌, ◌==◌, min, nat_lt, Bool, if◌then◌else◌, List, [], ◌∷◌, map, filter}
use Rattle.sim_base.specs.declared.tags.ByteTag.{ByteTag}

-- a tag, n bytes further up
abbrev pub moved_up : ℕ → ByteTag → ByteTag
moved_up n t = record t { from = t.from + n; to = t.to + n }

abbrev pub shift : ℕ → List ByteTag → List ByteTag
shift n ts = map (moved_up n) ts

-- the part of a tag that lies on the bytes from a up to b, with its places counted from a
abbrev pub part_within : ℕ → ℕ → ByteTag → ByteTag
part_within a b t = record t { from = t.from - a; to = min t.to b - a }

abbrev pub parts_within : ℕ → ℕ → List ByteTag → List ByteTag
parts_within a b ts = map (part_within a b) ts

abbrev pub covers_a_byte : ByteTag → Bool
covers_a_byte t = nat_lt t.from t.to

-- the parts of the tags that lie on the bytes from a up to b: a tag with no byte there vanishes
abbrev pub clip : ℕ → ℕ → List ByteTag → List ByteTag
clip a b ts = filter covers_a_byte (parts_within a b ts)

-- a tag over all of n bytes, or none where n is 0
abbrev pub tag_over : ℕ → ℕ → ℕ → List ByteTag
tag_over n tag value = if n == 0 then [] else record { tag = tag; from = 0; to = n; value = value } ∷ []

-- a tag covers a byte, and no more than n bytes
abbrev pub IsTagWithin : ℕ → ByteTag → Type 0
IsTagWithin n t = (t.from < t.to) × (t.to ≤ n)
