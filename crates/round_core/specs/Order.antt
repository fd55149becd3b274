-- Lists in the order of keys.
use Rattle.std.specs.Prelude.{List, [], ◌∷◌}
use Rattle.sim_base.specs.declared.key.Key.{Key}
use Rattle.sim_base.specs.KeyOrder.{insert_by}

-- puts each item of a list into another
unfoldable pub insert_each : {A : Type 0} → (A → Key) → List A → List A → List A
insert_each key_of [] ys = ys
insert_each key_of (x ∷ xs) ys = insert_each key_of xs (insert_by key_of x ys)

-- a list in the order of keys
abbrev pub in_key_order : {A : Type 0} → (A → Key) → List A → List A
in_key_order key_of xs = insert_each key_of xs []
