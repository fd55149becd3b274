-- The values of an array of the code, as the definitions see them.
use Rattle.std.proofs.Common.{◌≡◌, ℕ, ◌+◌, ◌<◌, List, [], ◌∷◌, length, get_or, drop, suc, refl, ap}
use Rattle.std.proofs.lemmas.List.{drop_more}
use Rattle.toml.specs.declared.value.Value.{Value}
use Rattle.toml.specs.View.{view, items_view}
use Rattle.scenario_form.specs.Forms.{values_in}

pub length_values : (vs : List Value) → length (values_in (items_view vs)) ≡ length vs
length_values [] = refl
length_values (v ∷ vs) = ap suc (length_values vs)

-- a value and those after it
pub values_from : (vs : List Value) (i : ℕ) (d : Value) → i < length vs
    → values_in (items_view (drop i vs)) ≡ view (get_or vs i d) ∷ values_in (items_view (drop (i + 1) vs))
values_from vs i d h = rw (drop_more vs i d h)
