-- Groups and lost frames of tables that passed are within the limits.
use Rattle.std.proofs.Common.{◌≡◌, ℕ, ℤ, pos, negsuc, ◌≤◌, ◌<◌, ◌&&◌, nat_lt, int_le, int_lt, Bool, true, false, List, [], ◌∷◌, length, Option, Some, None, option_map, option_and_then, Ok, refl, ap, sym, IfSome, arith}
use Rattle.std.specs.Prelude.{All}
use Rattle.std.proofs.lemmas.List.Elements.{All-nil, All-cons}
use Rattle.toml.specs.Data.{Data, Items, Members, as_integer, as_array, get_member}
use Rattle.sim_base.specs.declared.key.NodeId.{NodeId}
use Rattle.scenario_form.specs.declared.field.Code.TheVariants.{Range}
use Rattle.scenario_form.specs.declared.field.Item.TheVariants.{Node}
use Rattle.scenario_form.specs.declared.field.Form.TheVariants.{Groups, Rising}
use Rattle.scenario_form.specs.Checks.{◌>>◌, require, refuse_as, each}
use Rattle.scenario_form.specs.Forms.{of_type, item_check, list_check, count_check, integer_check, rising_check, integer_of, values_in, any_count, is_from_to}
use Rattle.scenario_form.specs.Rows.{may, fault, value_check, row_check}
use Rattle.scenario_form.specs.Values.{nodes_in, numbers_in, list_at}
use Rattle.scenario_form.specs.Walk.{group_of, groups_of}
use Rattle.scenario_form.specs.Limits.{IsFromTo, IsGroup, AreRising}
use Rattle.scenario_form.proofs.Steps.{first_ok, rest_ok, require_ok, refuse_ok}
use Rattle.scenario_form.proofs.FieldNumbers.{AreNodes, are_nodes, between, left_true, right_true}

-- ---- groups

some_of : (m n : ℕ) → m ≡ n → IsFromTo 1 any_count n → 1 ≤ m
some_of m n same is = let f : 1 ≤ n = is.from in omega (arith, same, f)

group_in : (nodes : ℕ) (ds : Items) → (each (item_check nodes Node) (values_in ds) >> count_check 1 any_count (values_in ds)) ≡ Ok tt → IsGroup nodes (nodes_in (values_in ds))
group_in nodes ds h =
    let are : AreNodes nodes (values_in ds) = are_nodes nodes (values_in ds) (first_ok _ _ h) in
    record {
      some = some_of _ _ are.count (between 1 any_count (length (values_in ds)) (require_ok _ _ (rest_ok _ _ h)));
      below = are.below;
    }

one_group : (nodes : ℕ) (d : Data) (ds : List Data) (o : Option Items) → as_array d ≡ o
    → of_type o (λ is. each (item_check nodes Node) (values_in is) >> count_check 1 any_count (values_in is)) ≡ Ok tt
    → All (IsGroup nodes) (groups_of ds) → All (IsGroup nodes) (groups_of (d ∷ ds))
one_group nodes d ds None is h rest = cc
one_group nodes d ds (Some items) is h rest = rw is (All-cons (IsGroup nodes) (nodes_in (values_in items)) (groups_of ds) (group_in nodes items h) rest)

each_group : (nodes : ℕ) (ds : List Data) → each (list_check (item_check nodes Node) 1 any_count) ds ≡ Ok tt → All (IsGroup nodes) (groups_of ds)
each_group nodes [] h = All-nil (IsGroup nodes)
each_group nodes (d ∷ ds) h =
    one_group nodes d ds (as_array d) refl (first_ok (list_check (item_check nodes Node) 1 any_count d) (each (list_check (item_check nodes Node) 1 any_count) ds) h)
    (each_group nodes ds (rest_ok (list_check (item_check nodes Node) 1 any_count d) (each (list_check (item_check nodes Node) 1 any_count) ds) h))

groups_array : (nodes : ℕ) (o : Option Items)
    → of_type o (λ ds. each (list_check (item_check nodes Node) 1 any_count) (values_in ds) >> count_check 0 any_count (values_in ds)) ≡ Ok tt
    → IfSome (option_map groups_of (option_map values_in o)) (All (IsGroup nodes))
groups_array nodes None h = tt
groups_array nodes (Some ds) h = each_group nodes (values_in ds) (first_ok _ _ h)

groups_field : (nodes n : ℕ) (k : List ℕ) (o : Option Data) → refuse_as (fault n) (value_check nodes (may n k (Groups Node)) o) ≡ Ok tt
    → IfSome (option_map groups_of (option_map values_in (option_and_then as_array o))) (All (IsGroup nodes))
groups_field nodes n k None h = tt
groups_field nodes n k (Some d) h = groups_array nodes (as_array d) (refuse_ok _ _ h)

pub if_groups : (nodes n : ℕ) (k : List ℕ) (t : Members) → row_check nodes t (may n k (Groups Node)) ≡ Ok tt → IfSome (option_map groups_of (list_at k t)) (All (IsGroup nodes))
if_groups nodes n k t h = groups_field nodes n k (get_member k t) h

-- ---- rising numbers

above : (before n : ℕ) → int_lt (pos before) (pos n) ≡ true → before < n
above before n h = grind arith

most_of : (low high n : ℕ) → is_from_to (pos low) (pos high) (pos n) ≡ true → n ≤ high
most_of low high n h = grind arith

one_rising : (before high : ℕ) (d : Data) (ds : List Data) (o : Option ℤ) → as_integer d ≡ o
    → (of_type o (λ z. require (is_from_to (pos 1) (pos high) z) Range) >> (require (int_lt (pos before) (integer_of d)) Range >> rising_check (integer_of d) (pos high) ds)) ≡ Ok tt
    → ((n : ℕ) → rising_check (pos n) (pos high) ds ≡ Ok tt → AreRising n high (numbers_in ds))
    → AreRising before high (numbers_in (d ∷ ds))
one_rising before high d ds None is h rest = cc
one_rising before high d ds (Some (negsuc n)) is h rest = cc
one_rising before high d ds (Some (pos n)) is h rest =
    let k = rw is at h in
    rw is (
      above before n (require_ok _ _ (first_ok _ _ (rest_ok _ _ k))),
      most_of 1 high n (require_ok _ _ (first_ok _ _ k)),
      rest n (rest_ok _ _ (rest_ok _ _ k)),
    )

rising : (before high : ℕ) (ds : List Data) → rising_check (pos before) (pos high) ds ≡ Ok tt → AreRising before high (numbers_in ds)
rising before high [] h = tt
rising before high (d ∷ ds) h = one_rising before high d ds (as_integer d) refl h (λ n. rising n high ds)

rising_array : (high : ℕ) (o : Option Items) → of_type o (λ ds. rising_check (pos 0) (pos high) (values_in ds)) ≡ Ok tt
    → IfSome (option_map numbers_in (option_map values_in o)) (AreRising 0 high)
rising_array high None h = tt
rising_array high (Some ds) h = rising 0 high (values_in ds) h

rising_field : (nodes n high : ℕ) (k : List ℕ) (o : Option Data) → refuse_as (fault n) (value_check nodes (may n k (Rising (pos high))) o) ≡ Ok tt
    → IfSome (option_map numbers_in (option_map values_in (option_and_then as_array o))) (AreRising 0 high)
rising_field nodes n high k None h = tt
rising_field nodes n high k (Some d) h = rising_array high (as_array d) (refuse_ok _ _ h)

pub if_rising : (nodes n high : ℕ) (k : List ℕ) (t : Members) → row_check nodes t (may n k (Rising (pos high))) ≡ Ok tt
    → IfSome (option_map numbers_in (list_at k t)) (AreRising 0 high)
if_rising nodes n high k t h = rising_field nodes n high k (get_member k t) h
