-- What a document that passed the walk counts.
use Rattle.std.proofs.Common.{◌≡◌, ℕ, zero, suc, ◌≤◌, ◌<◌, ◌&&◌, nat_le, true, List, [], ◌∷◌, map, length, subst, Option, Some, None, is_some, option_map, option_and_then, unwrap_or, Ok, codes, refl, ap, sym, get_or, arith}
use Rattle.std.specs.List.{list_all}
use Rattle.toml.specs.Data.{Data, Items, Members, as_array, as_table, get_member}
use Rattle.scenario_form.specs.declared.field.Code.TheVariants.{WrongType, Unknown}
use Rattle.scenario_form.specs.declared.field.Form.TheVariants.{Tables}
use Rattle.scenario_form.specs.declared.scenario.Scenario.{Scenario}
use Rattle.scenario_form.specs.Checks.{Check, ◌>>◌, require, refuse_as, each}
use Rattle.scenario_form.specs.Forms.{of_type, values_in, count_check}
use Rattle.scenario_form.specs.Rows.{Row, may, flag, known_keys, fault, value_check, row_check, table_check, top_rows}
use Rattle.scenario_form.specs.Values.{tables_in, tables_at}
use Rattle.scenario_form.specs.Walk.{scenario_in, refusal, top_check, walk_check, walk_reading, nodes_of}
use Rattle.scenario_form.specs.Limits.{IsCounted, HasFew}
use Rattle.scenario_form.proofs.Steps.{then_ok_check, then_ok_value, first_ok, rest_ok, require_ok, refuse_ok}

at_most : (n most : ℕ) → (nat_le 0 n && nat_le n most) ≡ true → n ≤ most
at_most n most h = grind arith

one_more : (d : Data) (ds : List Data) (o : Option Members) → as_table d ≡ o → length (tables_in ds) ≤ length ds → length (tables_in (d ∷ ds)) ≤ length (d ∷ ds)
one_more d ds None h few = rw h (omega (arith, few))
one_more d ds (Some t) h few = rw h (omega (arith, few))

few_tables : (ds : List Data) → length (tables_in ds) ≤ length ds
few_tables [] = omega arith
few_tables (d ∷ ds) = one_more d ds (as_table d) refl (few_tables ds)

within_array : (n most : ℕ) (o : Option Items)
    → refuse_as (fault n) (of_type o (λ ds. require (list_all (λ e. is_some (as_table e)) (values_in ds)) WrongType >> count_check 0 most (values_in ds))) ≡ Ok tt
    → length (tables_in (unwrap_or (option_map values_in o) [])) ≤ most
within_array n most None h = cc
within_array n most (Some ds) h =
    let few : length (tables_in (values_in ds)) ≤ length (values_in ds) = few_tables (values_in ds) in
    let all : length (values_in ds) ≤ most = at_most (length (values_in ds)) most (require_ok _ _ (rest_ok _ _ (refuse_ok _ _ h))) in
    omega (arith, few, all)

within_field : (nodes n most : ℕ) (k : List ℕ) (o : Option Data) → refuse_as (fault n) (value_check nodes (may n k (Tables most)) o) ≡ Ok tt
    → length (tables_in (unwrap_or (option_map values_in (option_and_then as_array o)) [])) ≤ most
within_field nodes n most k None h = omega arith
within_field nodes n most k (Some d) h = within_array n most (as_array d) h

tables_within : (nodes n most : ℕ) (k : List ℕ) (t : Members) → row_check nodes t (may n k (Tables most)) ≡ Ok tt → length (tables_at k t) ≤ most
tables_within nodes n most k t h = within_field nodes n most k (get_member k t) h

each_at : {A E : Type 0} (f : A → Check E) (xs : List A) (i : ℕ) (d : A) → i < length xs → each f xs ≡ Ok tt → f (get_or xs i d) ≡ Ok tt
each_at f [] i d lt h = absurd (omega (arith, lt))
each_at f (x ∷ xs) zero d lt h = first_ok (f x) (each f xs) h
each_at f (x ∷ xs) (suc i) d lt h = each_at f xs i d (omega (arith, lt)) (rest_ok (f x) (each f xs) h)

-- a field of a table that passed
pub field_ok : (nodes : ℕ) (rows : List Row) (t : Members) (i : ℕ) (d : Row) → i < length rows → table_check nodes rows t ≡ Ok tt → row_check nodes t (get_or rows i d) ≡ Ok tt
field_ok nodes rows t i d lt h =
    each_at (row_check nodes t) rows i d lt (rest_ok (require (known_keys rows t) (fault 0 Unknown)) (each (row_check nodes t) rows) h)

section_field : (t : Members) (i : ℕ) → i < 13 → top_check t ≡ Ok tt → row_check (nodes_of t) t (get_or top_rows i (may 0 [] flag)) ≡ Ok tt
section_field t i lt h = field_ok (nodes_of t) top_rows t i (may 0 [] flag) lt h

pub counted : (t : Members) → top_check t ≡ Ok tt → IsCounted t
counted t h = record {
  links = tables_within (nodes_of t) 9 4000 (codes "link") t (section_field t 8 (omega arith) h);
  lans = tables_within (nodes_of t) 10 200 (codes "lan") t (section_field t 9 (omega arith) h);
  routes = tables_within (nodes_of t) 11 10000 (codes "route") t (section_field t 10 (omega arith) h);
  apps = tables_within (nodes_of t) 12 4000 (codes "app") t (section_field t 11 (omega arith) h);
  losses = tables_within (nodes_of t) 13 1000 (codes "loss") t (section_field t 12 (omega arith) h);
}

same_length : {A B : Type 0} (f : A → B) (xs : List A) → length (map f xs) ≡ length xs
same_length f [] = refl
same_length f (x ∷ xs) = ap suc (same_length f xs)

-- the same of the scenario that passed the walk
pub few : (t : Members) (s : Scenario) → walk_reading t ≡ Ok s → HasFew s
few t s h =
    let walked : walk_check t ≡ Ok tt = then_ok_check (walk_check t) (scenario_in t) s (sym h) in
    let is : s ≡ scenario_in t = then_ok_value (walk_check t) (scenario_in t) s (sym h) in
    let c : IsCounted t = counted t (refuse_ok (refusal 0 0) (top_check t) (first_ok (refuse_as (refusal 0 0) (top_check t)) _ walked)) in
    let P : Scenario → Type 0 = λ x. HasFew x in
    subst P (sym is) (record {
      links = rw same_length c.links;
      lans = rw same_length c.lans;
      routes = rw same_length c.routes;
      apps = rw same_length c.apps;
      losses = rw same_length c.losses;
    })
