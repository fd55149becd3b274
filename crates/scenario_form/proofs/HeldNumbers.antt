-- A number under a key of a table whose fields depend on its kind.
use Rattle.std.proofs.Common.{◌≡◌, ℕ, pos, ◌≤◌, ◌&&◌, ◌||◌, not, nat_le, nat_eq, Bool, true, false, List, [], ◌∷◌, Option, Some, None, option_and_then, unwrap_or, Ok, refl, sym, ap, ◌∙◌, subst, IfSome, arith}
use Rattle.std.specs.declared.cmp.Ordering.{Ordering}
use Rattle.std.specs.declared.cmp.Ordering.TheVariants.{Less, Equal, Greater}
use Rattle.std.specs.Ordering.{nat_cmp, is_eq}
use Rattle.std.specs.Cmp.Lexicographic.{slice_cmp}
use Rattle.std.specs.Str.{bytes_eq}
use Rattle.std.specs.List.{list_any}
use Rattle.std.proofs.lemmas.Map.Text.{is_eq-slice_cmp}
use Rattle.toml.specs.Data.{Data, Members, no_members, member, as_integer, get_member}
use Rattle.scenario_form.specs.declared.field.Code.TheVariants.{Unknown}
use Rattle.scenario_form.specs.declared.field.Item.TheVariants.{Integer}
use Rattle.scenario_form.specs.declared.field.Form.{Form}
use Rattle.scenario_form.specs.declared.field.Form.TheVariants.{One}
use Rattle.scenario_form.specs.Checks.{require, refuse_as, each}
use Rattle.scenario_form.specs.Forms.{form_check}
use Rattle.scenario_form.specs.Rows.{Row, fault, known_keys, is_known, value_check, row_check, table_check}
use Rattle.scenario_form.specs.Values.{number_in, number_at, number_or}
use Rattle.scenario_form.specs.Limits.{IsFromTo}
use Rattle.scenario_form.proofs.Steps.{first_ok, rest_ok, require_ok, refuse_ok}
use Rattle.scenario_form.proofs.FieldNumbers.{left_true, right_true, not_more, same_number, integer_if}

-- the form takes integers within the bounds alone
abbrev pub form_within : ℕ → ℕ → Form → Bool
form_within low high (One (Integer (pos a) (pos b))) = nat_le low a && nat_le b high
form_within low high _ = false

-- each field of this key does
abbrev pub rows_within : List ℕ → ℕ → ℕ → List Row → Bool
rows_within k low high [] = true
rows_within k low high (r ∷ rows) = (not (bytes_eq k r.key) || form_within low high r.form) && rows_within k low high rows

same_text : (xs ys : List ℕ) → bytes_eq xs ys ≡ true → xs ≡ ys
same_text [] [] h = refl
same_text [] (y ∷ ys) h = cc
same_text (x ∷ xs) [] h = cc
same_text (x ∷ xs) (y ∷ ys) h =
    let first : x ≡ y = same_number x y (left_true (nat_eq x y) (bytes_eq xs ys) h) in
    let rest : xs ≡ ys = same_text xs ys (right_true (nat_eq x y) (bytes_eq xs ys) h) in
    cc

wider : (low high a b : ℕ) (o : Option ℕ) → low ≤ a → b ≤ high → IfSome o (IsFromTo a b) → IfSome o (IsFromTo low high)
wider low high a b None from to h = tt
wider low high a b (Some n) from to h = let f : a ≤ n = h.from in let t : n ≤ b = h.to in record { from = omega (arith, from, f); to = omega (arith, to, t) }

form_holds : (nodes low high : ℕ) (f : Form) (d : Data) → form_within low high f ≡ true → form_check nodes f d ≡ Ok tt → IfSome (number_in d) (IsFromTo low high)
form_holds nodes low high (One (Integer (pos a) (pos b))) d h passed =
    wider low high a b (number_in d) (not_more low a (left_true (nat_le low a) (nat_le b high) h)) (not_more b high (right_true (nat_le low a) (nat_le b high) h))
    (integer_if a b (as_integer d) passed)
form_holds nodes low high f d h passed = cc

field_holds : (nodes low high : ℕ) (r : Row) (o : Option Data) → form_within low high r.form ≡ true → refuse_as (fault r.number) (value_check nodes r o) ≡ Ok tt
    → IfSome (option_and_then number_in o) (IsFromTo low high)
field_holds nodes low high r None h passed = tt
field_holds nodes low high r (Some d) h passed = form_holds nodes low high r.form d h (refuse_ok _ _ passed)

its_form : (b w : Bool) → b ≡ true → (not b || w) ≡ true → w ≡ true
its_form true w is h = h
its_form false w is h = cc

other_rows : (b c : Bool) → b ≡ false → (b || c) ≡ true → c ≡ true
other_rows true c is h = cc
other_rows false c is h = h

found_at : (nodes low high : ℕ) (k : List ℕ) (r : Row) (rows : List Row) (t : Members) (b : Bool) → bytes_eq k r.key ≡ b
    → ((not (bytes_eq k r.key) || form_within low high r.form) && rows_within k low high rows) ≡ true
    → row_check nodes t r ≡ Ok tt
    → (bytes_eq k r.key || list_any (λ q. bytes_eq k q.key) rows) ≡ true
    → (list_any (λ q. bytes_eq k q.key) rows ≡ true → IfSome (number_at k t) (IsFromTo low high))
    → IfSome (number_at k t) (IsFromTo low high)
found_at nodes low high k r rows t true is h passed known later =
    subst (λ key. IfSome (number_at key t) (IsFromTo low high)) (sym (same_text k r.key is))
    (field_holds nodes low high r (get_member r.key t)
    (its_form (bytes_eq k r.key) (form_within low high r.form) is (left_true (not (bytes_eq k r.key) || form_within low high r.form) (rows_within k low high rows) h)) passed)
found_at nodes low high k r rows t false is h passed known later = later (other_rows (bytes_eq k r.key) (list_any (λ q. bytes_eq k q.key) rows) is known)

-- the number under a key of the fields
found : (nodes low high : ℕ) (k : List ℕ) (rows : List Row) (t : Members) → rows_within k low high rows ≡ true → each (row_check nodes t) rows ≡ Ok tt
    → list_any (λ q. bytes_eq k q.key) rows ≡ true → IfSome (number_at k t) (IsFromTo low high)
found nodes low high k [] t h passed known = cc
found nodes low high k (r ∷ rows) t h passed known =
    found_at nodes low high k r rows t (bytes_eq k r.key) refl h (first_ok (row_check nodes t r) (each (row_check nodes t) rows) passed) known
    (found nodes low high k rows t (right_true (not (bytes_eq k r.key) || form_within low high r.form) (rows_within k low high rows) h)
    (rest_ok (row_check nodes t r) (each (row_check nodes t) rows) passed))

stands_at : (rows : List Row) (k : List ℕ) (d : Data) (l : List ℕ) (e : Data) (ms : Members) (o : Ordering) → slice_cmp nat_cmp k l ≡ o
    → is_known rows l ≡ true → get_member k (member l e ms) ≡ Some d → (get_member k ms ≡ Some d → is_known rows k ≡ true) → is_known rows k ≡ true
stands_at rows k d l e ms Less is known at later = later (rw is at at)
stands_at rows k d l e ms Equal is known at later = subst (λ key. is_known rows key ≡ true) (sym (same_text k l (sym (is_eq-slice_cmp k l) ∙ ap is_eq is))) known
stands_at rows k d l e ms Greater is known at later = later (rw is at at)

-- a key that stands is one of the fields'
stands : (rows : List Row) (k : List ℕ) (d : Data) (t : Members) → known_keys rows t ≡ true → get_member k t ≡ Some d → is_known rows k ≡ true
stands rows k d no_members known at = cc
stands rows k d (member l e ms) known at =
    stands_at rows k d l e ms (slice_cmp nat_cmp k l) refl (left_true (is_known rows l) (known_keys rows ms) known) at
    (stands rows k d ms (right_true (is_known rows l) (known_keys rows ms) known))

held_at : (nodes low high : ℕ) (k : List ℕ) (rows : List Row) (t : Members) (o : Option Data) → get_member k t ≡ o → rows_within k low high rows ≡ true
    → table_check nodes rows t ≡ Ok tt → IfSome (number_at k t) (IsFromTo low high)
held_at nodes low high k rows t None is h passed = rw is tt
held_at nodes low high k rows t (Some d) is h passed =
    found nodes low high k rows t h (rest_ok (require (known_keys rows t) (fault 0 Unknown)) (each (row_check nodes t) rows) passed)
    (stands rows k d t (require_ok _ _ (first_ok (require (known_keys rows t) (fault 0 Unknown)) (each (row_check nodes t) rows) passed)) is)

-- a number of a table that passed
pub held_number : (nodes low high : ℕ) (k : List ℕ) (rows : List Row) (t : Members) → rows_within k low high rows ≡ true → table_check nodes rows t ≡ Ok tt
    → IfSome (number_at k t) (IsFromTo low high)
held_number nodes low high k rows t h passed = held_at nodes low high k rows t (get_member k t) refl h passed

or_default : (low high default : ℕ) (o : Option ℕ) → IsFromTo low high default → IfSome o (IsFromTo low high) → IsFromTo low high (unwrap_or o default)
or_default low high default None is h = is
or_default low high default (Some n) is h = h

-- the same with a default
pub held_or : (nodes low high default : ℕ) (k : List ℕ) (rows : List Row) (t : Members) → IsFromTo low high default → rows_within k low high rows ≡ true
    → table_check nodes rows t ≡ Ok tt → IsFromTo low high (number_or default k t)
held_or nodes low high default k rows t is h passed = or_default low high default (number_at k t) is (held_number nodes low high k rows t h passed)
