-- Where no address is held twice, what holds of some interface of an address holds of the one that is found.
use Rattle.std.proofs.Common.{◌≡◌, ℕ, Bool, true, false, not, ◌&&◌, ◌||◌, cond, ◌==◌, nat_eq, List, [], ◌∷◌, map, Option, Some, None, Ok, refl, ap, sym, ◌∙◌, arith}
use Rattle.std.proofs.lemmas.Bool.{false≢true, eq-eqb}
use Rattle.std.specs.List.{list_any}
use Rattle.scenario_form.specs.declared.interface.Interface.{Interface}
use Rattle.scenario_form.specs.declared.refusal.Place.{Place}
use Rattle.scenario_form.specs.Across.{none_twice, addresses_check, is_neighbour, is_on, is_own}
use Rattle.scenario_form.specs.Lookups.{found_from}
use Rattle.scenario_form.proofs.Steps.{require_ok, first_ok, rest_ok}

abbrev placed : List Interface → List (Place × ℕ)
placed xs = map (λ i. (i.at, i.address)) xs

-- a test of what is found
abbrev pub holds : (Interface → Bool) → Option Interface → Bool
holds P None = false
holds P (Some i) = P i

same_number : (x a : ℕ) → nat_eq x a ≡ true → x ≡ a
same_number x a h = grind arith

fresh : (held : List ℕ) (i : Interface) (xs : List Interface) → none_twice nat_eq held (placed (i ∷ xs)) ≡ Ok tt → list_any (nat_eq i.address) held ≡ false
fresh held i xs h = from_not (list_any (nat_eq i.address) held) (require_ok _ _ (first_ok _ _ h))
  where
    from_not : (b : Bool) → not b ≡ true → b ≡ false
    from_not true h = sym h
    from_not false h = refl

others : (held : List ℕ) (i : Interface) (xs : List Interface) → none_twice nat_eq held (placed (i ∷ xs)) ≡ Ok tt → none_twice nat_eq (i.address ∷ held) (placed xs) ≡ Ok tt
others held i xs h = rest_ok _ _ h

apart : (x a : ℕ) (held : List ℕ) (b : Bool) → nat_eq x a ≡ b → list_any (nat_eq a) held ≡ true → list_any (nat_eq x) held ≡ false → nat_eq x a ≡ false
apart x a held true e h f = absurd (false≢true (sym f ∙ ap (λ n. list_any (nat_eq n) held) (same_number x a e) ∙ h))
apart x a held false e h f = e

still_held : (x a : ℕ) (held : List ℕ) → list_any (nat_eq a) held ≡ true → list_any (nat_eq a) (x ∷ held) ≡ true
still_held x a held h = or_true (nat_eq a x) (list_any (nat_eq a) held) h
  where
    or_true : (b c : Bool) → c ≡ true → (b || c) ≡ true
    or_true true c h = refl
    or_true false c h = h

-- an address that is held already is none of the next
held_none : (P : Interface → Bool) (held : List ℕ) (xs : List Interface) (a : ℕ) → list_any (nat_eq a) held ≡ true → none_twice nat_eq held (placed xs) ≡ Ok tt
    → list_any (λ i. (i.address == a) && P i) xs ≡ false
held_none P held [] a h ok = refl
held_none P held (i ∷ xs) a h ok =
    let e : nat_eq i.address a ≡ false = apart i.address a held (nat_eq i.address a) refl h (fresh held i xs ok) in
    ap (λ b. (b && P i) || list_any (λ j. (j.address == a) && P j) xs) e ∙ held_none P (i.address ∷ held) xs a (still_held i.address a held h) (others held i xs ok)

held_found : (before : Option Interface) (held : List ℕ) (xs : List Interface) (a : ℕ) → list_any (nat_eq a) held ≡ true → none_twice nat_eq held (placed xs) ≡ Ok tt
    → found_from before xs a ≡ before
held_found before held [] a h ok = refl
held_found before held (i ∷ xs) a h ok =
    let e : nat_eq i.address a ≡ false = apart i.address a held (nat_eq i.address a) refl h (fresh held i xs ok) in
    ap (λ b. found_from (cond b (Some i) before) xs a) e ∙ held_found before (i.address ∷ held) xs a (still_held i.address a held h) (others held i xs ok)

now_held : (x a : ℕ) (held : List ℕ) → nat_eq x a ≡ true → list_any (nat_eq a) (x ∷ held) ≡ true
now_held x a held h = ap (λ b. b || list_any (nat_eq a) held) (eq-eqb a x (sym (same_number x a h)))

or_false : (b : Bool) → (b || false) ≡ b
or_false true = refl
or_false false = refl

found_one : (P : Interface → Bool) (held : List ℕ) (i : Interface) (xs : List Interface) (a : ℕ) (b : Bool) → nat_eq i.address a ≡ b → none_twice nat_eq (i.address ∷ held) (placed xs) ≡ Ok tt
    → list_any (λ j. (j.address == a) && P j) xs ≡ holds P (found_from None xs a)
    → list_any (λ j. (j.address == a) && P j) (i ∷ xs) ≡ holds P (found_from None (i ∷ xs) a)
found_one P held i xs a true e ok rest =
    ap (λ b. (b && P i) || list_any (λ j. (j.address == a) && P j) xs) e
    ∙ ap (λ r. P i || r) (held_none P (i.address ∷ held) xs a (now_held i.address a held e) ok)
    ∙ or_false (P i)
    ∙ sym (ap (λ b. holds P (found_from (cond b (Some i) None) xs a)) e
    ∙ ap (holds P) (held_found (Some i) (i.address ∷ held) xs a (now_held i.address a held e) ok))
found_one P held i xs a false e ok rest =
    ap (λ b. (b && P i) || list_any (λ j. (j.address == a) && P j) xs) e
    ∙ rest
    ∙ sym (ap (λ b. holds P (found_from (cond b (Some i) None) xs a)) e)

found_any : (P : Interface → Bool) (held : List ℕ) (xs : List Interface) (a : ℕ) → none_twice nat_eq held (placed xs) ≡ Ok tt
    → list_any (λ i. (i.address == a) && P i) xs ≡ holds P (found_from None xs a)
found_any P held [] a ok = refl
found_any P held (i ∷ xs) a ok =
    found_one P held i xs a (nat_eq i.address a) refl (others held i xs ok) (found_any P (i.address ∷ held) xs a (others held i xs ok))

pub neighbour_is : (all : List Interface) (node a : ℕ) (o : Option Interface) → addresses_check all ≡ Ok tt → o ≡ found_from None all a
    → is_neighbour all node a ≡ holds (λ i. not (i.node.0 == node) && is_on all node i.network) o
neighbour_is all node a o once found =
    let P : Interface → Bool = λ i. not (i.node.0 == node) && is_on all node i.network in found_any P [] all a once ∙ ap (holds P) (sym found)

pub own_is : (all : List Interface) (node a : ℕ) (o : Option Interface) → addresses_check all ≡ Ok tt → o ≡ found_from None all a
    → is_own all node a ≡ holds (λ i. i.node.0 == node) o
own_is all node a o once found = let P : Interface → Bool = λ i. i.node.0 == node in found_any P [] all a once ∙ ap (holds P) (sym found)

pub and_of : (n on is : Bool) → is ≡ (n && on) → n ≡ true → on ≡ is
and_of true on is h t = sym h
and_of false on is h t = absurd (false≢true t)

pub and_not : (n on is : Bool) → is ≡ (n && on) → n ≡ false → n ≡ is
and_not true on is h t = absurd (false≢true (sym t))
and_not false on is h t = sym h

apart_test : (a b : ℕ) (t : Bool) → nat_eq a b ≡ t → (a ≡ b → ⊥) → not t ≡ true
apart_test a b true e h = absurd (h (same_number a b e))
apart_test a b false e h = refl

pub apart_is : (a b : ℕ) → (a ≡ b → ⊥) → not (nat_eq a b) ≡ true
apart_is a b h = apart_test a b (nat_eq a b) refl h

pub same_is : (a b : ℕ) → a ≡ b → not (nat_eq a b) ≡ false
same_is a b h = ap not (eq-eqb a b h)
