-- The end of a row: all its passes are one, which has drawn past its end and has given back at every place.
use Rattle.std.proofs.Common.{◌≡◌, ◌≢◌, ℕ, zero, suc, get_or, set, ◌+◌, ◌<◌, ◌≤◌, Bool, true, false, List, [], ◌∷◌, ◌++◌, length, Option, Some, None, MatchOption, sum_by, sym, ap, subst, refl, ◌∙◌, inl, inr, arith}
use Rattle.std.proofs.lemmas.Bool.{cases_Bool, cases_lt}
use mathlib.Core.Option.{some, some-injective}
use lib.ListN.{get_elem?}
use Rattle.atomic_table.proofs.Lists.{at_longer, at_last}
use Rattle.atomic_table.specs.Table.{Final, Seen}
use Rattle.work_claims.specs.Drawn.{times, IsAt, AllGiven}
use Rattle.work_claims.specs.Rule.{items_of, parts_of, keepers, times_of, FitsRow, KeepsRow}
use Rattle.work_claims.specs.declared.view.Stage.TheVariants.{Given}
use Rattle.work_claims.specs.declared.view.Opening.{Opening}
use Rattle.work_claims.specs.declared.view.View.{View}
use Rattle.work_claims.proofs.Totals.{total_two, total_alone}
use Rattle.work_claims.proofs.DrawnLaws.{once-below, once-drawn, times-at, times-none, given-from_times}

module _ {T : Type 0} (o : Opening T) (id : ℕ) (v : View T) (words : List ℕ) (slots : List (Option T)) (end : Final (Seen (KeepsRow o) id v) words slots)
    (whole : v.parts ≡ o.passes) (part : 1 ≤ v.parts) where
  abbrev views : List (View T)
  views = end.0.views

  keeps_row : KeepsRow o end.0
  keeps_row = end.1.0

  fits : FitsRow o keeps_row.counter end.0.homes v
  fits = keeps_row.each id v end.1.1

  no_part : (i : ℕ) (u : View T) → i ≢ id → get_elem? views i ≡ some u → u.parts ≡ 0
  no_part i u other at =
      let two = total_two parts_of views i id u v other at end.1.1 in
      let all = keeps_row.parts in
      omega (arith, two, all, whole)

  times_all : (n : ℕ) → sum_by (times_of n) views ≡ times n v.drawn
  times_all n =
      total_alone (times_of n) views id v end.1.1
      (λ i u other at. ap (λ ds. times n ds) ((keeps_row.each i u at).idle (no_part i u other at)).0 ∙ times-none T n)

  pub once-each : v.past ≡ true → (n : ℕ) → n < length (items_of o) → times n v.drawn ≡ 1
  once-each past n low = sym (times_all n) ∙ keeps_row.once n ∙ once-drawn n keeps_row.counter (length (items_of o)) low (fits.past past)

  keepers_all : sum_by keepers views ≡ keepers v
  keepers_all =
      total_alone keepers views id v end.1.1
      (λ i u other at. let no = ((keeps_row.each i u at).idle (no_part i u other at)).1 in rw no refl)

  pub keeps-list : v.keeps ≡ true
  keeps-list = elim (cases_Bool v.keeps) [
    | inl keeps ↦ keeps
    | inr lost ↦ absurd (let none : keepers v ≡ 0 = rw lost refl in let all = keepers_all in let one = keeps_row.keeper in omega (arith, none, all, one))
  ]

  pub given-lies : (n : ℕ) (item : T) → IsAt v.drawn n (Given item) → get_elem? slots n ≡ some (Some item)
  given-lies n item at = end.4 n (Some item) (fits.held n (Given item) at)

  pub given-low : (n : ℕ) (item : T) → IsAt v.drawn n (Given item) → n < length (items_of o)
  given-low n item at =
      let mine = times-at n (Given item) v.drawn at in
      let all = times_all n in
      let once = keeps_row.once n in
      (once-below n keeps_row.counter (length (items_of o)) (omega (arith, mine, all, once))).1

  pub each-lies : v.past ≡ true → AllGiven v.drawn → (n : ℕ) → n < length (items_of o) → (item : T) × (get_elem? slots n ≡ some (Some item))
  each-lies past given n low =
      let once = once-each past n low in
      let back = given-from_times n v.drawn given (omega (arith, once)) in
      (back.0, given-lies n back.0 back.1)

-- a slot with an item is not empty
pub not-none : {T : Type 0} (item : T) → some (Some item) ≡ some None → ⊥
not-none item e = subst (λ o. MatchOption o ⊥ (λ _. Unit {0})) (some-injective _ _ e) tt

abbrev item_or : {T : Type 0} → T → Option T → T
item_or other None = other
item_or other (Some item) = item

-- one more place is taken
pub taken-more : (filled : List Bool) (at k : ℕ) → k < at + 1 → ((j : ℕ) → j < at → get_or filled j false ≡ false) → get_or (set filled at false) k false ≡ false
taken-more [] at k low before = refl
taken-more (x ∷ xs) zero zero low before = refl
taken-more (x ∷ xs) zero (suc k) low before = absurd (omega (arith, low))
taken-more (x ∷ xs) (suc at) zero low before = before 0 (omega arith)
taken-more (x ∷ xs) (suc at) (suc k) low before = taken-more xs at k (omega (arith, low)) (λ j less. before (suc j) (omega (arith, less)))

-- one more item in the list
pub moved-more : {T : Type 0} (slots : List (Option T)) (items : List T) (at : ℕ) (next : T) → length items ≡ at → get_elem? slots at ≡ some (Some next) →
    ((n : ℕ) (item : T) → n < at → get_elem? slots n ≡ some (Some item) → get_elem? items n ≡ some item) →
    (n : ℕ) (item : T) → n < at + 1 → get_elem? slots n ≡ some (Some item) → get_elem? (items ++ next ∷ []) n ≡ some item
moved-more slots items at next long here before n item low is = elim (cases_lt n at) [
  | inl less ↦ at_longer items (next ∷ []) n item (before n item less is)
  | inr least ↦
      let same : n ≡ at = omega (arith, low, least) in
      let found = ap (item_or item) (some-injective _ _ (sym is ∙ ap (λ k. get_elem? slots k) same ∙ here)) in
      at_last items next n (long ∙ sym same) ∙ ap some (sym found)
]
