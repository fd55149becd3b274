-- Loops over groups: what holds of the groups so far, with one more.
use Rattle.std.proofs.Common.{◌≡◌, ◌⊎◌, ℕ, ◌+◌, ◌<◌, ◌≤◌, zero, suc, List, [], ◌∷◌, ◌++◌, All, drop, fold, get_or, length, map, set, take, Some, slice_get, refl, sym, ap, ◌∙◌, subst, arith, inl, inr}
use Rattle.std.specs.List.{flat_map}
use Rattle.std.proofs.lemmas.Bool.{cases_lt}
use Rattle.std.proofs.lemmas.Grind.{flat_map-append}
use Rattle.std.proofs.lemmas.List.{append-nil, map-append, take_more}
use Rattle.std.proofs.lemmas.List.Sums.{fold_push}
use Rattle.std.proofs.lemmas.Option.{slice_get-get_or}
use Rattle.lp_run.specs.Lp.{IsWellLp}
use Rattle.round_kernel.specs.Window.{Gone, HasGone}

module _ {A B : Type 0} (xs : List A) (n : ℕ) (x : A) (low : n < length xs) (is : x ≡ get_or xs n x) where
  -- what goes over a list, with one more item
  pub fold-more : (f : B → A → B) (first acc new : B) → acc ≡ fold f first (take n xs) → new ≡ f acc x → new ≡ fold f first (take (n + 1) xs)
  fold-more f first acc new so_far step =
      step ∙ ap (λ a. f a x) so_far ∙ ap (f (fold f first (take n xs))) is
      ∙ sym (fold_push f first (take n xs) (get_or xs n x)) ∙ ap (fold f first) (sym (take_more xs n x low))

  pub map-more : (f : A → B) (acc new : List B) → acc ≡ map f (take n xs) → new ≡ acc ++ f x ∷ [] → new ≡ map f (take (n + 1) xs)
  map-more f acc new so_far step =
      step ∙ ap (λ l. l ++ f x ∷ []) so_far ∙ ap (λ y. map f (take n xs) ++ f y ∷ []) is
      ∙ sym (map-append f (take n xs) (get_or xs n x ∷ [])) ∙ ap (map f) (sym (take_more xs n x low))

  pub lists-more : (f : A → List B) (acc new : List B) → acc ≡ flat_map f (take n xs) → new ≡ acc ++ f x → new ≡ flat_map f (take (n + 1) xs)
  lists-more f acc new so_far step =
      step ∙ ap (λ l. l ++ f x) so_far ∙ ap (λ y. flat_map f (take n xs) ++ f y) is
      ∙ ap (λ l. flat_map f (take n xs) ++ l) (sym (append-nil (f (get_or xs n x))))
      ∙ sym (flat_map-append f (take n xs) (get_or xs n x ∷ [])) ∙ ap (flat_map f) (sym (take_more xs n x low))

module _ {A : Type 0} (xs : List A) (n : ℕ) (x : A) (low : n < length xs) (is : x ≡ get_or xs n x) where
  -- a fact of each item, with one more
  pub facts-more : (P : A → Type 0) → ((k : ℕ) (d : A) → k < n → P (get_or xs k d)) → P x → (k : ℕ) (d : A) → k < n + 1 → P (get_or xs k d)
  facts-more P before here k d below = go (cases_lt k n)
    where
      go : (k < n) ⊎ (n ≤ k) → P (get_or xs k d)
      go (inl less) = before k d less
      go (inr last) = let same : n ≡ k = omega arith in
          subst P (is ∙ (let o : Some (get_or xs n x) ≡ Some (get_or xs n d) = sym (slice_get-get_or xs n x low) ∙ slice_get-get_or xs n d low in cc)
          ∙ ap (λ m. get_or xs m d) same) here

-- a list of which the items before a place have changed
module _ {A : Type 0} (f : A → A) where
  pub changed-get : (xs : List A) (n : ℕ) (d : A) → n < length xs → get_or (map f (take n xs) ++ drop n xs) n d ≡ get_or xs n d
  changed-get [] n d low = absurd (omega arith)
  changed-get (x ∷ xs) zero d low = refl
  changed-get (x ∷ xs) (suc n) d low = changed-get xs n d (omega arith)

  pub changed-set : (xs : List A) (n : ℕ) (d : A) → n < length xs →
      set (map f (take n xs) ++ drop n xs) n (f (get_or xs n d)) ≡ map f (take (suc n) xs) ++ drop (suc n) xs
  changed-set [] n d low = absurd (omega arith)
  changed-set (x ∷ xs) zero d low = ap (λ l. f x ∷ l) (none xs)
    where
      none : (ys : List A) → ys ≡ map f (take 0 ys) ++ drop 0 ys
      none [] = refl
      none (y ∷ ys) = refl
  changed-set (x ∷ xs) (suc n) d low = ap (λ l. f x ∷ l) (changed-set xs n d (omega arith))

  pub changed-length : (xs : List A) (n : ℕ) → n ≤ length xs → length (map f (take n xs) ++ drop n xs) ≡ length xs
  changed-length [] zero low = refl
  changed-length [] (suc n) low = absurd (omega arith)
  changed-length (x ∷ xs) zero low = refl
  changed-length (x ∷ xs) (suc n) low = ap suc (changed-length xs n (omega arith))

  -- one more has
  pub changed-more : (old now : List A) (n : ℕ) (from d item : A) → n < length now → length now ≡ length old →
      now ≡ map f (take n old) ++ drop n old → from ≡ get_or now n d → item ≡ f from →
      (from ≡ get_or old n from) × (set now n item ≡ map f (take (n + 1) old) ++ drop (n + 1) old)
  changed-more old now n from d item low long are is made =
      let here : from ≡ get_or old n d = is ∙ ap (λ l. get_or l n d) are ∙ changed-get old n d (omega arith) in
      let same : Some (get_or old n d) ≡ Some (get_or old n from) = sym (slice_get-get_or old n d (omega arith)) ∙ slice_get-get_or old n from (omega arith) in
      let s : suc n ≡ n + 1 = omega arith in (
        here ∙ (let e : get_or old n d ≡ get_or old n from = cc in e),
        ap (λ l. set l n item) are ∙ ap (set (map f (take n old) ++ drop n old) n) (made ∙ ap f here)
            ∙ changed-set old n d (omega arith) ∙ ap (λ m. map f (take m old) ++ drop m old) s,
      )

-- the group that is read at a number is the one that stands there
pub same-group : (groups : List Gone) (n : ℕ) (group read : Gone) → n < length groups → slice_get groups n ≡ Some group → read ≡ get_or groups n read → group ≡ read
same-group groups n group read low there is =
    let same : Some group ≡ Some read = sym there ∙ slice_get-get_or groups n read low ∙ ap Some (sym is) in cc
