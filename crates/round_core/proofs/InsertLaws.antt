-- Putting items into lists in the order of keys.
use Rattle.std.proofs.Common.{◌≡◌, true, false, List, [], ◌∷◌, refl, sym, ap, inl, inr}
use Rattle.std.proofs.lemmas.Bool.{cases_Bool}
use Rattle.sim_base.specs.declared.key.Key.{Key}
use Rattle.sim_base.specs.KeyOrder.{before, insert_by}
use Rattle.sim_base.proofs.KeyLaws.{before-not_back, before-up, before-total}

pub insert-here : {A : Type 0} (key_of : A → Key) (x y : A) (ys : List A) → before (key_of x) (key_of y) ≡ true →
    insert_by key_of x (y ∷ ys) ≡ x ∷ y ∷ ys
unfolding insert_by
insert-here key_of x y ys h = rw h refl

pub insert-past : {A : Type 0} (key_of : A → Key) (x y : A) (ys : List A) → before (key_of x) (key_of y) ≡ false →
    insert_by key_of x (y ∷ ys) ≡ y ∷ insert_by key_of x ys
unfolding insert_by
insert-past key_of x y ys h = rw h refl

insert_ordered : {A : Type 0} (key_of : A → Key) (a b : A) (l : List A) → before (key_of a) (key_of b) ≡ true →
    before (key_of b) (key_of a) ≡ false → insert_by key_of a (insert_by key_of b l) ≡ insert_by key_of b (insert_by key_of a l)
unfolding insert_by
insert_ordered key_of a b [] h k = simp (h, k)
insert_ordered key_of a b (y ∷ ys) h k =
    let ih = insert_ordered key_of a b ys h k in
    elim (cases_Bool (before (key_of b) (key_of y))) [
      | inl by ↦ let ay : before (key_of a) (key_of y) ≡ true = before-up _ _ _ h (before-not_back _ _ by) in simp (h, k, by, ay)
      | inr by ↦ elim (cases_Bool (before (key_of a) (key_of y))) [
        | inl ay ↦ simp (h, k, by, ay)
        | inr ay ↦ simp (h, k, by, ay) (ap (λ t. y ∷ t) ih)
      ]
    ]

pub insert_insert : {A : Type 0} (key_of : A → Key) (a b : A) (l : List A) → (key_of a ≡ key_of b → ⊥) →
    insert_by key_of a (insert_by key_of b l) ≡ insert_by key_of b (insert_by key_of a l)
insert_insert key_of a b l ne =
    elim (cases_Bool (before (key_of a) (key_of b))) [
      | inl h ↦ insert_ordered key_of a b l h (before-not_back _ _ h)
      | inr h ↦ elim (cases_Bool (before (key_of b) (key_of a))) [
        | inl k ↦ sym (insert_ordered key_of b a l k h)
        | inr k ↦ absurd (ne (before-total _ _ h k))
      ]
    ]
