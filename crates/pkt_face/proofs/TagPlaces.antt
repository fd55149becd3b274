-- The tags of a packet by the place of the tag of a number.
use Rattle.std.proofs.Common.{ℕ, suc, ◌≡◌, ◌+◌, ◌-◌, ◌≤◌, true, false, List, [], ◌∷◌, ◌++◌, get_or, Some, None, refl, sym, ap, ◌∙◌, subst, arith, ⊎_elim}
use Rattle.std.specs.List.{position, position_from}
use Rattle.std.proofs.Math.ListN.{set}
use Rattle.std.proofs.lemmas.Iterator.Adapters.{position_from-zero}
use Rattle.std.proofs.lemmas.Bool.{cases_Bool, cond-true, cond-false}
use Rattle.sim_base.specs.declared.tags.PacketTag.{PacketTag}
use Rattle.sim_base.specs.PacketTags.{has_tag, find_tag, replace_tag}

-- no tag of this number stands there
pub record IsNoPlace (tag : ℕ) (ts : List PacketTag) : Type 0 where
  pub find : find_tag tag ts ≡ None
  pub replace : (value : ℕ) → replace_tag tag value ts ≡ ts ++ (record { tag = tag; value = value } ∷ [])

-- the tag of this number stands at place k
pub record IsPlace (tag : ℕ) (ts : List PacketTag) (k : ℕ) : Type 0 where
  pub find : (d : PacketTag) → find_tag tag ts ≡ Some (get_or ts k d).value
  pub replace : (value : ℕ) → replace_tag tag value ts ≡ set ts k (record { tag = tag; value = value })

no_place_from : (tag i : ℕ) (ts : List PacketTag) → position_from (has_tag tag) i ts ≡ None → IsNoPlace tag ts
no_place_from tag i [] none = record { find = refl; replace = λ value. refl }
no_place_from tag i (t ∷ ts) none =
    ⊎_elim
    (λ (here : has_tag tag t ≡ true). let some = cond-true (has_tag tag t) (Some i) (position_from (has_tag tag) (i + 1) ts) here in absurd (cc))
    (λ (there : has_tag tag t ≡ false).
    let rest = no_place_from tag (i + 1) ts (sym (cond-false (has_tag tag t) (Some i) (position_from (has_tag tag) (i + 1) ts) there) ∙ none) in
    record {
      find = cond-false (has_tag tag t) (Some t.value) (find_tag tag ts) there ∙ rest.find;
      replace = λ value.
          cond-false (has_tag tag t) (record { tag = tag; value = value } ∷ ts) (t ∷ replace_tag tag value ts) there
          ∙ ap (λ xs. t ∷ xs) (rest.replace value);
    })
    (cases_Bool (has_tag tag t))

some_same : (i k : ℕ) → Some i ≡ Some k → i ≡ k
some_same i k e = cc

-- the same where the list begins at place i of another
record IsPlaceFrom (i tag : ℕ) (ts : List PacketTag) (k : ℕ) : Type 0 where
  behind : i ≤ k
  place : IsPlace tag ts (k - i)

place_from : (tag i k : ℕ) (ts : List PacketTag) → position_from (has_tag tag) i ts ≡ Some k → IsPlaceFrom i tag ts k
place_from tag i k [] some = absurd (cc)
place_from tag i k (t ∷ ts) some =
    ⊎_elim
    (λ (here : has_tag tag t ≡ true).
    let at_i = cond-true (has_tag tag t) (Some i) (position_from (has_tag tag) (i + 1) ts) here in
    let same : i ≡ k = some_same i k (sym at_i ∙ some) in
    let at_front : k - i ≡ 0 = omega arith in
    record {
      behind = omega arith;
      place = record {
        find = λ d. cond-true (has_tag tag t) (Some t.value) (find_tag tag ts) here ∙ ap (λ n. Some (get_or (t ∷ ts) n d).value) (sym at_front);
        replace = λ value.
            cond-true (has_tag tag t) (record { tag = tag; value = value } ∷ ts) (t ∷ replace_tag tag value ts) here
            ∙ ap (λ n. set (t ∷ ts) n (record { tag = tag; value = value })) (sym at_front);
      };
    })
    (λ (there : has_tag tag t ≡ false).
    let rest = place_from tag (i + 1) k ts (sym (cond-false (has_tag tag t) (Some i) (position_from (has_tag tag) (i + 1) ts) there) ∙ some) in
    let later : i + 1 ≤ k = rest.behind in
    let at_later : k - i ≡ suc (k - (i + 1)) = omega arith in
    record {
      behind = omega arith;
      place = record {
        find = λ d.
            cond-false (has_tag tag t) (Some t.value) (find_tag tag ts) there ∙ rest.place.find d
            ∙ ap (λ n. Some (get_or (t ∷ ts) n d).value) (sym at_later);
        replace = λ value.
            cond-false (has_tag tag t) (record { tag = tag; value = value } ∷ ts) (t ∷ replace_tag tag value ts) there
            ∙ ap (λ xs. t ∷ xs) (rest.place.replace value)
            ∙ ap (λ n. set (t ∷ ts) n (record { tag = tag; value = value })) (sym at_later);
      };
    })
    (cases_Bool (has_tag tag t))

pub no_place : (tag : ℕ) (ts : List PacketTag) → position (has_tag tag) ts ≡ None → IsNoPlace tag ts
no_place tag ts none = no_place_from tag 0 ts (sym (position_from-zero (has_tag tag) ts) ∙ none)

pub place : (tag k : ℕ) (ts : List PacketTag) → position (has_tag tag) ts ≡ Some k → IsPlace tag ts k
place tag k ts some =
    let from = place_from tag 0 k ts (sym (position_from-zero (has_tag tag) ts) ∙ some) in
    let same : k - 0 ≡ k = omega arith in
    subst (IsPlace tag ts) same from.place
