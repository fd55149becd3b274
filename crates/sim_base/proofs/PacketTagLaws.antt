-- Laws of tags on a whole packet.
use Rattle.std.proofs.Common.{ℕ, suc, ◌≡◌, ◌≢◌, List, [], ◌∷◌, Some, None, refl, sym, ap, ◌∙◌, subst, arith, ⊎_elim}
use Rattle.std.specs.List.{All}
use Rattle.std.specs.Prelude.{not}
use Rattle.std.proofs.lemmas.List.Elements.{All-head, All-tail, All-nil, All-cons}
use Rattle.std.proofs.lemmas.List.Quantifiers.{all_pairs_push}
use Rattle.std.proofs.lemmas.List.Kept.{AllPairs-cons, AllPairs-filter}
use Rattle.std.proofs.lemmas.Bool.{cases_eq, eq-eqb, ne_eqb, cond-true, cond-false}
use Rattle.sim_base.specs.declared.tags.PacketTag.{PacketTag}
use Rattle.sim_base.proofs.ListLaws.{filter-passes}
use Rattle.sim_base.specs.PacketTags.{find_tag, add_tag, replace_tag, remove_tag, has_other_tag, HaveDistinctTags}

abbrev pub Differs : PacketTag → PacketTag → Type 0
Differs s t = s.tag ≢ t.tag

-- no tag has this number
abbrev pub LacksTag : ℕ → List PacketTag → Type 0
LacksTag tag ts = All (λ (t : PacketTag). t.tag ≢ tag) ts

pub find_tag-here : (tag : ℕ) (t : PacketTag) (ts : List PacketTag) → t.tag ≡ tag → find_tag tag (t ∷ ts) ≡ Some t.value
find_tag-here tag t ts here = cond-true _ _ _ (eq-eqb t.tag tag here)

pub find_tag-there : (tag : ℕ) (t : PacketTag) (ts : List PacketTag) → t.tag ≢ tag → find_tag tag (t ∷ ts) ≡ find_tag tag ts
find_tag-there tag t ts there = cond-false _ _ _ (ne_eqb t.tag tag there)

pub LacksTag-none : (tag : ℕ) (ts : List PacketTag) → find_tag tag ts ≡ None → LacksTag tag ts
LacksTag-none tag [] none = All-nil _
LacksTag-none tag (t ∷ ts) none =
    ⊎_elim
    (λ (here : t.tag ≡ tag). let found = find_tag-here tag t ts here in absurd (cc))
    (λ (there : t.tag ≡ tag → ⊥).
    All-cons (λ (s : PacketTag). s.tag ≢ tag) t ts there (LacksTag-none tag ts (sym (find_tag-there tag t ts there) ∙ none)))
    (cases_eq t.tag tag)

pub HaveDistinctTags-add_tag : (tag value : ℕ) (ts : List PacketTag) → find_tag tag ts ≡ None → HaveDistinctTags ts → HaveDistinctTags (add_tag tag value ts)
HaveDistinctTags-add_tag tag value ts none distinct =
    all_pairs_push Differs ts (record { tag = tag; value = value }) distinct (LacksTag-none tag ts none)

pub HaveDistinctTags-remove_tag : (tag : ℕ) (ts : List PacketTag) → HaveDistinctTags ts → HaveDistinctTags (remove_tag tag ts)
HaveDistinctTags-remove_tag tag ts distinct = AllPairs-filter Differs (has_other_tag tag) ts distinct

distinct-head : (t : PacketTag) (ts : List PacketTag) → HaveDistinctTags (t ∷ ts) → All (Differs t) ts
distinct-head t ts distinct = λ k d in_range. distinct 0 (suc k) d (omega arith) (omega arith)

distinct-tail : (t : PacketTag) (ts : List PacketTag) → HaveDistinctTags (t ∷ ts) → HaveDistinctTags ts
distinct-tail t ts distinct = λ i j d order in_range. distinct (suc i) (suc j) d (omega arith) (omega arith)

-- what differs from all tags, and from the new one, differs from the tags afterwards
Differs-replace_tag : (s : PacketTag) (tag value : ℕ) (ts : List PacketTag) → s.tag ≢ tag → All (Differs s) ts → All (Differs s) (replace_tag tag value ts)
Differs-replace_tag s tag value [] differs all = All-cons (Differs s) _ [] differs (All-nil (Differs s))
Differs-replace_tag s tag value (t ∷ ts) differs all =
    let new : PacketTag = record { tag = tag; value = value } in
    let later = All-tail (Differs s) t ts all in
    ⊎_elim
    (λ (here : t.tag ≡ tag).
    subst (All (Differs s)) (sym (cond-true _ (new ∷ ts) (t ∷ replace_tag tag value ts) (eq-eqb t.tag tag here))) (All-cons (Differs s) new ts differs later))
    (λ (there : t.tag ≡ tag → ⊥).
    subst (All (Differs s)) (sym (cond-false _ (new ∷ ts) (t ∷ replace_tag tag value ts) (ne_eqb t.tag tag there)))
    (All-cons (Differs s) t (replace_tag tag value ts) (All-head (Differs s) t ts all) (Differs-replace_tag s tag value ts differs later)))
    (cases_eq t.tag tag)

pub HaveDistinctTags-replace_tag : (tag value : ℕ) (ts : List PacketTag) → HaveDistinctTags ts → HaveDistinctTags (replace_tag tag value ts)
HaveDistinctTags-replace_tag tag value [] distinct = AllPairs-cons Differs _ [] (All-nil _) distinct
HaveDistinctTags-replace_tag tag value (t ∷ ts) distinct =
    let new : PacketTag = record { tag = tag; value = value } in
    let others = distinct-head t ts distinct in
    let later = distinct-tail t ts distinct in
    ⊎_elim
    (λ (here : t.tag ≡ tag).
    subst HaveDistinctTags (sym (cond-true _ (new ∷ ts) (t ∷ replace_tag tag value ts) (eq-eqb t.tag tag here)))
    (AllPairs-cons Differs new ts (subst (λ (n : ℕ). All (λ (u : PacketTag). n ≢ u.tag) ts) here others) later))
    (λ (there : t.tag ≡ tag → ⊥).
    subst HaveDistinctTags (sym (cond-false _ (new ∷ ts) (t ∷ replace_tag tag value ts) (ne_eqb t.tag tag there)))
    (AllPairs-cons Differs t (replace_tag tag value ts) (Differs-replace_tag t tag value ts there others)
    (HaveDistinctTags-replace_tag tag value ts later)))
    (cases_eq t.tag tag)

-- where no tag has this number, none goes
pub remove_tag-none : (tag : ℕ) (ts : List PacketTag) → find_tag tag ts ≡ None → remove_tag tag ts ≡ ts
remove_tag-none tag [] none = refl
remove_tag-none tag (t ∷ ts) none =
    ⊎_elim
    (λ (here : t.tag ≡ tag). let found = find_tag-here tag t ts here in absurd (cc))
    (λ (there : t.tag ≡ tag → ⊥).
    filter-passes (has_other_tag tag) t ts (ap not (ne_eqb t.tag tag there))
    ∙ ap (λ xs. t ∷ xs) (remove_tag-none tag ts (sym (find_tag-there tag t ts there) ∙ none)))
    (cases_eq t.tag tag)
