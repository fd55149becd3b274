-- With the checksum of the rest in its place all sums to all ones.
use Rattle.std.proofs.Common.{ℕ, ◌≡◌, ◌+◌, ◌-◌, ◌*◌, ◌/◌, ◌<◌, ◌≤◌, List, [], ◌∷◌, ◌++◌, sym, ap, ◌∙◌, arith, ⊎_elim}
use Rattle.std.specs.List.{fold, All}
use Rattle.std.proofs.lemmas.Bool.{cases_eq}
use Rattle.std.proofs.lemmas.List.Elements.{All-head, All-tail}
use Rattle.header_forms.specs.Checksum.{pairs, add_around, folded}
use Rattle.header_forms.proofs.WideSums.{folded-some, folded-small, folded-more, add_around-folded}

abbrev total : List ℕ → ℕ
total [] = 0
total (x ∷ xs) = x + total xs

abbrev pub AreSmall : List ℕ → Type 0
AreSmall [] = Unit {0}
AreSmall (x ∷ xs) = (x ≤ 65535) × AreSmall xs

pub small-append : (xs ys : List ℕ) → AreSmall xs → AreSmall ys → AreSmall (xs ++ ys)
small-append [] ys p q = q
small-append (x ∷ xs) ys p q = (p.0, small-append xs ys p.1 q)

pub small-pairs : (bytes : List ℕ) → All (λ b. b < 256) bytes → AreSmall (pairs bytes)
small-pairs [] all = tt
small-pairs (a ∷ []) all = let high : a < 256 = All-head (λ b. b < 256) a [] all in (omega arith, tt)
small-pairs (a ∷ b ∷ bytes) all =
    let high : a < 256 = All-head (λ b. b < 256) a (b ∷ bytes) all in
    let others = All-tail (λ b. b < 256) a (b ∷ bytes) all in
    let low : b < 256 = All-head (λ b. b < 256) b bytes others in
    (omega arith, small-pairs bytes (All-tail (λ b. b < 256) b bytes others))

sum-folded : (t : ℕ) (xs : List ℕ) → AreSmall xs → fold add_around (folded t) xs ≡ folded (t + total xs)
sum-folded t [] all = let same : t ≡ t + 0 = omega arith in ap folded same
sum-folded t (x ∷ xs) all =
    let same : t + x + total xs ≡ t + (x + total xs) = omega arith in
    ap (λ s. fold add_around s xs) (add_around-folded t x all.0) ∙ sum-folded (t + x) xs all.1 ∙ ap folded same

sum-is : (xs : List ℕ) → AreSmall xs → fold add_around 0 xs ≡ folded (total xs)
sum-is xs all =
    let same : 0 + total xs ≡ total xs = omega arith in
    ap (λ s. fold add_around s xs) (sym (folded-small 0 (omega arith))) ∙ sum-folded 0 xs all ∙ ap folded same

total-with : (xs ys : List ℕ) (c : ℕ) → total (xs ++ c ∷ ys) ≡ total (xs ++ 0 ∷ ys) + c
total-with [] ys c = omega arith
total-with (x ∷ xs) ys c = let e = total-with xs ys c in omega arith

fills : (t : ℕ) → folded (t + (65535 - folded t)) ≡ 65535
fills t =
    ⊎_elim
    (λ (none : t ≡ 0).
    let zero_sum : folded t ≡ 0 = ap folded none ∙ folded-small 0 (omega arith) in
    let all : t + (65535 - folded t) ≡ 65535 = omega arith in
    ap folded all ∙ folded-small 65535 (omega arith))
    (λ (some : t ≡ 0 → ⊥).
    let e = folded-some t (omega arith) in
    let all : t + (65535 - folded t) ≡ 65535 + 65535 * ((t - 1) / 65535) = omega arith in
    ap folded all ∙ folded-more 65535 ((t - 1) / 65535) (omega arith) ∙ folded-small 65535 (omega arith))
    (cases_eq t 0)

pub all-ones : (xs ys : List ℕ) (c : ℕ) → AreSmall xs → AreSmall ys → c ≡ 65535 - fold add_around 0 (xs ++ 0 ∷ ys) → fold add_around 0 (xs ++ c ∷ ys) ≡ 65535
all-ones xs ys c p q e =
    let t = total (xs ++ 0 ∷ ys) in
    let before : fold add_around 0 (xs ++ 0 ∷ ys) ≡ folded t = sum-is (xs ++ 0 ∷ ys) (small-append xs (0 ∷ ys) p (omega arith, q)) in
    let is : c ≡ 65535 - folded t = e ∙ ap (λ n. 65535 - n) before in
    let low : c ≤ 65535 = omega arith in
    sum-is (xs ++ c ∷ ys) (small-append xs (c ∷ ys) p (low, q)) ∙ ap folded (total-with xs ys c ∙ ap (λ n. t + n) is) ∙ fills t
