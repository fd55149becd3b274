-- Laws of the Internet checksum.
use mathlib.Core.Bool.{beq}
use Rattle.std.proofs.Common.{ℕ, zero, suc, ◌≡◌, ◌+◌, ◌-◌, ◌*◌, ◌%◌, ◌^◌, ◌<◌, ◌≤◌, ◌==◌, Bool, true, false, not, List, [], ◌∷◌, ◌++◌, refl, ap, ◌∙◌, arith, ⊎_elim, ◌⊎◌, inl, inr}
use Rattle.std.specs.Prelude.{replicate}
use Rattle.std.specs.List.{fold, All}
use Rattle.std.proofs.lemmas.Bool.Decides.{nat_tests}
use Rattle.std.proofs.lemmas.Bool.{eq-eqb, ne_eqb, cases_eq}
use Rattle.std.proofs.lemmas.List.Sums.{fold-append}
use Rattle.std.proofs.lemmas.List.Elements.{All-head, All-tail}
use Rattle.header_forms.specs.Checksum.{Running, pairs, add_around, checksum, with_byte, with_bytes, start}

-- adding the two bytes of a pair is adding the pair
pub add_around-pair : (s a b : ℕ) → s ≤ 65535 → a < 256 → b < 256 → add_around (add_around s (a * 256)) b ≡ add_around s (a * 256 + b)
add_around-pair s a b small high low = grind (arith, nat_tests)

add_around-le : (s x : ℕ) → s ≤ 65535 → x ≤ 65535 → add_around s x ≤ 65535
add_around-le s x small also = grind (arith, nat_tests)

-- the running sum from a whole number of pairs on
with_bytes-pairs : (n : ℕ) (bytes : List ℕ) → n ≤ 65535 → All (λ b. b < 256) bytes → (with_bytes (record { sum = n; odd = false }) bytes).sum ≡ fold add_around n (pairs bytes)
with_bytes-pairs n [] small all = refl
with_bytes-pairs n (a ∷ []) small all = refl
with_bytes-pairs n (a ∷ b ∷ bytes) small all =
    let high : a < 256 = All-head (λ b. b < 256) a (b ∷ bytes) all in
    let others = All-tail (λ b. b < 256) a (b ∷ bytes) all in
    let low : b < 256 = All-head (λ b. b < 256) b bytes others in
    ap (λ m. (with_bytes (record { sum = m; odd = false }) bytes).sum) (add_around-pair n a b small high low)
    ∙ with_bytes-pairs (add_around n (a * 256 + b)) bytes (add_around-le n (a * 256 + b) small (omega arith)) (All-tail (λ b. b < 256) b bytes others)

pub checksum-with_bytes : (bytes : List ℕ) → All (λ b. b < 256) bytes → 65535 - (with_bytes start bytes).sum ≡ checksum bytes
unfolding checksum
checksum-with_bytes bytes all = ap (λ m. 65535 - m) (with_bytes-pairs 0 bytes (omega arith) all)

-- zeros only move the place within a pair
zero_byte : (n : ℕ) (odd : Bool) → n ≤ 65535 → with_byte (record { sum = n; odd = odd }) 0 ≡ record { sum = n; odd = not odd }
zero_byte n true small = let same : add_around n 0 ≡ n = grind (arith, nat_tests) in ap (λ m. record { sum = m; odd = false }) same
zero_byte n false small = let same : add_around n (0 * 256) ≡ n = grind (arith, nat_tests) in ap (λ m. record { sum = m; odd = true }) same

flip_even : (odd : Bool) → not (beq (not odd) false) ≡ not (beq odd true)
flip_even true = refl
flip_even false = refl

flip_odd : (odd : Bool) → not (beq (not odd) true) ≡ not (beq odd false)
flip_odd true = refl
flip_odd false = refl

even_or_odd : (k : ℕ) → (k % 2 ≡ 0) ⊎ (k % 2 ≡ 1)
even_or_odd k =
    ⊎_elim (λ (even : k % 2 ≡ 0). inl even) (λ (uneven : k % 2 ≡ 0 → ⊥). let one : k % 2 ≡ 1 = omega arith in inr one) (cases_eq (k % 2) 0)

one_more : (odd : Bool) (k : ℕ) → not (beq (not odd) (k % 2 == 1)) ≡ not (beq odd (suc k % 2 == 1))
one_more odd k =
    ⊎_elim
    (λ (even : k % 2 ≡ 0).
    let now : (k % 2 == 1) ≡ false = ne_eqb (k % 2) 1 (λ e. absurd (omega arith)) in
    let next : (suc k % 2 == 1) ≡ true = eq-eqb (suc k % 2) 1 (omega arith) in
    rw (now, next) (flip_even odd))
    (λ (uneven : k % 2 ≡ 1).
    let now : (k % 2 == 1) ≡ true = eq-eqb (k % 2) 1 uneven in
    let next : (suc k % 2 == 1) ≡ false = ne_eqb (suc k % 2) 1 (λ e. absurd (omega arith)) in
    rw (now, next) (flip_odd odd))
    (even_or_odd k)

pub with_bytes-zeros : (n : ℕ) (odd : Bool) (k : ℕ) → n ≤ 65535 → with_bytes (record { sum = n; odd = odd }) (replicate k 0) ≡ record { sum = n; odd = not (beq odd (k % 2 == 1)) }
with_bytes-zeros n true zero small = refl
with_bytes-zeros n false zero small = refl
with_bytes-zeros n odd (suc k) small =
    ap (λ s. with_bytes s (replicate k 0)) (zero_byte n odd small) ∙ with_bytes-zeros n (not odd) k small
    ∙ ap (λ o. record { sum = n; odd = o }) (one_more odd k)

pub checksum-lt : (bytes : List ℕ) → checksum bytes < 256 ^ 2
unfolding checksum
checksum-lt bytes = omega arith

-- the sum of a piece behind a piece
pub with_bytes-append : (s : Running) (xs ys : List ℕ) → with_bytes s (xs ++ ys) ≡ with_bytes (with_bytes s xs) ys
with_bytes-append s xs ys = fold-append with_byte s xs ys
