-- The ports but one.
use Rattle.std.proofs.Common.{◌≡◌, ◌≢◌, ℕ, zero, suc, ◌+◌, ◌-◌, ◌<◌, ◌≤◌, true, false, cond, List, [], ◌∷◌, ◌++◌, refl, ap, ◌∙◌, arith, add-one, inl, inr}
use Rattle.std.proofs.lemmas.Bool.{cond_both, cond-true, cond-false, cases_eq, eq-eqb}
use Rattle.std.proofs.lemmas.Bool.Decides.{nat_tests}
use Rattle.std.proofs.lemmas.List.Sums.{sum_by-cons, sum_by-append}
use Rattle.std.specs.List.{count_by}
use Rattle.std.specs.Prelude.{◌==◌}
use Rattle.bridge_dev.specs.Step.{others}

-- one port more

pub others_zero : (port : ℕ) → others port 0 ≡ []
unfolding others
others_zero port = refl

others_more : (port n : ℕ) → others port (n + 1) ≡ cond (n == port) (others port n) (others port n ++ n ∷ [])
unfolding others
others_more port n = ap (others port) (add-one n)

self-eq : (n k : ℕ) → n ≡ k → (n == k) ≡ true
self-eq n k e = eq-eqb n k e

apart-eq : (n k : ℕ) → n ≢ k → (n == k) ≡ false
apart-eq n k h = grind (arith, nat_tests)

pub others_here : (port n : ℕ) → n ≡ port → others port (n + 1) ≡ others port n
others_here port n e = others_more port n ∙ cond-true (n == port) _ _ (self-eq n port e)

pub others_next : (port n : ℕ) → n ≢ port → others port (n + 1) ≡ others port n ++ n ∷ []
others_next port n e = others_more port n ∙ cond-false (n == port) _ _ (apart-eq n port e)

-- the last port, where that isn't the one where a frame came in

pub others_last : (port ports : ℕ) → port + 1 < ports → others port ports ≡ others port (ports - 1) ++ (ports - 1) ∷ []
others_last port ports below =
    let back : ports ≡ ports - 1 + 1 = omega (arith, below) in
    let apart : ports - 1 ≢ port = omega (arith, below) in
    ap (others port) back ∙ others_next port (ports - 1) apart

-- and where it is: the one before

others_own : (port ports : ℕ) → ports ≤ port + 1 → port < ports → others port ports ≡ others port port
others_own port ports most least =
    let same : ports ≡ port + 1 = omega (arith, most, least) in
    ap (others port) same ∙ others_here port port refl

pub others_skip : (port ports : ℕ) → ports ≤ port + 1 → port < ports → 0 < port → others port ports ≡ others port (port - 1) ++ (port - 1) ∷ []
others_skip port ports most least some =
    let back : port ≡ port - 1 + 1 = omega (arith, some) in
    let apart : port - 1 ≢ port = omega (arith, some) in
    others_own port ports most least ∙ ap (others port) back ∙ others_next port (port - 1) apart

pub others_none : (port ports : ℕ) → ports ≤ port + 1 → port < ports → port ≤ 0 → others port ports ≡ []
unfolding others
others_none port ports most least none =
    let same : port ≡ 0 = omega (arith, none) in
    others_own port ports most least ∙ ap (others port) same

-- how often a port stands among others

abbrev pub counted : ℕ → List ℕ → ℕ
counted q xs = count_by (λ p. p == q) xs

counted-append : (q : ℕ) (xs ys : List ℕ) → counted q (xs ++ ys) ≡ counted q xs + counted q ys
counted-append q xs ys = sum_by-append (λ (p : ℕ). cond (p == q) 1 0) xs ys

pub counted-cons : (q n : ℕ) (xs : List ℕ) → counted q (n ∷ xs) ≡ cond (n == q) 1 0 + counted q xs
counted-cons q n xs = sum_by-cons (λ (p : ℕ). cond (p == q) 1 0) n xs

counted-push : (q n : ℕ) (xs : List ℕ) → counted q (xs ++ n ∷ []) ≡ counted q xs + cond (n == q) 1 0
counted-push q n xs = omega (arith, counted-append q xs (n ∷ []), counted-cons q n [])

pub others_away : (port n : ℕ) → counted port (others port n) ≡ 0
unfolding others
others_away port zero = refl
others_away port (suc n) =
    cond_both (n == port) (others port n) (others port n ++ n ∷ []) (λ (xs : List ℕ). counted port xs ≡ 0)
    (λ _. others_away port n)
    (λ apart. omega (arith, counted-push port n (others port n), cond-false {A = ℕ} (n == port) 1 0 apart, others_away port n))

others_past : (port q n : ℕ) → n ≤ q → counted q (others port n) ≡ 0
unfolding others
others_past port q zero past = refl
others_past port q (suc n) past =
    let before = others_past port q n (omega (arith, past)) in
    let apart : (n == q) ≡ false = apart-eq n q (omega (arith, past)) in
    cond_both (n == port) (others port n) (others port n ++ n ∷ []) (λ (xs : List ℕ). counted q xs ≡ 0)
    (λ _. before)
    (λ _. omega (arith, counted-push q n (others port n), cond-false {A = ℕ} (n == q) 1 0 apart, before))

pub others_once : (port q n : ℕ) → counted q (others port n) ≤ 1
unfolding others
others_once port q zero = omega arith
others_once port q (suc n) =
    cond_both (n == port) (others port n) (others port n ++ n ∷ []) (λ (xs : List ℕ). counted q xs ≤ 1)
    (λ _. others_once port q n)
    (λ _.
    elim (cases_eq n q) [
      | inl here ↦
          let before = others_past port q n (omega (arith, here)) in
          omega (arith, counted-push q n (others port n), cond-true {A = ℕ} (n == q) 1 0 (self-eq n q here), before)
      | inr apart ↦
          let none : (n == q) ≡ false = apart-eq n q apart in
          omega (arith, counted-push q n (others port n), cond-false {A = ℕ} (n == q) 1 0 none, others_once port q n)
    ])
