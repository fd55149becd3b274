-- Keys are totally ordered, first of all by time.
use Rattle.std.proofs.Common.{◌≡◌, ℕ, ◌<◌, ◌≤◌, true, false, List, [], ◌∷◌, refl, arith, inl, inr}
use Rattle.std.proofs.lemmas.Bool.{cases_Bool}
use Rattle.std.proofs.lemmas.Bool.Decides.{nat_tests}
use Rattle.sim_base.specs.declared.key.Key.{Key}
use Rattle.sim_base.specs.KeyOrder.{numbers, earlier, before}

pub earlier-not_back : (xs ys : List ℕ) → earlier xs ys ≡ true → earlier ys xs ≡ false
unfolding earlier
earlier-not_back [] [] h = refl
earlier-not_back [] (y ∷ ys) h = refl
earlier-not_back (x ∷ xs) [] h = cc
earlier-not_back (x ∷ xs) (y ∷ ys) h = let ih = earlier-not_back xs ys in grind (arith, nat_tests)

pub earlier-up : (xs ys zs : List ℕ) → earlier xs ys ≡ true → earlier zs ys ≡ false → earlier xs zs ≡ true
unfolding earlier
earlier-up [] [] zs h k = cc
earlier-up (x ∷ xs) [] zs h k = cc
earlier-up [] (y ∷ ys) [] h k = cc
earlier-up [] (y ∷ ys) (z ∷ zs) h k = refl
earlier-up (x ∷ xs) (y ∷ ys) [] h k = cc
earlier-up (x ∷ xs) (y ∷ ys) (z ∷ zs) h k = let ih = earlier-up xs ys zs in grind (arith, nat_tests)

earlier-total : (xs ys : List ℕ) → earlier xs ys ≡ false → earlier ys xs ≡ false → xs ≡ ys
unfolding earlier
earlier-total [] [] h k = refl
earlier-total [] (y ∷ ys) h k = cc
earlier-total (x ∷ xs) [] h k = cc
earlier-total (x ∷ xs) (y ∷ ys) h k = let ih = earlier-total xs ys in grind (arith, nat_tests)

pub before-not_back : (a b : Key) → before a b ≡ true → before b a ≡ false
unfolding before
before-not_back a b h = earlier-not_back (numbers a) (numbers b) h

pub before-up : (a b c : Key) → before a b ≡ true → before c b ≡ false → before a c ≡ true
unfolding before
before-up a b c h k = earlier-up (numbers a) (numbers b) (numbers c) h k

same_key : (a b : Key) → numbers a ≡ numbers b → a ≡ b
same_key a b e =
    let t : a.time.0 ≡ b.time.0 = cc in let n : a.node.0 ≡ b.node.0 = cc in let s : a.sent.0 ≡ b.sent.0 = cc in
    let y : a.by.0 ≡ b.by.0 = cc in let c : a.count ≡ b.count = cc in
    λ i. record {
      time = record { 0 = t i };
      node = record { 0 = n i };
      sent = record { 0 = s i };
      by = record { 0 = y i };
      count = c i;
    }

pub before-total : (a b : Key) → before a b ≡ false → before b a ≡ false → a ≡ b
unfolding before
before-total a b h k = same_key a b (earlier-total (numbers a) (numbers b) h k)

-- a comes before b, where c isn't before b and a is not behind c
pub before-chain : (a b c : Key) → before b a ≡ false → before c b ≡ false → before c a ≡ false
before-chain a b c h k =
    elim (cases_Bool (before c a)) [ inl e ↦ absurd (let x = before-up c a b e h in cc) | inr e ↦ e ]

earlier-head : (x y : ℕ) (xs ys : List ℕ) → earlier (x ∷ xs) (y ∷ ys) ≡ true → x ≤ y
unfolding earlier
earlier-head x y xs ys h = grind (arith, nat_tests)

earlier-less : (x y : ℕ) (xs ys : List ℕ) → x < y → earlier (x ∷ xs) (y ∷ ys) ≡ true
unfolding earlier
earlier-less x y xs ys h = grind (arith, nat_tests)

pub before-time : (a b : Key) → before a b ≡ true → a.time.0 ≤ b.time.0
unfolding before
before-time a b h = earlier-head a.time.0 b.time.0 _ _ h

pub time-before : (a b : Key) → a.time.0 < b.time.0 → before a b ≡ true
unfolding before
time-before a b h = earlier-less a.time.0 b.time.0 _ _ h

pub before-trans : (a b c : Key) → before a b ≡ true → before b c ≡ true → before a c ≡ true
before-trans a b c h k = before-up a b c h (before-not_back b c k)
