-- Taking out of what is held what follows on a position: the front of runs, and what stands behind it.
use Rattle.std.proofs.Common.{◌≡◌, ℕ, zero, suc, ◌+◌, ◌<◌, ◌≤◌, Bool, true, false, cond, ◌⊎◌, nat_eq, nat_le, List, [], ◌∷◌, ◌++◌, length, Option, Some, None, refl, sym, ap, ◌∙◌, subst, arith, inl, inr, length-append}
use Rattle.std.proofs.lemmas.Bool.{cases_Bool}
use Rattle.std.proofs.lemmas.Bool.Decides.{nat_tests}
use Rattle.std.specs.Cmp.{nat_cmp_total}
use Rattle.std.specs.List.{slice_get}
use Rattle.std.specs.Option.{option_or}
use Rattle.std.specs.FinMap.{get, retain_keys, get-retain_keys, same_map, nat_cmp-IsAntisymmetric}
use Rattle.tcp_stream.specs.Held.{Held, window, front, begun}
use Rattle.tcp_stream.specs.Pieces.{Run, end_of, held_of, InOrder, joined, behind}
use Rattle.tcp_stream.proofs.Runs.{byte_at, at-in, at-past, byte_at-before, get-held_of}

pub front-is : (n : ℕ) (held : Held) (p : ℕ) (bytes : List ℕ) → ((i b : ℕ) → slice_get bytes i ≡ Some b → get held (p + i) ≡ Some b) →
    get held (p + length bytes) ≡ None → length bytes ≤ n → front n held p ≡ bytes
unfolding front
front-is zero held p [] each hole fits = refl
front-is zero held p (b ∷ bytes) each hole fits = absurd (omega arith)
front-is (suc n) held p [] each hole fits =
    let e : p + 0 ≡ p = omega arith in
    ap (λ o. begun o (front n held (p + 1))) (ap (get held) (sym e) ∙ hole)
front-is (suc n) held p (b ∷ bytes) each hole fits =
    let e : p + 0 ≡ p = omega arith in
    let f : p + suc (length bytes) ≡ (p + 1) + length bytes = omega arith in
    ap (λ o. begun o (front n held (p + 1))) (ap (get held) (sym e) ∙ each 0 b refl)
    ∙ ap (λ l. b ∷ l) (front-is n held (p + 1) bytes
    (λ i x at. let g : p + suc i ≡ (p + 1) + i = omega arith in subst (λ q. get held q ≡ Some x) g (each (suc i) x at))
    (subst (λ q. get held q ≡ None) f hole) (omega arith))

begins : (r : Run) (next : ℕ) → (nat_eq r.start next ≡ true) ⊎ (nat_eq r.start next ≡ false)
begins r next = cases_Bool (nat_eq r.start next)

same_start : (p next : ℕ) → nat_eq p next ≡ true → p ≡ next
same_start p next e = grind (arith, nat_tests)

other_start : (p next : ℕ) → nat_eq p next ≡ false → next ≤ p → next < p
other_start p next e h = grind (arith, nat_tests)

slice_get-split : (xs ys : List ℕ) (i b : ℕ) → slice_get (xs ++ ys) i ≡ Some b → (slice_get xs i ≡ Some b) ⊎ ((j : ℕ) × (i ≡ length xs + j) × (slice_get ys j ≡ Some b))
slice_get-split [] ys i b e = inr (i, omega arith, e)
slice_get-split (x ∷ xs) ys zero b e = inl e
slice_get-split (x ∷ xs) ys (suc i) b e = elim (slice_get-split xs ys i b e) [ inl h ↦ inl h | inr h ↦ inr (h.0, omega (arith, h.1), h.2) ]

-- where the first run begins at the position or not
joined-here : (r : Run) (rs : List Run) (next : ℕ) → nat_eq r.start next ≡ true → joined next (r ∷ rs) ≡ r.bytes ++ joined (end_of r) rs
joined-here r rs next e = ap (λ b. cond b (r.bytes ++ joined (end_of r) rs) []) e

joined-there : (r : Run) (rs : List Run) (next : ℕ) → nat_eq r.start next ≡ false → joined next (r ∷ rs) ≡ []
joined-there r rs next e = ap (λ b. cond b (r.bytes ++ joined (end_of r) rs) []) e

joined-held : (next to : ℕ) (rs : List Run) → InOrder next to rs → (i b : ℕ) → slice_get (joined next rs) i ≡ Some b → byte_at rs (next + i) ≡ Some b
joined-held next to [] o i b at = absurd (let bad : ⊥ = (cc) in bad)
joined-held next to (r ∷ rs) o i b at = elim (begins r next) [
  | inl e ↦
      let here : r.start ≡ next = same_start r.start next e in
      elim (slice_get-split r.bytes (joined (end_of r) rs) i b (sym (ap (λ l. slice_get l i) (joined-here r rs next e)) ∙ at)) [
        | inl first ↦
            let p : next + i ≡ r.start + i = omega arith in
            ap (λ v. option_or v (byte_at rs (next + i))) (at-in r.start r.bytes (next + i) i p ∙ first)
        | inr h ↦
            let p : next + i ≡ end_of r + h.0 = omega (arith, h.1) in
            let past : r.start + length r.bytes ≤ next + i = omega (arith, h.1) in
            ap (λ v. option_or v (byte_at rs (next + i))) (at-past r.start r.bytes (next + i) past)
            ∙ ap (byte_at rs) p ∙ joined-held (end_of r) to rs o.2 h.0 b h.2
      ]
  | inr e ↦ absurd (let none = sym (ap (λ l. slice_get l i) (joined-there r rs next e)) ∙ at in let bad : ⊥ = (cc) in bad)
]

joined-ends : (next to : ℕ) (rs : List Run) → InOrder next to rs →
    (byte_at rs (next + length (joined next rs)) ≡ None) × (next + length (joined next rs) ≤ to)
joined-ends next to [] o = (refl, omega arith)
joined-ends next to (r ∷ rs) o = elim (begins r next) [
  | inl e ↦
      let here : r.start ≡ next = same_start r.start next e in
      let later = joined-ends (end_of r) to rs o.2 in
      let n : next + length (joined next (r ∷ rs)) ≡ end_of r + length (joined (end_of r) rs) =
      omega (arith, ap length (joined-here r rs next e), length-append r.bytes (joined (end_of r) rs)) in
      let past : r.start + length r.bytes ≤ next + length (joined next (r ∷ rs)) = omega arith in (
        ap (λ v. option_or v (byte_at rs (next + length (joined next (r ∷ rs))))) (at-past r.start r.bytes _ past) ∙ ap (byte_at rs) n ∙ later.0,
        omega (arith, later.1),
      )
  | inr e ↦
      let there : next < r.start = other_start r.start next e o.0 in
      let n : next + length (joined next (r ∷ rs)) ≡ next = omega (arith, ap length (joined-there r rs next e)) in
      let all : InOrder r.start to (r ∷ rs) = (omega arith, o.1, o.2) in
      (ap (byte_at (r ∷ rs)) n ∙ byte_at-before r.start to (r ∷ rs) next all there, omega (arith, order-up (end_of r) to rs o.2))
]
  where
    order-up : (from to : ℕ) (rs : List Run) → InOrder from to rs → from ≤ to
    order-up from to [] o = o
    order-up from to (r ∷ rs) o = omega (arith, order-up (end_of r) to rs o.2)

pub front-joined : (next : ℕ) (rs : List Run) → InOrder next (next + window) rs → front window (held_of rs) next ≡ joined next rs
front-joined next rs o =
    front-is window (held_of rs) next (joined next rs)
    (λ i b at. get-held_of rs (next + i) ∙ joined-held next (next + window) rs o i b at)
    (get-held_of rs (next + length (joined next rs)) ∙ (joined-ends next (next + window) rs o).0)
    (omega (arith, (joined-ends next (next + window) rs o).1))

kept-case : (b : Bool) (x y : Option ℕ) → (b ≡ true → x ≡ y) → (b ≡ false → x ≡ None) → x ≡ cond b y None
kept-case true x y above below = above refl
kept-case false x y above below = below refl

behind-at : (next to : ℕ) (rs : List Run) → InOrder next to rs → (q : ℕ) →
    ((next + length (joined next rs) ≤ q) → byte_at (behind next rs) q ≡ byte_at rs q)
    × ((q < next + length (joined next rs)) → byte_at (behind next rs) q ≡ None)
behind-at next to [] o q = (λ h. refl, λ h. refl)
behind-at next to (r ∷ rs) o q = elim (begins r next) [
  | inl e ↦
      let here : r.start ≡ next = same_start r.start next e in
      let is : behind next (r ∷ rs) ≡ behind (end_of r) rs = ap (λ b. cond b (behind (end_of r) rs) (r ∷ rs)) e in
      let later = behind-at (end_of r) to rs o.2 q in
      let n : next + length (joined next (r ∷ rs)) ≡ end_of r + length (joined (end_of r) rs) =
      omega (arith, ap length (joined-here r rs next e), length-append r.bytes (joined (end_of r) rs)) in (
        λ h. ap (λ l. byte_at l q) is ∙ later.0 (omega arith) ∙ sym (ap (λ v. option_or v (byte_at rs q)) (at-past r.start r.bytes q (omega arith))),
        λ h. ap (λ l. byte_at l q) is ∙ later.1 (omega arith),
      )
  | inr e ↦
      let there : next < r.start = other_start r.start next e o.0 in
      let is : behind next (r ∷ rs) ≡ r ∷ rs = ap (λ b. cond b (behind (end_of r) rs) (r ∷ rs)) e in
      let n : next + length (joined next (r ∷ rs)) ≡ next = omega (arith, ap length (joined-there r rs next e)) in
      let all : InOrder r.start to (r ∷ rs) = (omega arith, o.1, o.2) in (
        λ h. ap (λ l. byte_at l q) is,
        λ h. ap (λ l. byte_at l q) is ∙ byte_at-before r.start to (r ∷ rs) q all (omega arith),
      )
]

pub held-behind : (next to : ℕ) (rs : List Run) → InOrder next to rs →
    held_of (behind next rs) ≡ retain_keys (held_of rs) (λ p. nat_le (next + length (joined next rs)) p)
held-behind next to rs o = same_map nat_cmp_total nat_cmp-IsAntisymmetric _ _ (λ q.
    let end = next + length (joined next rs) in
    let at = behind-at next to rs o q in
    get-held_of (behind next rs) q
    ∙ kept-case (nat_le end q) (byte_at (behind next rs) q) (byte_at rs q)
    (λ e. let h : end ≤ q = grind (arith, nat_tests) in at.0 h) (λ e. let h : q < end = grind (arith, nat_tests) in at.1 h)
    ∙ ap (λ v. cond (nat_le end q) v None) (sym (get-held_of rs q))
    ∙ sym (get-retain_keys (held_of rs) (λ p. nat_le end p) q (λ x tied. ap (λ p. nat_le end p) (sym (nat_cmp-IsAntisymmetric q x tied)))))

-- what is left when the front was taken out
pub after-front : (next next' : ℕ) (rs rs' : List Run) (bytes : List ℕ) (now : ℕ × Held) → InOrder next (next + window) rs →
    bytes ≡ joined next rs → rs' ≡ behind next rs → next' ≡ next + length bytes → ◌≡◌ {A = ℕ × Held} (next, held_of rs) now →
    ◌≡◌ {A = ℕ × Held} (next', held_of rs') (now.0 + length bytes, retain_keys now.1 (λ p. nat_le (now.0 + length bytes) p))
after-front next next' rs rs' bytes now o is rest moved view =
    subst (λ (v : ℕ × Held). ◌≡◌ {A = ℕ × Held} (next', held_of rs') (v.0 + length bytes, retain_keys v.1 (λ p. nat_le (v.0 + length bytes) p))) view
    (ap (λ n. (n, held_of rs')) moved
    ∙ ap (λ h. (next + length bytes, h))
    (ap held_of rest ∙ held-behind next (next + window) rs o
    ∙ ap (λ (l : List ℕ). retain_keys (held_of rs) (λ p. nat_le (next + length l) p)) (sym is)))
