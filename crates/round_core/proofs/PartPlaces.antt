-- Families of things by number, with another in one place or below a number.
use Rattle.std.proofs.Common.{◌≡◌, ℕ, ◌≤◌, suc, ◌==◌, nat_lt, if◌then◌else◌, refl, sym, ap, ◌∙◌, arith, inl, inr}
use mathlib.Core.Path.{fun_ext}
use Rattle.std.proofs.lemmas.Bool.{cases_lt, lt-ltb, le-ltb, cases_eq, eq-eqb, ne_eqb}

-- another part in a group's place
pub put_part : {A : Type 0} → ℕ → A → (ℕ → A) → ℕ → A
put_part g p parts h = if h == g then p else parts h

pub put-same : {A : Type 0} (g h : ℕ) (p : A) (parts : ℕ → A) → h ≡ g → put_part g p parts h ≡ p
unfolding put_part
put-same g h p parts e = let t = eq-eqb h g e in rw t refl

pub put-other : {A : Type 0} (g h : ℕ) (p : A) (parts : ℕ → A) → (h ≡ g → ⊥) → put_part g p parts h ≡ parts h
unfolding put_part
put-other g h p parts ne = let f = ne_eqb h g ne in rw f refl

pub put-self : {A : Type 0} (g : ℕ) (parts : ℕ → A) → put_part g (parts g) parts ≡ parts
put-self g parts = fun_ext (λ h. elim (cases_eq h g) [
  | inl same ↦ put-same g h (parts g) parts same ∙ ap parts (sym same)
  | inr other ↦ put-other g h (parts g) parts other
])

pub put-put : {A : Type 0} (g : ℕ) (p q : A) (parts : ℕ → A) → put_part g p (put_part g q parts) ≡ put_part g p parts
put-put g p q parts = fun_ext (λ h. elim (cases_eq h g) [
  | inl same ↦ put-same g h p (put_part g q parts) same ∙ sym (put-same g h p parts same)
  | inr other ↦ put-other g h p (put_part g q parts) other ∙ put-other g h q parts other ∙ sym (put-other g h p parts other)
])

-- the parts below a number are new
pub below_number : {A : Type 0} → ℕ → (ℕ → A) → (ℕ → A) → ℕ → A
below_number k news parts h = if nat_lt h k then news h else parts h

pub none-below : {A : Type 0} (news parts : ℕ → A) → below_number 0 news parts ≡ parts
unfolding below_number
none-below news parts = fun_ext (λ h. let f = le-ltb h 0 (omega arith) in rw f refl)

pub at-number : {A : Type 0} (k : ℕ) (news parts : ℕ → A) → below_number k news parts k ≡ parts k
unfolding below_number
at-number k news parts = let f = le-ltb k k (omega arith) in rw f refl

pub one-more : {A : Type 0} (k : ℕ) (news parts : ℕ → A) → put_part k (news k) (below_number k news parts) ≡ below_number (suc k) news parts
unfolding put_part below_number
one-more k news parts = fun_ext (λ h. elim (cases_eq h k) [
  | inl same ↦ let t = eq-eqb h k same in let u = lt-ltb h (suc k) (omega arith) in rw (t, u) (sym (ap news same))
  | inr other ↦ elim (cases_lt h k) [
    | inl lt ↦ let f = ne_eqb h k other in let t = lt-ltb h k lt in let u = lt-ltb h (suc k) (omega arith) in rw (f, t, u) refl
    | inr le ↦ let f = ne_eqb h k other in let t = le-ltb h k le in let u = le-ltb h (suc k) (omega arith) in rw (f, t, u) refl
  ]
])

pub all-below : {A : Type 0} (count : ℕ) (news parts : ℕ → A) → ((g : ℕ) → count ≤ g → news g ≡ parts g) → below_number count news parts ≡ news
unfolding below_number
all-below count news parts rest = fun_ext (λ h. elim (cases_lt h count) [
  | inl lt ↦ let t = lt-ltb h count lt in rw t refl
  | inr le ↦ let f = le-ltb h count le in rw f (sym (rest h le))
])
