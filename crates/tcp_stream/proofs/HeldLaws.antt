-- What is held after bytes came, and what the front without a hole is.
use Rattle.std.proofs.Common.{◌≡◌, ℕ, zero, suc, ◌+◌, ◌<◌, length, Bool, true, false, cond, ◌&&◌, not, nat_eq, List, [], ◌∷◌, Option, Some, None, is_some, refl, sym, ap, ◌∙◌, subst, arith}
use Rattle.std.proofs.lemmas.Bool.Decides.{nat_tests}
use Rattle.std.specs.Cmp.{unsigned_tied, nat_cmp_total}
use Rattle.std.specs.Option.{option_or}
use Rattle.std.specs.FinMap.{get, insert, get-insert}
use Rattle.tcp_stream.specs.Held.{Held, in_window, hold, taken_in, front, begun}
use Rattle.std.specs.List.{slice_get}

pub option_or-none : {A : Type 0} (x : Option A) → option_or x None ≡ x
option_or-none None = refl
option_or-none (Some x) = refl

pub option_or-assoc : {A : Type 0} (x y z : Option A) → option_or (option_or x y) z ≡ option_or x (option_or y z)
option_or-assoc None y z = refl
option_or-assoc (Some x) y z = refl

get-cond : (c : Bool) (m n : Held) (q : ℕ) → get (cond c m n) q ≡ cond c (get m q) (get n q)
get-cond true m n q = refl
get-cond false m n q = refl

first_wins : (b : ℕ) (t e : Bool) (y x : Option ℕ) → (e ≡ true → x ≡ y) →
    cond (t && not (is_some y)) (cond e (Some b) x) x ≡ option_or x (cond (t && e) (Some b) None)
first_wins b false e y x h = sym (option_or-none x)
first_wins b true false None x h = sym (option_or-none x)
first_wins b true false (Some z) x h = sym (option_or-none x)
first_wins b true true None x h = subst (λ v. Some b ≡ option_or v (Some b)) (sym (h refl)) refl
first_wins b true true (Some z) x h = subst (λ v. v ≡ option_or v (Some b)) (sym (h refl)) refl

same_position : (q p : ℕ) → nat_eq q p ≡ true → q ≡ p
same_position q p e = grind (arith, nat_tests)

pub get-hold : (rcv : ℕ) (held : Held) (p b q : ℕ) →
    get (hold rcv held p b) q ≡ option_or (get held q) (cond (in_window rcv p && nat_eq q p) (Some b) None)
get-hold rcv held p b q =
    get-cond (in_window rcv p && not (is_some (get held p))) (insert held p b) held q
    ∙ ap (λ v. cond (in_window rcv p && not (is_some (get held p))) v (get held q))
    (get-insert nat_cmp_total held p b q ∙ ap (λ e. cond e (Some b) (get held q)) (unsigned_tied q p))
    ∙ first_wins b (in_window rcv p) (nat_eq q p) (get held p) (get held q) (λ e. ap (get held) (same_position q p e))

-- what bytes that begin at a position offer at another
abbrev pub offered : ℕ → ℕ → List ℕ → ℕ → Option ℕ
offered rcv p [] q = None
offered rcv p (b ∷ bs) q = option_or (cond (in_window rcv p && nat_eq q p) (Some b) None) (offered rcv (p + 1) bs q)

pub get-taken_in : (rcv : ℕ) (held : Held) (p : ℕ) (bs : List ℕ) (q : ℕ) →
    get (taken_in rcv held p bs) q ≡ option_or (get held q) (offered rcv p bs q)
get-taken_in rcv held p [] q = sym (option_or-none (get held q))
get-taken_in rcv held p (b ∷ bs) q =
    get-taken_in rcv (hold rcv held p b) (p + 1) bs q
    ∙ ap (λ v. option_or v (offered rcv (p + 1) bs q)) (get-hold rcv held p b q)
    ∙ option_or-assoc (get held q) _ (offered rcv (p + 1) bs q)

begun-at : (o : Option ℕ) (rest : List ℕ) (b : ℕ) → slice_get (begun o rest) 0 ≡ Some b → o ≡ Some b
begun-at None rest b e = absurd (let bad : ⊥ = (cc) in bad)
begun-at (Some x) rest b e = e

begun-behind : (o : Option ℕ) (rest : List ℕ) (i b : ℕ) → slice_get (begun o rest) (suc i) ≡ Some b → slice_get rest i ≡ Some b
begun-behind None rest i b e = absurd (let bad : ⊥ = (cc) in bad)
begun-behind (Some x) rest i b e = e

nothing_at : (i b : ℕ) → slice_get {X = ℕ} [] i ≡ Some b → ⊥
nothing_at i b e = (cc)

pub front-each : (room : ℕ) (held : Held) (p i b : ℕ) → slice_get (front room held p) i ≡ Some b → get held (p + i) ≡ Some b
unfolding front
front-each zero held p i b e = absurd (nothing_at i b e)
front-each (suc room) held p zero b e = let at : p + 0 ≡ p = omega arith in ap (get held) at ∙ begun-at (get held p) (front room held (p + 1)) b e
front-each (suc room) held p (suc i) b e =
    let at : p + suc i ≡ p + 1 + i = omega arith in
    ap (get held) at ∙ front-each room held (p + 1) i b (begun-behind (get held p) (front room held (p + 1)) i b e)

pub front-hole : (room : ℕ) (held : Held) (p : ℕ) → length (front room held p) < room → get held (p + length (front room held p)) ≡ None
unfolding front
front-hole zero held p h = absurd (omega arith)
front-hole (suc room) held p h =
    elim (get held p) as (λ o. get held p ≡ o → length (begun o (front room held (p + 1))) < suc room → get held (p + length (begun o (front room held (p + 1)))) ≡ None) [
      | None ↦ λ e k. let at : p + 0 ≡ p = omega arith in ap (get held) at ∙ e
      | Some b ↦ λ e k.
          let at : p + suc (length (front room held (p + 1))) ≡ p + 1 + length (front room held (p + 1)) = omega arith in
          ap (get held) at ∙ front-hole room held (p + 1) (omega arith)
    ] refl h
