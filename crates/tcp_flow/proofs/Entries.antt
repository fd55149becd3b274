-- Connections by their numbers when one is added, changed or removed: what stands under each number, and their order.
use Rattle.std.proofs.Common.{◌≡◌, ℕ, ◌<◌, true, false, cond, List, [], ◌∷◌, Option, None, Some, is_some, refl, sym, ap, subst, ◌∙◌, arith}
use Rattle.std.specs.declared.cmp.Ordering.{Ordering}
use Rattle.std.specs.declared.cmp.Ordering.TheVariants.{Less, Equal, Greater}
use Rattle.std.specs.BTreeMap.{insert_entry, is_at}
use Rattle.std.specs.Cmp.{eq_by_cmp_equiv, nat_cmp_total, ranks}
use Rattle.std.specs.List.{AllByRecursion}
use Rattle.std.specs.List.Sorted.{IsStrictlySortedBy}
use Rattle.std.specs.Map.{keys_of, remove_entry, set_value}
use Rattle.std.specs.Ordering.{MatchOrdering, match_ordering, nat_cmp}
use Rattle.std.proofs.lemmas.Map.{keys-set_value, lookup-remove_entry, lookup-set_value}
use Rattle.std.proofs.lemmas.Map.Entries.{lookup_head, lookup_tail}
use Rattle.std.proofs.lemmas.Map.Keys.{sorted_head, sorted_tail, IsDistinct-from_sorted}
use Rattle.tcp_flow.specs.declared.conn.Conn.{Conn}
use Rattle.tcp_flow.specs.Table.{under}
use Rattle.tcp_flow.specs.Index.{InOrder}
use Rattle.tcp_flow.proofs.Indexing.{at_itself, at_same, by_cases}

abbrev Entries : Type 0
Entries = List (ℕ × Conn)

pub apart : (n m : ℕ) → (n ≡ m → ⊥) → is_at (nat_cmp n) m ≡ false
apart n m ne = by_cases (is_at (nat_cmp n) m) (λ t. absurd (ne (at_same n m t))) (λ f. f)

-- a test for a number tells of any number what its own test does
one_number : (n x y : ℕ) → is_at (nat_cmp n) x ≡ true → is_at (nat_cmp n) y ≡ is_at (nat_cmp x) y
one_number n x y h = ap (λ m. is_at (nat_cmp m) y) (at_same n x h)

-- ---- by the order of two numbers

ordered_at : {P : Type 0} → (x y : ℕ) → (o : Ordering) → nat_cmp x y ≡ o → MatchOrdering o (x < y) (x ≡ y) (y < x) →
    (nat_cmp x y ≡ Less → x < y → P) → (nat_cmp x y ≡ Equal → x ≡ y → P) → (nat_cmp x y ≡ Greater → y < x → P) → P
ordered_at x y Less e h l q g = l e h
ordered_at x y Equal e h l q g = q e h
ordered_at x y Greater e h l q g = g e h

by_order : {P : Type 0} → (x y : ℕ) →
    (nat_cmp x y ≡ Less → x < y → P) → (nat_cmp x y ≡ Equal → x ≡ y → P) → (nat_cmp x y ≡ Greater → y < x → P) → P
by_order x y l q g = ordered_at x y (nat_cmp x y) refl (ranks x y) l q g

less_from_below : (x y : ℕ) → x < y → nat_cmp x y ≡ Less
less_from_below x y h =
    by_order x y (λ e _. e) (λ e same. absurd (omega arith)) (λ e above. absurd (omega arith))

below_from_less : (x y : ℕ) → nat_cmp x y ≡ Less → x < y
below_from_less x y h = let P : Ordering → Type 0 = λ r. MatchOrdering r (x < y) (x ≡ y) (y < x) in subst P h (ranks x y)

-- ---- one is added

inserted : (e : ℕ × Conn) (es : Entries) (n : ℕ) (k : Conn) (o : Ordering) → nat_cmp n e.0 ≡ o →
    insert_entry nat_cmp (e ∷ es) n k ≡ match_ordering o ((n, k) ∷ e ∷ es) ((e.0, k) ∷ es) (e ∷ insert_entry nat_cmp es n k)
inserted e es n k o h = ap (λ r. match_ordering r ((n, k) ∷ e ∷ es) ((e.0, k) ∷ es) (e ∷ insert_entry nat_cmp es n k)) h

pub under-added : (n : ℕ) (k : Conn) (es : Entries) → under n (insert_entry nat_cmp es n k) ≡ Some k
under-added n k [] = lookup_head (is_at (nat_cmp n)) (n, k) [] (at_itself n)
under-added n k (e ∷ es) =
    by_order n e.0
    (λ o h. ap (under n) (inserted e es n k Less o) ∙ lookup_head (is_at (nat_cmp n)) (n, k) (e ∷ es) (at_itself n))
    (λ o h. ap (under n) (inserted e es n k Equal o) ∙ lookup_head (is_at (nat_cmp n)) (e.0, k) es (ap (is_at (nat_cmp n)) (sym h) ∙ at_itself n))
    (λ o h.
    ap (under n) (inserted e es n k Greater o)
    ∙ lookup_tail (is_at (nat_cmp n)) e (insert_entry nat_cmp es n k) (apart n e.0 (λ same. omega arith)) ∙ under-added n k es)

pub under-others_added : (m n : ℕ) (k : Conn) (es : Entries) → (m ≡ n → ⊥) → under m (insert_entry nat_cmp es n k) ≡ under m es
under-others_added m n k [] ne = lookup_tail (is_at (nat_cmp m)) (n, k) [] (apart m n ne)
under-others_added m n k (e ∷ es) ne =
    by_order n e.0
    (λ o h. ap (under m) (inserted e es n k Less o) ∙ lookup_tail (is_at (nat_cmp m)) (n, k) (e ∷ es) (apart m n ne))
    (λ o h.
    let off = apart m e.0 (λ same. ne (same ∙ sym h)) in
    ap (under m) (inserted e es n k Equal o) ∙ lookup_tail (is_at (nat_cmp m)) (e.0, k) es off ∙ sym (lookup_tail (is_at (nat_cmp m)) e es off))
    (λ o h.
    ap (under m) (inserted e es n k Greater o)
    ∙ ap (λ (found : Option Conn). cond (is_at (nat_cmp m) e.0) (Some e.1) found) (under-others_added m n k es ne))

keys_above : (x n : ℕ) (k : Conn) (es : Entries) → nat_cmp x n ≡ Less → AllByRecursion (λ y. nat_cmp x y ≡ Less) (keys_of es) →
    AllByRecursion (λ y. nat_cmp x y ≡ Less) (keys_of (insert_entry nat_cmp es n k))
keys_above x n k [] low h = (low, tt)
keys_above x n k (e ∷ es) low h =
    let P : Entries → Type 0 = λ es. AllByRecursion (λ y. nat_cmp x y ≡ Less) (keys_of es) in
    by_order n e.0
    (λ o _. subst P (sym (inserted e es n k Less o)) (low, h))
    (λ o _. subst P (sym (inserted e es n k Equal o)) h)
    (λ o _. subst P (sym (inserted e es n k Greater o)) (h.0, keys_above x n k es low h.1))

rises : (x y : ℕ) (ks : List ℕ) → x < y → AllByRecursion (λ z. nat_cmp y z ≡ Less) ks → AllByRecursion (λ z. nat_cmp x z ≡ Less) ks
rises x y [] low h = tt
rises x y (z ∷ zs) low h = (let above = below_from_less y z h.0 in less_from_below x z (omega arith), rises x y zs low h.1)

sorted_from : (x : ℕ) (ks : List ℕ) → AllByRecursion (λ y. nat_cmp x y ≡ Less) ks → IsStrictlySortedBy nat_cmp ks → IsStrictlySortedBy nat_cmp (x ∷ ks)
unfolding IsStrictlySortedBy
sorted_from x ks above sorted = (above, sorted)

none_sorted : IsStrictlySortedBy nat_cmp []
unfolding IsStrictlySortedBy
none_sorted = tt

pub in_order-added : (n : ℕ) (k : Conn) (es : Entries) → InOrder es → InOrder (insert_entry nat_cmp es n k)
in_order-added n k [] h = sorted_from n [] tt none_sorted
in_order-added n k (e ∷ es) h =
    let head = sorted_head nat_cmp e.0 (keys_of es) h in
    let tail = sorted_tail nat_cmp e.0 (keys_of es) h in
    by_order n e.0
    (λ o low. subst InOrder (sym (inserted e es n k Less o)) (sorted_from n (keys_of (e ∷ es)) (o, rises n e.0 (keys_of es) low head) h))
    (λ o same. subst InOrder (sym (inserted e es n k Equal o)) h)
    (λ o high.
    subst InOrder (sym (inserted e es n k Greater o))
    (sorted_from e.0 (keys_of (insert_entry nat_cmp es n k)) (keys_above e.0 n k es (less_from_below e.0 n high) head) (in_order-added n k es tail)))

-- ---- one changes

pub under-changed : (m n : ℕ) (k : Conn) (es : Entries) → is_some (under n es) ≡ true →
    under m (set_value (is_at (nat_cmp n)) es k) ≡ cond (is_at (nat_cmp n) m) (Some k) (under m es)
under-changed m n k es there = lookup-set_value (eq_by_cmp_equiv nat_cmp_total) (is_at (nat_cmp n)) (one_number n) m k es there

pub in_order-changed : (n : ℕ) (k : Conn) (es : Entries) → InOrder es → InOrder (set_value (is_at (nat_cmp n)) es k)
in_order-changed n k es h = subst (IsStrictlySortedBy nat_cmp) (sym (keys-set_value (is_at (nat_cmp n)) es k)) h

-- ---- one is removed

pub under-removed : (m n : ℕ) (es : Entries) → InOrder es →
    under m (remove_entry (is_at (nat_cmp n)) es) ≡ cond (is_at (nat_cmp n) m) None (under m es)
under-removed m n es h =
    lookup-remove_entry (eq_by_cmp_equiv nat_cmp_total) (is_at (nat_cmp n)) (one_number n) m es (IsDistinct-from_sorted nat_cmp (keys_of es) h)

still_above : (x n : ℕ) (es : Entries) → AllByRecursion (λ y. nat_cmp x y ≡ Less) (keys_of es) →
    AllByRecursion (λ y. nat_cmp x y ≡ Less) (keys_of (remove_entry (is_at (nat_cmp n)) es))
still_above x n [] h = tt
still_above x n (e ∷ es) h =
    elim (is_at (nat_cmp n) e.0) as (λ b. AllByRecursion (λ y. nat_cmp x y ≡ Less) (keys_of (cond b es (e ∷ remove_entry (is_at (nat_cmp n)) es)))) [
      | true ↦ h.1
      | false ↦ (h.0, still_above x n es h.1)
    ]

pub in_order-removed : (n : ℕ) (es : Entries) → InOrder es → InOrder (remove_entry (is_at (nat_cmp n)) es)
in_order-removed n [] h = h
in_order-removed n (e ∷ es) h =
    let head = sorted_head nat_cmp e.0 (keys_of es) h in
    let tail = sorted_tail nat_cmp e.0 (keys_of es) h in
    elim (is_at (nat_cmp n) e.0) as (λ b. InOrder (cond b es (e ∷ remove_entry (is_at (nat_cmp n)) es))) [
      | true ↦ tail
      | false ↦ sorted_from e.0 (keys_of (remove_entry (is_at (nat_cmp n)) es)) (still_above e.0 n es head) (in_order-removed n es tail)
    ]
