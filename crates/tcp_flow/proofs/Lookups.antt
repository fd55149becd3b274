-- Connections in the order of their numbers: what is between two, and the least free number.
use Rattle.std.proofs.Common.{◌≡◌, ℕ, suc, ◌<◌, ◌≤◌, ◌==◌, Bool, false, List, [], ◌∷◌, Option, None, Some, refl, sym, ap, ◌∙◌, subst, arith}
use Rattle.std.specs.declared.cmp.Ordering.{Ordering}
use Rattle.std.specs.declared.cmp.Ordering.TheVariants.{Less}
use Rattle.std.specs.BTreeMap.{is_at}
use Rattle.std.specs.Cmp.{eq_by_cmp_equiv, nat_cmp_total, nat_cmp_is, ranks}
use Rattle.std.specs.Ordering.{MatchOrdering}
use Rattle.std.specs.List.{AllByRecursion}
use Rattle.std.specs.Map.{keys_of}
use Rattle.std.specs.Ordering.{nat_cmp}
use Rattle.std.proofs.lemmas.Bool.{cond-true, cond-false, eqb-true, eqb-false, both_ways}
use Rattle.std.proofs.lemmas.Map.{lookup-none}
use Rattle.std.proofs.lemmas.Map.Entries.{lookup_head, lookup_tail, none_past_head, none_below_head}
use Rattle.std.proofs.lemmas.Map.Keys.{sorted_head, sorted_tail, IsDistinct-from_sorted}
use Rattle.std.proofs.lemmas.Option.{same_Some, none-some}
use Rattle.tcp_wire.specs.declared.words.SocketPair.{SocketPair}
use Rattle.tcp_flow.specs.declared.conn.Conn.{Conn}
use Rattle.tcp_flow.specs.Table.{under, same_pair, between, least_free}
use Rattle.tcp_flow.specs.Index.{IsIndexed, InOrder}
use Rattle.tcp_flow.proofs.Indexing.{at_itself, at_same, pair_itself, pair_same, by_cases}

pub by_option : {A P : Type 0} → (o : Option A) → (o ≡ None → P) → ((x : A) → o ≡ Some x → P) → P
by_option None n s = n refl
by_option (Some x) n s = s x refl

-- between two

pub between_finds : (p : SocketPair) (es : List (ℕ × Conn)) (n : ℕ) → InOrder es → between p es ≡ Some n → (k : Conn) × (under n es ≡ Some k) × (k.pair ≡ p)
between_finds p [] n o h = absurd (none-some n h)
between_finds p (e ∷ es) n o h =
    by_cases (same_pair p e.1.pair)
    (λ b.
    let n_is = same_Some e.0 n (sym (cond-true (same_pair p e.1.pair) (Some e.0) (between p es) b) ∙ h) in
    (e.1, lookup_head (is_at (nat_cmp n)) e es (ap (is_at (nat_cmp n)) n_is ∙ at_itself n), sym (pair_same p e.1.pair b)))
    (λ b.
    let r = between_finds p es n (sorted_tail nat_cmp e.0 (keys_of es) o) (sym (cond-false (same_pair p e.1.pair) (Some e.0) (between p es) b) ∙ h) in
    by_cases (is_at (nat_cmp n) e.0)
    (λ t.
    let none = lookup-none (is_at (nat_cmp n)) es (none_past_head (eq_by_cmp_equiv nat_cmp_total) n e es (IsDistinct-from_sorted nat_cmp (keys_of (e ∷ es)) o) t) in
    absurd (none-some r.0 (sym none ∙ r.1)))
    (λ f. (r.0, lookup_tail (is_at (nat_cmp n)) e es f ∙ r.1, r.2)))

between_none : (p : SocketPair) (es : List (ℕ × Conn)) (n : ℕ) (k : Conn) → between p es ≡ None → under n es ≡ Some k → k.pair ≡ p → ⊥
between_none p [] n k h e s = none-some k e
between_none p (x ∷ xs) n k h e s =
    by_cases (same_pair p x.1.pair)
    (λ b. none-some x.0 (sym h ∙ cond-true (same_pair p x.1.pair) (Some x.0) (between p xs) b))
    (λ b.
    by_cases (is_at (nat_cmp n) x.0)
    (λ t.
    let k_is = same_Some x.1 k (sym (lookup_head (is_at (nat_cmp n)) x xs t) ∙ e) in
    let ends = ap (λ (c : Conn). c.pair) k_is ∙ s in
    both_ways (same_pair p x.1.pair) b (ap (same_pair p) ends ∙ pair_itself p))
    (λ f. between_none p xs n k (sym (cond-false (same_pair p x.1.pair) (Some x.0) (between p xs) b) ∙ h) (sym (lookup_tail (is_at (nat_cmp n)) x xs f) ∙ e) s))

-- the index finds what is between two
pub between_is : (p : SocketPair) (es : List (ℕ × Conn)) (i : SocketPair → Option ℕ) (f : ℕ → Bool) (next : ℕ) → InOrder es →
    IsIndexed (λ n. under n es) i f next → i p ≡ between p es
between_is p es i f next o h =
    by_option (between p es)
    (λ b.
    by_option (i p)
    (λ n. n ∙ sym b)
    (λ m e. absurd (let r = h.real p m e in between_none p es m r.0 b r.1 r.2)))
    (λ n b.
    let r = between_finds p es n o b in
    sym (ap i r.2) ∙ h.found n r.0 r.1 ∙ sym b)

-- the least free number

below_from_less : (x y : ℕ) → nat_cmp x y ≡ Less → x < y
below_from_less x y h = let P : Ordering → Type 0 = λ r. MatchOrdering r (x < y) (x ≡ y) (y < x) in subst P h (ranks x y)

rises : (x m : ℕ) (ks : List ℕ) → x ≡ m → AllByRecursion (λ y. nat_cmp x y ≡ Less) ks → AllByRecursion (λ q. suc m ≤ q) ks
rises x m [] e a = tt
rises x m (y ∷ ys) e a = (let low = below_from_less x y a.0 in omega arith, rises x m ys e a.1)

least_ge : (m : ℕ) (es : List (ℕ × Conn)) → m ≤ least_free m es
least_ge m [] = omega arith
least_ge m (e ∷ es) =
    by_cases (e.0 == m)
    (λ b.
    let rest = least_ge (suc m) es in
    let is = cond-true (e.0 == m) (least_free (suc m) es) m b in
    omega arith)
    (λ b. let is = cond-false (e.0 == m) (least_free (suc m) es) m b in omega arith)

by_lt : (m q : ℕ) → m ≤ q → (q ≡ m → ⊥) → m < q
by_lt m q high ne = omega arith

next_le : (m n q : ℕ) → m ≤ n → q ≡ m → (n ≡ q → ⊥) → suc m ≤ n
next_le m n q le is ne = omega arith

apart : (n m : ℕ) → (n ≡ m → ⊥) → is_at (nat_cmp n) m ≡ false
apart n m ne = by_cases (is_at (nat_cmp n) m) (λ t. absurd (ne (at_same n m t))) (λ f. f)

-- it is free
pub least_none : (m : ℕ) (es : List (ℕ × Conn)) → InOrder es → AllByRecursion (λ q. m ≤ q) (keys_of es) → under (least_free m es) es ≡ None
least_none m [] o above = refl
least_none m (e ∷ es) o above =
    by_cases (e.0 == m)
    (λ b.
    let e_is = eqb-true e.0 m b in
    let is = cond-true (e.0 == m) (least_free (suc m) es) m b in
    let high = least_ge (suc m) es in
    ap (λ l. under l (e ∷ es)) is
    ∙ lookup_tail (is_at (nat_cmp (least_free (suc m) es))) e es (apart (least_free (suc m) es) e.0 (λ same. omega arith))
    ∙ least_none (suc m) es (sorted_tail nat_cmp e.0 (keys_of es) o) (rises e.0 m (keys_of es) e_is (sorted_head nat_cmp e.0 (keys_of es) o)))
    (λ b.
    let ne = eqb-false e.0 m b in
    let high : m ≤ e.0 = above.0 in
    let low : m < e.0 = by_lt m e.0 high ne in
    ap (λ l. under l (e ∷ es)) (cond-false (e.0 == m) (least_free (suc m) es) m b)
    ∙ lookup-none (is_at (nat_cmp m)) (e ∷ es) (none_below_head nat_cmp_total m e es o (sym (nat_cmp_is m e.0 Less low))))

-- and none that is free is less
pub least_le : (m n : ℕ) (es : List (ℕ × Conn)) → under n es ≡ None → m ≤ n → least_free m es ≤ n
least_le m n [] none le = le
least_le m n (e ∷ es) none le =
    by_cases (e.0 == m)
    (λ b.
    let e_is = eqb-true e.0 m b in
    let is = cond-true (e.0 == m) (least_free (suc m) es) m b in
    by_cases (is_at (nat_cmp n) e.0)
    (λ t. absurd (none-some e.1 (sym none ∙ lookup_head (is_at (nat_cmp n)) e es t)))
    (λ f.
    let ne : n ≡ e.0 → ⊥ = λ same. both_ways (is_at (nat_cmp n) e.0) f (ap (is_at (nat_cmp n)) (sym same) ∙ at_itself n) in
    let rest = least_le (suc m) n es (sym (lookup_tail (is_at (nat_cmp n)) e es f) ∙ none) (next_le m n e.0 le e_is ne) in
    omega arith))
    (λ b. let is = cond-false (e.0 == m) (least_free (suc m) es) m b in omega arith)
