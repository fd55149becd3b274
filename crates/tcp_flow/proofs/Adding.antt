-- A new connection takes the least free number.
use Rattle.std.proofs.Common.{◌≡◌, ℕ, ◌+◌, ◌<◌, ◌≤◌, ◌&&◌, not, nat_lt, cond, Bool, true, false, List, [], ◌∷◌, length, Option, None, Some, is_some, Bor, ◌↔◌, refl, sym, ap, ◌∙◌, subst, arith}
use Rattle.std.specs.BTreeMap.{is_at}
use Rattle.std.specs.BTreeSet as set
use Rattle.std.specs.BTreeSet.{BTreeSet}
use Rattle.std.specs.List.{AllByRecursion, list_any}
use Rattle.std.specs.Map.{keys_of}
use Rattle.std.specs.Option.{option_copied, IfSome, IsSome, IsSomeAnd}
use Rattle.std.specs.Ordering.{nat_cmp, is_gt}
use Rattle.std.proofs.lemmas.Bool.{and_parts, and_from, and_right, cond-true, cond-false, both_ways, false≢true, ltb-true, lt-ltb}
use Rattle.std.proofs.lemmas.Map.Keys.{le_from_not_gt}
use Rattle.std.proofs.lemmas.Option.{same_Some, none-some}
use Rattle.tcp_wire.specs.declared.words.SocketPair.{SocketPair}
use Rattle.tcp_flow.specs.declared.conn.Conn.{Conn}
use Rattle.tcp_flow.specs.Table.{under, same_pair, between, least_free}
use Rattle.tcp_flow.specs.Index.{IsIndexed, InOrder}
use Rattle.tcp_flow.proofs.Indexing.{at_itself, pair_same, by_cases, came}
use Rattle.tcp_flow.proofs.Lookups.{between_is, least_none, least_le}

-- what a call found

pub first_copied : (o : Option (Bor ℕ)) (P : ℕ → Type 0) (n : ℕ) → IfSome o (λ k. P k.now) → option_copied o ≡ Some n → P n
first_copied None P n h e = absurd (none-some n e)
first_copied (Some k) P n h e = subst P (same_Some k.now n e) h

no_key : (o : Option (Bor ℕ)) (ks : List ℕ) → (IsSome o ↔ (0 < length ks)) → option_copied o ≡ None → ks ≡ []
no_key o [] h e = refl
no_key None (k ∷ ks) h e = absurd (false≢true (h.1 (omega arith)))
no_key (Some x) (k ∷ ks) h e = absurd (none-some x.now (sym e))

pub none_first : (o : Option (Bor ℕ)) (s : BTreeSet ℕ) → (IsSome o ↔ (0 < length s.keys)) → option_copied o ≡ None → (q : ℕ) → set.contains nat_cmp s q ≡ false
none_first o s h e q = ap (λ ks. list_any (is_at (nat_cmp q)) ks) (no_key o s.keys h e)

pub some_and : (o : Option Conn) (P : Conn → Type 0) → IsSomeAnd o P → (k : Conn) × (o ≡ Some k) × P k
some_and None P h = absurd h
some_and (Some k) P h = (k, refl, h)

-- which number is the least

pub any_low : (ks : List ℕ) → AllByRecursion (λ q. 0 ≤ q) ks
any_low [] = tt
any_low (k ∷ ks) = (omega arith, any_low ks)

is_none : (o : Option Conn) → not (is_some o) ≡ true → o ≡ None
is_none None h = refl
is_none (Some k) h = absurd (false≢true h)

none_there : (o : Option Conn) → ((k : Conn) → o ≡ Some k → ⊥) → o ≡ None
none_there None h = refl
none_there (Some k) h = absurd (h k refl)

is_unused : (es : List (ℕ × Conn)) (i : SocketPair → Option ℕ) (f : ℕ → Bool) (next q : ℕ) → IsIndexed (λ n. under n es) i f next → under q es ≡ None → q < next → f q ≡ true
is_unused es i f next q h none low =
    h.unused q ∙ and_from (nat_lt q next) (not (is_some (under q es))) (lt-ltb q next low) (ap (λ (o : Option Conn). not (is_some o)) none)

same_from_le : (a b : ℕ) → a ≤ b → (a < b → ⊥) → a ≡ b
same_from_le a b le ne = omega arith

none_at_next : (es : List (ℕ × Conn)) (i : SocketPair → Option ℕ) (f : ℕ → Bool) (next : ℕ) → IsIndexed (λ n. under n es) i f next → under next es ≡ None
none_at_next es i f next h = none_there (under next es) (λ k e. let low = h.below next k e in absurd (omega arith))

pub least_from_free : (es : List (ℕ × Conn)) (i : SocketPair → Option ℕ) (f : ℕ → Bool) (next n : ℕ) → InOrder es → IsIndexed (λ m. under m es) i f next →
    f n ≡ true → ((q : ℕ) → f q ≡ true → is_gt (nat_cmp n q) ≡ false) → n ≡ least_free 0 es
least_from_free es i f next n o h free least =
    let here = and_parts (nat_lt n next) (not (is_some (under n es))) (sym (h.unused n) ∙ free) in
    let low = ltb-true n next here.0 in
    let le = least_le 0 n es (is_none (under n es) here.1) (omega arith) in
    let none = least_none 0 es o (any_low (keys_of es)) in
    let ge = le_from_not_gt n (least_free 0 es) (least (least_free 0 es) (is_unused es i f next (least_free 0 es) h none (omega arith))) in
    omega arith

pub least_from_next : (es : List (ℕ × Conn)) (i : SocketPair → Option ℕ) (f : ℕ → Bool) (next : ℕ) → InOrder es → IsIndexed (λ m. under m es) i f next →
    ((q : ℕ) → f q ≡ false) → next ≡ least_free 0 es
least_from_next es i f next o h none_free =
    let le = least_le 0 next es (none_at_next es i f next h) (omega arith) in
    let none = least_none 0 es o (any_low (keys_of es)) in
    sym (same_from_le (least_free 0 es) next le
    (λ low. both_ways (f (least_free 0 es)) (none_free (least_free 0 es)) (is_unused es i f next (least_free 0 es) h none low)))

-- a number that is not among the free ones is the next
pub number_is_next : (es : List (ℕ × Conn)) (i : SocketPair → Option ℕ) (f : ℕ → Bool) (next n : ℕ) → InOrder es → IsIndexed (λ m. under m es) i f next →
    n ≡ least_free 0 es → f n ≡ false → n ≡ next
number_is_next es i f next n o h is none_free =
    let le = least_le 0 next es (none_at_next es i f next h) (omega arith) in
    let none : under n es ≡ None = ap (λ m. under m es) is ∙ least_none 0 es o (any_low (keys_of es)) in
    same_from_le n next (omega arith) (λ low. both_ways (f n) none_free (is_unused es i f next n h none low))

-- the table with the new connection

unused_with : (c c' : ℕ → Option Conn) (f f' : ℕ → Bool) (next next' n : ℕ) (k : Conn) →
    ((q : ℕ) → f q ≡ (nat_lt q next && not (is_some (c q)))) → ((q : ℕ) → (n ≡ q → ⊥) → nat_lt q next ≡ nat_lt q next') →
    ((q : ℕ) → c' q ≡ cond (is_at (nat_cmp n) q) (Some k) (c q)) → ((q : ℕ) → f' q ≡ cond (is_at (nat_cmp n) q) false (f q)) →
    (q : ℕ) → f' q ≡ (nat_lt q next' && not (is_some (c' q)))
unused_with c c' f f' next next' n k unused same new free q =
    by_cases (is_at (nat_cmp n) q)
    (λ b.
    free q ∙ cond-true (is_at (nat_cmp n) q) false (f q) b
    ∙ sym (and_right (nat_lt q next') (not (is_some (c' q))) (ap (λ (o : Option Conn). not (is_some o)) (new q ∙ cond-true (is_at (nat_cmp n) q) (Some k) (c q) b))))
    (λ b.
    let ne : n ≡ q → ⊥ = λ e. both_ways (is_at (nat_cmp n) q) b (ap (is_at (nat_cmp n)) (sym e) ∙ at_itself n) in
    free q ∙ cond-false (is_at (nat_cmp n) q) false (f q) b ∙ unused q
    ∙ ap (λ t. t && not (is_some (c q))) (same q ne)
    ∙ ap (λ (o : Option Conn). nat_lt q next' && not (is_some o)) (sym (new q ∙ cond-false (is_at (nat_cmp n) q) (Some k) (c q) b)))

lt_more : (q n : ℕ) → (n ≡ q → ⊥) → nat_lt q n ≡ nat_lt q (n + 1)
lt_more q n ne = grind arith

module _ (es es' : List (ℕ × Conn)) (i i' : SocketPair → Option ℕ) (f f' : ℕ → Bool) (next n : ℕ) (k : Conn) (o : InOrder es)
    (h : IsIndexed (λ m. under m es) i f next) (is : n ≡ least_free 0 es) (alone : between k.pair es ≡ None)
    (new : (q : ℕ) → under q es' ≡ cond (is_at (nat_cmp n) q) (Some k) (under q es))
    (found : (p : SocketPair) → i' p ≡ cond (same_pair k.pair p) (Some n) (i p))
    (free : (q : ℕ) → f' q ≡ cond (is_at (nat_cmp n) q) false (f q)) where
  none_yet : under n es ≡ None
  none_yet = ap (λ m. under m es) is ∙ least_none 0 es o (any_low (keys_of es))

  none_found : i k.pair ≡ None
  none_found = between_is k.pair es i f next o h ∙ alone

  pub with_free : f n ≡ true → IsIndexed (λ m. under m es') i' f' next
  with_free was =
      let here = and_parts (nat_lt n next) (not (is_some (under n es))) (sym (h.unused n) ∙ was) in
      let low = ltb-true n next here.0 in
      came (λ m. under m es) (λ m. under m es') i i' f f' next next n k h none_yet none_found (omega arith) low new found
      (unused_with (λ m. under m es) (λ m. under m es') f f' next next n k h.unused (λ q ne. refl) new free)

  pub with_next : f n ≡ false → IsIndexed (λ m. under m es') i' f' (next + 1)
  with_next was =
      let n_is = number_is_next es i f next n o h is was in
      came (λ m. under m es) (λ m. under m es') i i' f f' next (next + 1) n k h none_yet none_found (omega arith) (omega arith) new found
      (unused_with (λ m. under m es) (λ m. under m es') f f' next (next + 1) n k h.unused (λ q ne. lt_more q next (λ e. ne (n_is ∙ e))) new free)

-- where there was no memory for it, the index is as before

pub same-index : (c : ℕ → Option Conn) (i j : SocketPair → Option ℕ) (f : ℕ → Bool) (next : ℕ) → IsIndexed c i f next → ((p : SocketPair) → j p ≡ i p) → IsIndexed c j f next
same-index c i j f next h same =
    record {
      found = λ q k e. same k.pair ∙ h.found q k e;
      real = λ p q e. h.real p q (sym (same p) ∙ e);
      below = h.below;
      unused = h.unused;
    }

pub not_added : (es : List (ℕ × Conn)) (i i' j : SocketPair → Option ℕ) (f : ℕ → Bool) (next n : ℕ) (pair : SocketPair) → InOrder es →
    IsIndexed (λ m. under m es) i f next → between pair es ≡ None → ((p : SocketPair) → i' p ≡ cond (same_pair pair p) (Some n) (i p)) →
    ((p : SocketPair) → j p ≡ cond (same_pair pair p) None (i' p)) → IsIndexed (λ m. under m es) j f next
not_added es i i' j f next n pair o h alone found undone =
    same-index (λ m. under m es) i j f next h
    (λ p.
    by_cases (same_pair pair p)
    (λ b.
    undone p ∙ cond-true (same_pair pair p) None (i' p) b ∙ sym (between_is pair es i f next o h ∙ alone) ∙ ap i (pair_same pair p b))
    (λ b.
    undone p ∙ cond-false (same_pair pair p) None (i' p) b ∙ found p ∙ cond-false (same_pair pair p) (Some n) (i p) b))
