-- How connections are found, and which numbers are free, when one comes, changes or goes.
use Rattle.std.proofs.Common.{◌≡◌, ℕ, ◌<◌, ◌≤◌, ◌&&◌, ◌==◌, not, nat_lt, cond, Bool, true, false, List, [], ◌∷◌, Option, None, Some, is_some, refl, sym, ap, ◌∙◌, subst, arith, eq-eqb}
use Rattle.std.specs.BTreeMap.{BTreeMap, WritesThrough, is_at}
use Rattle.std.specs.BTreeSet as set
use Rattle.std.specs.HashMap as hash
use Rattle.std.specs.Map.{remove_entry, set_value}
use Rattle.std.specs.Ordering.{nat_cmp}
use Rattle.std.specs.Cmp.{eq_by_cmp_equiv, nat_cmp_total}
use Rattle.std.proofs.lemmas.Bool.{and_parts, and_from, cond-true, cond-false, eqb-true, both_ways, lt-ltb}
use Rattle.std.proofs.lemmas.Map.Lookups.{exact_unsigned}
use Rattle.std.proofs.lemmas.Map.Views.{All-values-set_value, tells_apart}
use Rattle.std.proofs.lemmas.Option.{same_Some, none-some}
use Rattle.tcp_conn.specs.Fits.{Fits}
use Rattle.tcp_wire.specs.declared.words.SocketPair.{SocketPair}
use Rattle.tcp_flow.specs.declared.conn.Conn.{Conn}
use Rattle.tcp_flow.specs.declared.table.Table.TheInside.{Inside}
use Rattle.tcp_flow.specs.Held.{IsHeld}
use Rattle.tcp_flow.specs.Table.{AllFit, AllWait, under, same_pair}
use Rattle.tcp_flow.specs.Index.{IsIndexed}

pub by_cases : {P : Type 0} → (b : Bool) → (b ≡ true → P) → (b ≡ false → P) → P
by_cases true t f = t refl
by_cases false t f = f refl

-- numbers and pairs are told apart

pub at_itself : (n : ℕ) → is_at (nat_cmp n) n ≡ true
at_itself n = (eq_by_cmp_equiv nat_cmp_total).refl n

pub at_same : (n q : ℕ) → is_at (nat_cmp n) q ≡ true → n ≡ q
at_same n q h = tells_apart exact_unsigned n q h

pub pair_itself : (p : SocketPair) → same_pair p p ≡ true
pair_itself p =
    and_from (p.addr == p.addr) (p.port == p.port && (p.other_addr == p.other_addr && p.other_port == p.other_port)) (eq-eqb p.addr p.addr refl)
    (and_from (p.port == p.port) (p.other_addr == p.other_addr && p.other_port == p.other_port) (eq-eqb p.port p.port refl)
    (and_from (p.other_addr == p.other_addr) (p.other_port == p.other_port) (eq-eqb p.other_addr p.other_addr refl) (eq-eqb p.other_port p.other_port refl)))

same_fields : (p q : SocketPair) → p.addr ≡ q.addr → p.port ≡ q.port → p.other_addr ≡ q.other_addr → p.other_port ≡ q.other_port → p ≡ q
same_fields p q a b c d = λ i. record { addr = a i; port = b i; other_addr = c i; other_port = d i }

pub pair_same : (p q : SocketPair) → same_pair p q ≡ true → p ≡ q
pair_same p q h =
    let a = and_parts (p.addr == q.addr) (p.port == q.port && (p.other_addr == q.other_addr && p.other_port == q.other_port)) h in
    let b = and_parts (p.port == q.port) (p.other_addr == q.other_addr && p.other_port == q.other_port) a.1 in
    let c = and_parts (p.other_addr == q.other_addr) (p.other_port == q.other_port) b.1 in
    same_fields p q (eqb-true p.addr q.addr a.0) (eqb-true p.port q.port b.0) (eqb-true p.other_addr q.other_addr c.0) (eqb-true p.other_port q.other_port c.1)

-- a connection changes, between the same two

pub changed : (c c' : ℕ → Option Conn) (i : SocketPair → Option ℕ) (f : ℕ → Bool) (next n : ℕ) (k k' : Conn) →
    IsIndexed c i f next → c n ≡ Some k → k'.pair ≡ k.pair → ((q : ℕ) → c' q ≡ cond (is_at (nat_cmp n) q) (Some k') (c q)) → IsIndexed c' i f next
changed c c' i f next n k k' h is ends new =
    record {
      found = λ q j e.
          by_cases (is_at (nat_cmp n) q)
          (λ b.
          let j_is = same_Some k' j (sym (cond-true (is_at (nat_cmp n) q) (Some k') (c q) b) ∙ sym (new q) ∙ e) in
          ap i (ap (λ (x : Conn). x.pair) (sym j_is) ∙ ends) ∙ h.found n k is ∙ ap Some (at_same n q b))
          (λ b. h.found q j (sym (cond-false (is_at (nat_cmp n) q) (Some k') (c q) b) ∙ sym (new q) ∙ e));
      real = λ p q e.
          let r = h.real p q e in
          by_cases (is_at (nat_cmp n) q)
          (λ b.
          let r_is = same_Some k r.0 (sym is ∙ ap c (at_same n q b) ∙ r.1) in
          (k', new q ∙ cond-true (is_at (nat_cmp n) q) (Some k') (c q) b, ends ∙ ap (λ (x : Conn). x.pair) r_is ∙ r.2))
          (λ b. (r.0, new q ∙ cond-false (is_at (nat_cmp n) q) (Some k') (c q) b ∙ r.1, r.2));
      below = λ q j e.
          by_cases (is_at (nat_cmp n) q)
          (λ b. subst (λ m. m < next) (at_same n q b) (h.below n k is))
          (λ b. h.below q j (sym (cond-false (is_at (nat_cmp n) q) (Some k') (c q) b) ∙ sym (new q) ∙ e));
      unused = λ q.
          let there : is_some (c q) ≡ is_some (c' q) =
          by_cases (is_at (nat_cmp n) q)
          (λ b.
          ap (is_some {T = Conn}) (ap c (sym (at_same n q b)) ∙ is)
          ∙ sym (ap (is_some {T = Conn}) (new q ∙ cond-true (is_at (nat_cmp n) q) (Some k') (c q) b)))
          (λ b. sym (ap (is_some {T = Conn}) (new q ∙ cond-false (is_at (nat_cmp n) q) (Some k') (c q) b))) in
          h.unused q ∙ ap (λ b. nat_lt q next && not b) there;
    }

-- a connection goes, and its number is free

pub gone : (c c' : ℕ → Option Conn) (i i' : SocketPair → Option ℕ) (f f' : ℕ → Bool) (next n : ℕ) (k : Conn) →
    IsIndexed c i f next → c n ≡ Some k → ((q : ℕ) → c' q ≡ cond (is_at (nat_cmp n) q) None (c q)) →
    ((p : SocketPair) → i' p ≡ cond (same_pair k.pair p) None (i p)) → ((q : ℕ) → f' q ≡ cond (is_at (nat_cmp n) q) true (f q)) → IsIndexed c' i' f' next
gone c c' i i' f f' next n k h is new found free =
    record {
      found = λ q j e.
          by_cases (is_at (nat_cmp n) q)
          (λ b. absurd (none-some j (sym (new q ∙ cond-true (is_at (nat_cmp n) q) None (c q) b) ∙ e)))
          (λ b.
          let there = sym (new q ∙ cond-false (is_at (nat_cmp n) q) None (c q) b) ∙ e in
          by_cases (same_pair k.pair j.pair)
          (λ s.
          let n_is = same_Some n q (sym (h.found n k is) ∙ ap i (pair_same k.pair j.pair s) ∙ h.found q j there) in
          absurd (both_ways (is_at (nat_cmp n) q) b (ap (λ m. is_at (nat_cmp n) m) (sym n_is) ∙ at_itself n)))
          (λ s. found j.pair ∙ cond-false (same_pair k.pair j.pair) None (i j.pair) s ∙ h.found q j there));
      real = λ p q e.
          by_cases (same_pair k.pair p)
          (λ s. absurd (none-some q (sym (found p ∙ cond-true (same_pair k.pair p) None (i p) s) ∙ e)))
          (λ s.
          let r = h.real p q (sym (found p ∙ cond-false (same_pair k.pair p) None (i p) s) ∙ e) in
          by_cases (is_at (nat_cmp n) q)
          (λ b.
          let k_is = same_Some k r.0 (sym is ∙ ap c (at_same n q b) ∙ r.1) in
          let ends = ap (λ (x : Conn). x.pair) k_is ∙ r.2 in
          absurd (both_ways (same_pair k.pair p) s (ap (λ o. same_pair k.pair o) (sym ends) ∙ pair_itself k.pair)))
          (λ b. (r.0, new q ∙ cond-false (is_at (nat_cmp n) q) None (c q) b ∙ r.1, r.2)));
      below = λ q j e.
          by_cases (is_at (nat_cmp n) q)
          (λ b. absurd (none-some j (sym (new q ∙ cond-true (is_at (nat_cmp n) q) None (c q) b) ∙ e)))
          (λ b. h.below q j (sym (new q ∙ cond-false (is_at (nat_cmp n) q) None (c q) b) ∙ e));
      unused = λ q.
          by_cases (is_at (nat_cmp n) q)
          (λ b.
          let low : q < next = subst (λ m. m < next) (at_same n q b) (h.below n k is) in
          let none = new q ∙ cond-true (is_at (nat_cmp n) q) None (c q) b in
          free q ∙ cond-true (is_at (nat_cmp n) q) true (f q) b
          ∙ sym (and_from (nat_lt q next) (not (is_some (c' q))) (lt-ltb q next low) (ap (λ (o : Option Conn). not (is_some o)) none)))
          (λ b.
          free q ∙ cond-false (is_at (nat_cmp n) q) true (f q) b ∙ h.unused q
          ∙ ap (λ (o : Option Conn). nat_lt q next && not (is_some o)) (sym (new q ∙ cond-false (is_at (nat_cmp n) q) None (c q) b)));
    }

-- a new connection comes, between two that have none

pub came : (c c' : ℕ → Option Conn) (i i' : SocketPair → Option ℕ) (f f' : ℕ → Bool) (next next' n : ℕ) (k : Conn) →
    IsIndexed c i f next → c n ≡ None → i k.pair ≡ None → next ≤ next' → n < next' → ((q : ℕ) → c' q ≡ cond (is_at (nat_cmp n) q) (Some k) (c q)) →
    ((p : SocketPair) → i' p ≡ cond (same_pair k.pair p) (Some n) (i p)) → ((q : ℕ) → f' q ≡ (nat_lt q next' && not (is_some (c' q)))) → IsIndexed c' i' f' next'
came c c' i i' f f' next next' n k h none alone more low new found free =
    record {
      found = λ q j e.
          by_cases (is_at (nat_cmp n) q)
          (λ b.
          let j_is = same_Some k j (sym (new q ∙ cond-true (is_at (nat_cmp n) q) (Some k) (c q) b) ∙ e) in
          let ends = ap (λ (x : Conn). x.pair) j_is in
          sym (ap i' ends) ∙ found k.pair ∙ cond-true (same_pair k.pair k.pair) (Some n) (i k.pair) (pair_itself k.pair) ∙ ap Some (at_same n q b))
          (λ b.
          let there = h.found q j (sym (new q ∙ cond-false (is_at (nat_cmp n) q) (Some k) (c q) b) ∙ e) in
          by_cases (same_pair k.pair j.pair)
          (λ s. absurd (none-some q (sym alone ∙ ap i (pair_same k.pair j.pair s) ∙ there)))
          (λ s. found j.pair ∙ cond-false (same_pair k.pair j.pair) (Some n) (i j.pair) s ∙ there));
      real = λ p q e.
          by_cases (same_pair k.pair p)
          (λ s.
          let n_is = same_Some n q (sym (found p ∙ cond-true (same_pair k.pair p) (Some n) (i p) s) ∙ e) in
          let b = ap (λ m. is_at (nat_cmp n) m) (sym n_is) ∙ at_itself n in
          (k, new q ∙ cond-true (is_at (nat_cmp n) q) (Some k) (c q) b, pair_same k.pair p s))
          (λ s.
          let r = h.real p q (sym (found p ∙ cond-false (same_pair k.pair p) (Some n) (i p) s) ∙ e) in
          by_cases (is_at (nat_cmp n) q)
          (λ b. absurd (none-some r.0 (sym none ∙ ap c (at_same n q b) ∙ r.1)))
          (λ b. (r.0, new q ∙ cond-false (is_at (nat_cmp n) q) (Some k) (c q) b ∙ r.1, r.2)));
      below = λ q j e.
          by_cases (is_at (nat_cmp n) q)
          (λ b. subst (λ m. m < next') (at_same n q b) low)
          (λ b.
          let under_next = h.below q j (sym (new q ∙ cond-false (is_at (nat_cmp n) q) (Some k) (c q) b) ∙ e) in
          omega arith);
      unused = free;
    }

-- a connection is written in its place
pub written : (t : Inside) (m : BTreeMap ℕ Conn) (n : ℕ) (k w : Conn) → IsHeld t → under n t.conns.entries ≡ Some k → w.pair ≡ k.pair →
    WritesThrough nat_cmp (nat_cmp n) t.conns w m → Fits w.connection → 0 < w.connection.round_trip.rto → IsHeld (record t { conns = m })
written t m n k w h is ends through fit wait =
    record {
      in_order = through.4;
      indexed =
          changed (λ q. under q t.conns.entries) (λ q. under q m.entries) (hash.get same_pair t.index) (set.contains nat_cmp t.free) t.next n k w
          h.indexed is ends (through.3 (ap (is_some {T = Conn}) is)).0;
      free_in_order = h.free_in_order;
      fit = subst AllFit (sym through.0) (All-values-set_value (is_at (nat_cmp n)) (λ (c : Conn). Fits c.connection) t.conns.entries w h.fit fit);
      wait = subst AllWait (sym through.0) (All-values-set_value (is_at (nat_cmp n)) (λ (c : Conn). 0 < c.connection.round_trip.rto) t.conns.entries w h.wait wait);
    }

pub remove-set : (test : ℕ → Bool) (es : List (ℕ × Conn)) (w : Conn) → remove_entry test (set_value test es w) ≡ remove_entry test es
remove-set test [] w = refl
remove-set test (e ∷ es) w =
    by_cases (test e.0)
    (λ b.
    ap (remove_entry test) (cond-true (test e.0) ((e.0, w) ∷ es) (e ∷ set_value test es w) b)
    ∙ cond-true (test e.0) es ((e.0, w) ∷ remove_entry test es) b
    ∙ sym (cond-true (test e.0) es (e ∷ remove_entry test es) b))
    (λ b.
    ap (remove_entry test) (cond-false (test e.0) ((e.0, w) ∷ es) (e ∷ set_value test es w) b)
    ∙ cond-false (test e.0) (set_value test es w) (e ∷ remove_entry test (set_value test es w)) b
    ∙ ap (λ rest. e ∷ rest) (remove-set test es w)
    ∙ sym (cond-false (test e.0) es (e ∷ remove_entry test es) b))
