-- What `cmp` answers of keys, as the order of keys.
use Rattle.std.proofs.Common.{◌≡◌, ◌≢◌, ℕ, ◌==◌, ◌&&◌, ◌||◌, nat_lt, Bool, true, false, cond, List, refl, sym, ◌∙◌, arith}
use native.Mathlib.Decide.{dec_lt}
use Rattle.std.proofs.lemmas.Bool.{lt-ltb, le-ltb}
use Rattle.core.specs.Cmp.{IsTotalOrder, then_total, on_total, back_total, nat_cmp_total}
use Rattle.std.specs.Ordering.{is_lt, nat_cmp, ordering_then}
use Rattle.std.specs.declared.cmp.Ordering.{Ordering}
use Rattle.std.specs.declared.cmp.Ordering.TheVariants.{Less, Equal, Greater}
use Rattle.sim_base.specs.declared.key.Key.{Key}
use Rattle.sim_base.specs.KeyOrder.{before, earlier}
use Rattle.sim_base.proofs.KeyLaws.{time-before, before-not_back}
use Rattle.event_queue.specs.Heap.{key_at, key_cmp, entry_cmp}
use Rattle.event_queue.specs.declared.heap.Entry.{Entry}

-- one number of a key, and then the rest
then_lt : (x y : ℕ) (o : Ordering) (b : Bool) → is_lt o ≡ b →
    is_lt (ordering_then (nat_cmp x y) o) ≡ (nat_lt x y || (x == y && b))
then_lt x y o b h = go (nat_lt x y) (x == y)
  where
    go : (less same : Bool) → is_lt (ordering_then (cond less Less (cond same Equal Greater)) o) ≡ (less || (same && b))
    go true same = refl
    go false true = h
    go false false = refl

last_lt : (x y : ℕ) → is_lt (nat_cmp x y) ≡ (nat_lt x y || (x == y && false))
last_lt x y = go (nat_lt x y) (x == y)
  where
    go : (less same : Bool) → is_lt (cond less Less (cond same Equal Greater)) ≡ (less || (same && false))
    go true same = refl
    go false true = refl
    go false false = refl

pub key_cmp-before : (a b : Key) → is_lt (key_cmp a b) ≡ before a b
unfolding before earlier
key_cmp-before a b =
    let count = nat_cmp a.count b.count in
    let sender = ordering_then (nat_cmp a.by.0 b.by.0) count in
    let sent_at = ordering_then (nat_cmp a.sent.0 b.sent.0) sender in
    then_lt a.time.0 b.time.0 (ordering_then (nat_cmp a.node.0 b.node.0) sent_at) _
    (then_lt a.node.0 b.node.0 sent_at _ (then_lt a.sent.0 b.sent.0 sender _ (then_lt a.by.0 b.by.0 count _ (last_lt a.count b.count))))

-- keys are totally ordered, and so are the entries of a heap by their keys
key_cmp-total : IsTotalOrder key_cmp
key_cmp-total =
    then_total (on_total (λ (k : Key). k.time.0) nat_cmp_total)
    (then_total (on_total (λ (k : Key). k.node.0) nat_cmp_total)
    (then_total (on_total (λ (k : Key). k.sent.0) nat_cmp_total)
    (then_total (on_total (λ (k : Key). k.by.0) nat_cmp_total) (on_total (λ (k : Key). k.count) nat_cmp_total))))

pub entry_cmp-total : (keys : List Key) → IsTotalOrder (entry_cmp keys)
entry_cmp-total keys = on_total (λ (e : Entry). key_at keys e.place) (back_total key_cmp-total)

-- where the times differ they decide
pub before-by_time : (a b : Key) → a.time.0 ≢ b.time.0 → nat_lt a.time.0 b.time.0 ≡ before a b
before-by_time a b differ =
    elim (dec_lt a.time.0 b.time.0) [
      | yes first ↦ lt-ltb a.time.0 b.time.0 first ∙ sym (time-before a b first)
      | no later ↦ le-ltb a.time.0 b.time.0 (omega (arith, later)) ∙ sym (before-not_back b a (time-before b a (omega (arith, later, differ))))
    ]
