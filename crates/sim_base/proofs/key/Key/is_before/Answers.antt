use Rattle.std.proofs.Common.{◌≡◌, ◌∙◌, ℕ, ◌==◌, ◌&&◌, ◌||◌, nat_lt, Bool, true, false, cond, refl, ap}
use Rattle.std.specs.Ordering.{is_lt, nat_cmp, ordering_then}
use Rattle.std.specs.declared.cmp.Ordering.{Ordering}
use Rattle.std.specs.declared.cmp.Ordering.TheVariants.{Less, Equal, Greater}
use Rattle.sim_base.specs.declared.key.Key.{Key}
use Rattle.sim_base.specs.KeyOrder.{before, earlier}
use Rattle.sim_base.proofs.key.Key.is_before.Goals as goal

-- one number of a key, and then the rest
then_lt : (x y : ℕ) (o : Ordering) (b : Bool) → is_lt o ≡ b →
    is_lt (ordering_then (nat_cmp x y) o) ≡ (nat_lt x y || (x == y && b))
then_lt x y o b h = go (nat_lt x y) (x == y)
  where
    go : (less same : Bool) → is_lt (ordering_then (cond less Less (cond same Equal Greater)) o) ≡ (less || (same && b))
    go true same = refl
    go false true = h
    go false false = refl

last_lt : (x y : ℕ) → is_lt (nat_cmp x y) ≡ (nat_lt x y || (x == y && false))
last_lt x y = go (nat_lt x y) (x == y)
  where
    go : (less same : Bool) → is_lt (cond less Less (cond same Equal Greater)) ≡ (less || (same && false))
    go true same = refl
    go false true = refl
    go false false = refl

key_lt : (a b : Key) → is_lt (ordering_then (nat_cmp a.time.0 b.time.0) (ordering_then (nat_cmp a.node.0 b.node.0)
    (ordering_then (nat_cmp a.sent.0 b.sent.0) (ordering_then (nat_cmp a.by.0 b.by.0) (nat_cmp a.count b.count))))) ≡ before a b
unfolding before earlier
key_lt a b =
    let count = nat_cmp a.count b.count in
    let sender = ordering_then (nat_cmp a.by.0 b.by.0) count in
    let sent_at = ordering_then (nat_cmp a.sent.0 b.sent.0) sender in
    then_lt a.time.0 b.time.0 (ordering_then (nat_cmp a.node.0 b.node.0) sent_at) _
    (then_lt a.node.0 b.node.0 sent_at _ (then_lt a.sent.0 b.sent.0 sender _ (then_lt a.by.0 b.by.0 count _ (last_lt a.count b.count))))

pub returns : goal.returns
returns c = c.is_lt.ensures ∙ ap is_lt c.cmp.ensures ∙ key_lt c.args.self.now c.args.other.now
