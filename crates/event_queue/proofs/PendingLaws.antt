-- For callers that number their events: which keys are new, and what holds of the events after a push.
use Rattle.std.proofs.Common.{◌≡◌, ℕ, ◌+◌, ◌<◌, List, [], ◌∷◌, ap, arith}
use Rattle.std.specs.List.{AllByRecursion}
use Rattle.sim_base.specs.declared.key.Key.{Key}
use Rattle.event_queue.specs.Pending.{key_of, IsNew}
use Rattle.sim_base.specs.KeyOrder.{insert_by}
use Rattle.event_queue.proofs.InOrder.{all-weaken, all-insert}

module _ {Load : Type 0} where
  -- the counts of the events are below a number
  abbrev pub CountsBelow : ℕ → List (Key × Load) → Type 0
  CountsBelow n events = AllByRecursion (λ event. event.0.count < n) events

  pub new-from_count : (key : Key) (events : List (Key × Load)) → CountsBelow key.count events → IsNew key events
  new-from_count key [] a = tt
  new-from_count key (event ∷ events) a =
      ((λ same. let e = ap (λ (k : Key). k.count) same in absurd (omega arith)), new-from_count key events a.1)

  pub counts-insert : (n : ℕ) (key : Key) (load : Load) (events : List (Key × Load)) → key.count ≡ n → CountsBelow n events →
      CountsBelow (n + 1) (insert_by key_of (key, load) events)
  counts-insert n key load events is a =
      all-insert key_of (λ event. event.0.count < n + 1) (key, load) events (omega arith)
      (all-weaken (λ event. event.0.count < n) (λ event. event.0.count < n + 1) (λ event below. omega arith) events a)
