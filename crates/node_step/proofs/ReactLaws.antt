-- A node reacts as its stage does, and counts what it asks for.
use Rattle.std.proofs.Common.{◌≡◌, ◌↔◌, ℕ, ◌+◌, ◌<◌, ◌≤◌, Bool, false, leb, List, [], length, None, Some, IsTrue, nat_lt, if◌then◌else◌, inl, inr, ap, sym, ◌∙◌, le-ltb, lt-ltb, leb-true, leb-false}
use Rattle.std.proofs.lemmas.Bool.{both_ways, cases_Bool}
use Rattle.sim_base.specs.Packet.{Packet}
use Rattle.csma_dev.specs.declared.bus.Bus.{Bus}
use Rattle.node_step.specs.declared.loads.Event.{Event}
use Rattle.node_step.specs.Firing.{PlainFiring}
use Rattle.node_step.specs.Node.{PlainNode, Progress, progress}
use Rattle.node_step.specs.React.{begun, counted, handled, react, within}

-- what is not counted does not fit
pub over_when : (answer : Bool) (a b : ℕ) → IsTrue answer ↔ a ≤ b → answer ≡ false → b < a
over_when answer a b says fails = elim (cases_Bool (leb a b)) [
  | inl fits ↦ absurd (both_ways answer fails (says.1 (leb-true a b fits)))
  | inr over ↦ leb-false a b over
]

module _ (limit : ℕ) (e : Event Packet) (inside node after : PlainNode) (lans : List Bus) (start end : PlainFiring) (same : inside ≡ node)
    (starts : start ≡ record { key = e.key; before = inside.scheduled; lans = lans; requests = []; texts = [] })
    (done : progress after end ≡ handled e.load (progress node start)) where
  from-begun : progress node start ≡ begun e node lans
  from-begun = ap (progress node) (starts
      ∙ ap (λ (n : PlainNode). record { key = e.key; before = n.scheduled; lans = lans; requests = []; texts = [] }) same)

  reacts : react limit e node lans ≡ within limit (counted (progress after end))
  unfolding react
  reacts = sym (ap (λ (p : Progress). within limit (counted p)) (done ∙ ap (handled e.load) from-begun))

  pub reacts_over : after.first + limit < after.scheduled + length end.requests → react limit e node lans ≡ None
  reacts_over over =
      reacts ∙ ap (λ b. if b then None else Some (counted (progress after end))) (lt-ltb (after.first + limit) (after.scheduled + length end.requests) over)

  pub reacts_within : (new : PlainNode) → after.scheduled + length end.requests ≤ after.first + limit →
      new ≡ record after { scheduled = after.scheduled + length end.requests } → react limit e node lans ≡ Some (progress new end)
  reacts_within new fits is =
      reacts ∙ ap (λ b. if b then None else Some (counted (progress after end))) (le-ltb (after.first + limit) (after.scheduled + length end.requests) fits)
      ∙ ap (λ (n : PlainNode). Some (progress n end)) (sym is)
