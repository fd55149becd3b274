-- A part fires an event as the event's node reacts to it.
use Rattle.std.proofs.Common.{◌≡◌, ℕ, ◌<◌, List, Some, inl, inr, ap, sym, subst, ◌∙◌, refl, length, get_or, slice_get, slice_set}
use Rattle.std.proofs.lemmas.List.{get_or_read}
use Rattle.std.proofs.lemmas.Option.{slice_get_cases, slice_get_read}
use Rattle.std.specs.Prelude.{IsSomeAnd}
use Rattle.sim_base.specs.Packet.{Packet}
use Rattle.pkt_face.specs.declared.line.Line.{Line}
use Rattle.node_step.specs.declared.loads.Event.{Event}
use Rattle.node_step.specs.declared.stop.FireStop.{FireStop}
use Rattle.node_step.specs.declared.stop.FireStop.TheVariants.{NoMemory, Limit}
use Rattle.node_step.specs.Firing.{scheduled, numbered}
use Rattle.node_step.specs.Node.{PlainNode, Progress}
use Rattle.node_step.specs.Part.{CanFire, PlainPart, allowed, fire, fire_at, fired, place_of}
use Rattle.node_step.specs.React.{CanHandle, Refuses, react}

some-within : {X : Type 0} (xs : List X) (k : ℕ) (P : X → Type 0) → IsSomeAnd (slice_get xs k) P → k < length xs
some-within xs k P there =
    elim (slice_get_cases xs k).1 [
      | inl found ↦ found.1
      | inr past ↦ absurd (subst (λ o. IsSomeAnd o P) past.1 there)
    ]

-- what was read at an event's node is the node that stands at its place
record IsNode (e : Event Packet) (part : PlainPart) (place : ℕ) (node : PlainNode) : Type 0 where
  pub at : place ≡ place_of e.key.node.0 part
  pub here : slice_get part.nodes place ≡ Some node

is-node : (e : Event Packet) (part : PlainPart) (place : ℕ) (node : PlainNode) → CanFire e part → place ≡ get_or part.places e.key.node.0 place → node ≡ get_or part.nodes place node → IsNode e part place node
is-node e part place node can at read =
    let found : place ≡ place_of e.key.node.0 part = get_or_read part.places e.key.node.0 place can.known at 0 in
    let below : place < length part.nodes =
    subst (λ k. k < length part.nodes) (sym found) (some-within part.nodes (place_of e.key.node.0 part) (CanHandle e.load) can.here) in
    record { at = found; here = slice_get_read part.nodes (length part.nodes) place node refl below read }

fire-at : (e : Event Packet) (part : PlainPart) (place : ℕ) (node : PlainNode) → IsNode e part place node → fire e part ≡ allowed part place (react part.limit e node part.lans)
fire-at e part place node is =
    ap (λ k. fire_at e part k (slice_get part.nodes k)) (sym is.at) ∙ ap (fire_at e part place) is.here

refuses : (e : Event Packet) (part : PlainPart) (place : ℕ) (node : PlainNode) (stop : FireStop) → IsNode e part place node → Refuses e.key.node (react part.limit e node part.lans) stop → Refuses e.key.node (fire e part) stop
refuses e part place node NoMemory is why = tt
refuses e part place node (Limit who) is why = (fire-at e part place node is ∙ ap (allowed part place) why.0, why.1)

-- the part refuses an event as the event's node does
pub fire_refuses : (e : Event Packet) (part inside : PlainPart) (place : ℕ) (node : PlainNode) (stop : FireStop) → inside ≡ part → CanFire e part → place ≡ get_or inside.places e.key.node.0 place → node ≡ get_or inside.nodes place node → Refuses e.key.node (react inside.limit e node inside.lans) stop → Refuses e.key.node (fire e part) stop
fire_refuses e part inside place node stop same can at read why =
    let could : CanFire e inside = subst (CanFire e) (sym same) can in
    subst (λ p. Refuses e.key.node (fire e p) stop) same (refuses e inside place node stop (is-node e inside place node could at read) why)

-- what the part becomes, and what it schedules and writes, is what its node becomes and asks for
pub fire_reacts : (e : Event Packet) (part inside new : PlainPart) (place : ℕ) (node : PlainNode) (p : Progress) (S : List (Event Packet) → Type 0) (L : List (Line Packet) → Type 0) → inside ≡ part → CanFire e part → place ≡ get_or inside.places e.key.node.0 place → node ≡ get_or inside.nodes place node → react inside.limit e node inside.lans ≡ Some p → new ≡ record inside { nodes = slice_set inside.nodes place p.node; lans = p.firing.lans } → S (scheduled p.firing.key p.firing.before p.firing.requests) → L (numbered p.firing.key 0 p.firing.texts) → IsSomeAnd (fire e part) (λ f. (new ≡ f.part) × S f.sends × L f.lines)
fire_reacts e part inside new place node p S L same can at read reacts is sends lines =
    let could : CanFire e inside = subst (CanFire e) (sym same) can in
    let fires : fire e inside ≡ Some (fired inside place p) =
    fire-at e inside place node (is-node e inside place node could at read) ∙ ap (allowed inside place) reacts in
    let all : fire e part ≡ Some (fired inside place p) = subst (λ q. fire e q ≡ Some (fired inside place p)) same fires in
    subst (λ o. IsSomeAnd o (λ f. (new ≡ f.part) × S f.sends × L f.lines)) (sym all) (is, sends, lines)
