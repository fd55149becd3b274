-- The rules are lawful, bounded, and look ahead.
use Rattle.std.proofs.Common.{◌≡◌, ℕ, ◌+◌, ◌≤◌, zero, suc, Bool, true, false, List, [], ◌∷◌, length, map, Option, None, Some, slice_get, refl, ap, sym, ◌∙◌, subst, arith, inl, inr, ◌⊎◌}
use Rattle.std.specs.List.{AllByRecursion, list_any}
use Rattle.std.specs.Prelude.{◌||◌, IsSomeAnd, nat_lt, if◌then◌else◌}
use Rattle.std.proofs.lemmas.Bool.{eq-eqb, ltb-false}
use Rattle.std.proofs.lemmas.Option.{same_Some}
use Rattle.std.proofs.lemmas.List.{length-map}
use Rattle.sim_base.specs.declared.key.Key.{Key}
use Rattle.sim_base.specs.declared.key.NodeId.{NodeId}
use Rattle.sim_base.specs.Packet.{Packet}
use Rattle.csma_dev.specs.declared.bus.Bus.{Bus}
use Rattle.iface_step.specs.declared.words.Place.{Place}
use Rattle.round_core.specs.Bound.{IsBounded}
use Rattle.round_core.specs.Laws.{IsOwed, IsLawful}
use Rattle.round_core.specs.Lookahead.{LooksAhead, IsAhead, IsPositive}
use Rattle.round_core.specs.World.{Effect, Event, Send, World, Limit, Does, reaction, scheduled, seen}
use Rattle.node_step.specs.declared.loads.Load.{Load}
use Rattle.node_step.specs.Firing.{Request, Text}
use Rattle.node_step.specs.Node.{PlainNode, Progress}
use Rattle.node_step.specs.React.{begun, counted, react}
use Rattle.node_rules.specs.Health.{IsCutBy, IsLong, IsWellEvent, IsWellNode, health}
use Rattle.node_rules.specs.Rules.{buses, effect_of, node_event, reaction_of, room, rules, send_of}
use Rattle.node_rules.specs.Shape.{Shape, Wire, is_lan, sits_on}
use Rattle.node_rules.proofs.Kept.{IsAsked, IsOverWire, Keeps}
use Rattle.node_rules.proofs.Lists.{each-at}
use Rattle.node_rules.proofs.ReactKeeps.{progress, progress-keeps}

abbrev NodeEffect : Type 0
NodeEffect = Effect PlainNode Bus (Load Packet) Text

does-same : (a b : NodeEffect) → Does a ≡ Does b → a ≡ b
does-same a b h = cc

limit-not : {A : Type 0} (b : NodeEffect) → Limit ≡ Does b → A
limit-not b h = absurd (let d : Limit ≡ Does b = h in cc)

-- what a reaction that is no limit leaves
pub record Reacts (limit : ℕ) (e : Event (Load Packet)) (node : PlainNode) (lans : List Bus) (effect : NodeEffect) : Type 0 where
  pub fits : (progress (node_event e) node lans).node.scheduled + length (progress (node_event e) node lans).firing.requests
      ≤ (progress (node_event e) node lans).node.first + limit
  pub does : effect_of (counted (progress (node_event e) node lans)) ≡ effect

within-limit : (limit : ℕ) (e : Event (Load Packet)) (node : PlainNode) (lans : List Bus) (effect : NodeEffect) (over : Bool) →
    nat_lt ((progress (node_event e) node lans).node.first + limit)
    ((progress (node_event e) node lans).node.scheduled + length (progress (node_event e) node lans).firing.requests) ≡ over →
    reaction_of (if over then None else Some (counted (progress (node_event e) node lans))) ≡ Does effect → Reacts limit e node lans effect
within-limit limit e node lans effect true is h = limit-not effect h
within-limit limit e node lans effect false is h = record { fits = ltb-false _ _ is; does = does-same _ effect h }

pub reacts : (limit : ℕ) (e : Event (Load Packet)) (node : PlainNode) (lans : List Bus) (effect : NodeEffect) →
    reaction_of (react limit (node_event e) node lans) ≡ Does effect → Reacts limit e node lans effect
unfolding react
reacts limit e node lans effect h = within-limit limit e node lans effect _ refl h

all-sends : (P : Request → Type 0) (Q : Send (Load Packet) → Type 0) → ((r : Request) → P r → Q (send_of r)) → (rs : List Request) →
    AllByRecursion P rs → AllByRecursion Q (map send_of rs)
all-sends P Q step [] h = tt
all-sends P Q step (r ∷ rs) h = (step r h.0, all-sends P Q step rs h.1)

scheduled-well : (shape : Shape) (now n : ℕ) (key : Key) (count : ℕ) (rs : List Request) → AllByRecursion (IsAsked shape now n) rs →
    AllByRecursion (IsWellEvent shape) (scheduled key count (map send_of rs))
unfolding scheduled
scheduled-well shape now n key count [] h = tt
scheduled-well shape now n key count (r ∷ rs) h =
    (record { known = h.0.known; load = h.0.load }, scheduled-well shape now n key (suc count) rs h.1)

either-true : (a b : Bool) → b ≡ true → (a || b) ≡ true
either-true true b is = refl
either-true false b is = is

any-at : {A : Type 0} (test : A → Bool) (xs : List A) (k : ℕ) (x : A) → slice_get xs k ≡ Some x → test x ≡ true → list_any test xs ≡ true
any-at test [] k x at holds = absurd (let d : None ≡ Some x = at in cc)
any-at test (y ∷ ys) zero x at holds = rw (ap test (same_Some y x at) ∙ holds) refl
any-at test (y ∷ ys) (suc k) x at holds = either-true (test y) (list_any test ys) (any-at test ys k x at holds)

is_lan-own : (lan : ℕ) (own : Option ℕ) → own ≡ Some lan → is_lan lan own ≡ true
is_lan-own lan own is = ap (is_lan lan) is ∙ eq-eqb lan lan refl

-- a node with an interface on a LAN sits on it
pub sits-at : (shape : Shape) (n iface lan : ℕ) (wire : Wire) → slice_get (shape.wires n) iface ≡ Some wire → wire.lan ≡ Some lan →
    sits_on shape n lan ≡ true
sits-at shape n iface lan wire here is =
    any-at (λ (w : Wire). is_lan lan w.lan) (shape.wires n) iface wire here (is_lan-own lan wire.lan is)

sits-some : (shape : Shape) (n iface lan : ℕ) (o : Option Wire) → slice_get (shape.wires n) iface ≡ o → IsSomeAnd o (λ w. w.lan ≡ Some lan) →
    sits_on shape n lan ≡ true
sits-some shape n iface lan None here never = absurd never
sits-some shape n iface lan (Some wire) here is = sits-at shape n iface lan wire here is

module _ (limit : ℕ) (shape : Shape) where
  module _ (e : Event (Load Packet)) (node : PlainNode) (lans : List Bus) (event_ok : IsWellEvent shape e) (node_ok : IsWellNode shape e.key.node.0 node) where
    abbrev end : Progress
    end = progress (node_event e) node lans

    kept : Keeps (Unit {0}) shape e.key.node.0 (begun (node_event e) node lans) end
    kept = progress-keeps (Unit {0}) shape (node_event e) node lans (λ o. event_ok.known) (λ o. node_ok)

    asked : AllByRecursion (IsAsked shape e.key.time.0 e.key.node.0) end.firing.requests
    asked = (kept.well tt).requests

    owed-counted : IsOwed (rules limit shape) (health shape) e node (effect_of (counted end))
    owed-counted = let w = (kept.well tt).node in record {
      later = all-sends _ _ (λ r h. h.later) end.firing.requests asked;
      counted = let same : end.node.scheduled ≡ node.scheduled = kept.scheduled in
          omega (arith, length-map end.firing.requests send_of);
      node_ok = record {
        number = w.number;
        ifaces = w.ifaces;
        apps = w.apps;
        each_iface = w.each_iface;
        each_app = w.each_app;
        waits = w.waits;
      };
      lans_ok = λ l sits. tt;
      events_ok = scheduled-well shape e.key.time.0 e.key.node.0 e.key node.scheduled end.firing.requests asked;
    }

    owed-at : (effect : NodeEffect) → Reacts limit e node lans effect → IsOwed (rules limit shape) (health shape) e node effect
    owed-at effect r = subst (λ (x : NodeEffect). IsOwed (rules limit shape) (health shape) e node x) r.does owed-counted

    spent-counted : end.node.scheduled + length end.firing.requests ≤ end.node.first + limit →
        room limit (counted end).node + length (map send_of end.firing.requests) ≤ room limit node
    spent-counted fits = let same : end.node.scheduled ≡ node.scheduled = kept.scheduled in
        let first : end.node.first ≡ node.first = kept.first in
        omega (arith, length-map end.firing.requests send_of)

    spent-at : (effect : NodeEffect) → Reacts limit e node lans effect → room limit effect.node + length effect.sends ≤ room limit node
    spent-at effect r = subst (λ (x : NodeEffect). room limit x.node + length x.sends ≤ room limit node) r.does (spent-counted r.fits)

    module _ (group_of : ℕ → ℕ) (lookahead : Option ℕ) (cut : IsCutBy shape group_of lookahead) where
      abbrev n : ℕ
      n = e.key.node.0

      long-ahead : (o : Option ℕ) (now delay at : ℕ) → IsLong o delay → now + delay ≤ at → IsAhead o now at
      long-ahead None now delay at h late = h
      long-ahead (Some l) now delay at h late = omega arith

      -- over a link, at least the lookahead later or within the group; over a LAN, within the group
      over-ahead : (r : Request) (over : IsOverWire shape e.key.time.0 n r) (lan : Option ℕ) → over.wire.lan ≡ lan →
          (group_of over.place.node.0 ≡ group_of n) ⊎ IsAhead lookahead e.key.time.0 r.at.0
      over-ahead r over None is =
          elim (each-at (λ (place : Place). (group_of place.node.0 ≡ group_of n) ⊎ IsLong lookahead over.wire.delay) over.wire.reaches over.among.0 over.place (cut.links n over.iface over.wire over.here is) over.among.1) [
            | inl same ↦ inl same
            | inr far ↦ inr (long-ahead lookahead e.key.time.0 over.wire.delay r.at.0 far over.late)
          ]
      over-ahead r over (Some lan) is =
          let near = over.neighbour.same in
          inl (cut.lans over.place.node.0 n lan
          (sits-some shape over.place.node.0 over.place.iface lan (slice_get (shape.wires over.place.node.0) over.place.iface) refl
          (subst (λ (o : Option ℕ). IsSomeAnd (slice_get (shape.wires over.place.node.0) over.place.iface) (λ (w : Wire). w.lan ≡ o)) is near))
          (sits-at shape n over.iface lan over.wire over.here is))

      ahead-one : (r : Request) → IsAsked shape e.key.time.0 n r →
          (group_of r.to.0 ≡ group_of n) ⊎ IsAhead lookahead e.key.time.0 r.at.0
      ahead-one r h = elim h.reach [
        | inl own ↦ inl (ap group_of own)
        | inr over ↦ subst (λ (id : NodeId). (group_of id.0 ≡ group_of n) ⊎ IsAhead lookahead e.key.time.0 r.at.0) (sym over.target)
            (over-ahead r over over.wire.lan refl)
      ]

      ahead-at : (effect : NodeEffect) → Reacts limit e node lans effect →
          AllByRecursion (λ s. (group_of s.to ≡ group_of n) ⊎ IsAhead lookahead e.key.time.0 s.at) effect.sends
      ahead-at effect r = subst (λ (x : NodeEffect). AllByRecursion
          (λ s. (group_of s.to ≡ group_of n) ⊎ IsAhead lookahead e.key.time.0 s.at) x.sends) r.does
          (all-sends _ _ ahead-one end.firing.requests asked)

  -- what the target of an event sees in a world
  abbrev sees : World PlainNode Bus (Load Packet) Text → Event (Load Packet) → List Bus
  sees w e = buses shape.lans (seen (rules limit shape) e.key.node.0 w.lans)

  pub lawful : IsLawful (rules limit shape) (health shape)
  unfolding reaction
  lawful = record {
    owed = λ w e effect healthy e_ok is. owed-at e (w.nodes e.key.node.0) (sees w e) e_ok (healthy.nodes e.key.node.0) effect
        (reacts limit e (w.nodes e.key.node.0) (sees w e) effect is);
  }

  pub bounded : IsBounded (rules limit shape) (health shape) shape.nodes (room limit)
  unfolding reaction
  bounded = record {
    target = λ e e_ok. e_ok.known;
    spent = λ w e effect healthy e_ok is. spent-at e (w.nodes e.key.node.0) (sees w e) e_ok (healthy.nodes e.key.node.0) effect
        (reacts limit e (w.nodes e.key.node.0) (sees w e) effect is);
  }

  pub ahead : (group_of : ℕ → ℕ) (lookahead : Option ℕ) → IsPositive lookahead → IsCutBy shape group_of lookahead →
      LooksAhead (rules limit shape) (health shape) group_of lookahead
  unfolding reaction
  ahead group_of lookahead positive cut = record {
    lans = cut.lans;
    positive = positive;
    ahead = λ w e effect healthy e_ok is.
        ahead-at e (w.nodes e.key.node.0) (sees w e) e_ok (healthy.nodes e.key.node.0) group_of lookahead cut effect
        (reacts limit e (w.nodes e.key.node.0) (sees w e) effect is);
  }
