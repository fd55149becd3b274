-- What a part fires is what the rules say.
use Rattle.std.proofs.Common.{◌≡◌, ℕ, ◌<◌, ◌≤◌, ◌^◌, suc, Bool, true, false, List, [], ◌∷◌, length, map, Option, None, Some, slice_get, refl, sym, ap, ◌∙◌, subst, ◌↔◌, arith, inl, inr}
use Rattle.std.specs.Prelude.{◌+◌, if◌then◌else◌, nat_lt, IsSomeAnd}
use Rattle.std.proofs.lemmas.Bool.{cases_Bool}
use Rattle.std.proofs.lemmas.Option.{same_Some, slice_get_within}
use Rattle.sim_base.specs.declared.key.Key.{Key}
use Rattle.sim_base.specs.Packet.{Packet, len}
use Rattle.csma_dev.specs.declared.bus.Bus.{Bus}
use Rattle.iface_step.specs.Attachment.{lan_of, least_frame}
use Rattle.iface_step.specs.Iface.{PlainIface}
use Rattle.round_core.specs.Lines.{numbered}
use Rattle.round_core.specs.World.{Limit, Does, scheduled, seen}
use Rattle.node_step.specs.declared.loads.Event.{Event}
use Rattle.node_step.specs.declared.loads.Load.{Load}
use Rattle.node_step.specs.declared.loads.Load.TheVariants.{Arrive, Sent, BusFree, BackoffOver, DiscReady, ArpTimer, FragTimer, TcpTimer, Tick}
use Rattle.node_step.specs.Firing.{Request, Text, bus_at}
use Rattle.node_step.specs.Firing as firing
use Rattle.node_step.specs.Node.{PlainNode, Progress}
use Rattle.node_step.specs.Part.{Fired, PlainPart, CanFire, allowed, fire, fire_at, fired, place_of}
use Rattle.node_step.specs.React.{CanHandle, begun, counted, handled, react, within}
use Rattle.node_rules.specs.Firings.{FiresSo, trace_line}
use Rattle.node_rules.specs.Health.{IsFor, IsWellEvent, IsWellIface, IsWellNode}
use Rattle.node_rules.specs.Rules.{buses, effect_of, reaction_of, rules, send_of}
use Rattle.node_rules.specs.Shape.{Shape, Wire, least_on, sits_on}
use Rattle.node_rules.specs.Worlds.{event_of}
use Rattle.node_rules.proofs.Folds.{slice_get-some}
use Rattle.node_rules.proofs.Frames.{AllPass, IsFramed, mask}
use Rattle.node_rules.proofs.FramesUp.{handled-framed}
use Rattle.node_rules.proofs.IfaceKeeps.{least-wire}
use Rattle.node_rules.proofs.Masks.{Passes, bus_at-joined, buses-seen, length-joined, masked, others}
use Rattle.node_rules.proofs.ReactKeeps.{progress, progress-keeps}
use Rattle.node_rules.proofs.RuleLaws.{sits-at}

same-sends : (key : Key) (count : ℕ) (rs : List Request) → map event_of (firing.scheduled key count rs) ≡ scheduled key count (map send_of rs)
unfolding scheduled
same-sends key count [] = refl
same-sends key count (r ∷ rs) = ap (λ es. event_of (firing.event key count r) ∷ es) (same-sends key (suc count) rs)

same-lines : (key : Key) (index : ℕ) (texts : List Text) → firing.numbered key index texts ≡ map trace_line (numbered key index texts)
same-lines key index [] = refl
same-lines key index (t ∷ texts) = ap (λ ls. firing.line key index t ∷ ls) (same-lines key (suc index) texts)

-- a reaction has the key of its event, and numbers what it sends from its node's count on
record HasPlace (e : Event Packet) (node : PlainNode) (p : Progress) : Type 0 where
  key : p.firing.key ≡ e.key
  before : p.firing.before ≡ node.scheduled

counted-place : (e : Event Packet) (node : PlainNode) (lans : List Bus) → HasPlace e node (counted (progress e node lans))
counted-place e node lans =
    let no_shape : Shape = record { nodes = 0; lans = 0; wires = λ n. []; apps = λ n. 0 } in
    let kept = progress-keeps ⊥ no_shape e node lans (λ no. absurd no) (λ no. absurd no) in
    record { key = kept.key; before = kept.before }

within-place : (e : Event Packet) (node : PlainNode) (lans : List Bus) (p : Progress) (over : Bool) →
    (if over then None else Some (counted (progress e node lans))) ≡ Some p → HasPlace e node p
within-place e node lans p true h = absurd (let d : None ≡ Some p = h in cc)
within-place e node lans p false h = subst (λ (q : Progress). HasPlace e node q) (same_Some _ p h) (counted-place e node lans)

react-place : (limit : ℕ) (e : Event Packet) (node : PlainNode) (lans : List Bus) (p : Progress) → react limit e node lans ≡ Some p → HasPlace e node p
unfolding react
react-place limit e node lans p h = within-place e node lans p _ h

-- each interface of a node that is well is on a link, or on a LAN on which the node sits
passes-wire : (shape : Shape) (n iface : ℕ) (wire : Wire) (lan : Option ℕ) → slice_get (shape.wires n) iface ≡ Some wire → wire.lan ≡ lan →
    Passes (sits_on shape n) lan
passes-wire shape n iface wire None here is = tt
passes-wire shape n iface wire (Some lan) here is = sits-at shape n iface lan wire here is

pub all-pass : (shape : Shape) (n : ℕ) (node : PlainNode) → IsWellNode shape n node → AllPass (sits_on shape n) node.ifaces
all-pass shape n node w i face at =
    let inside : i < length node.ifaces = slice_get_within node.ifaces i face at in
    let same : length node.ifaces ≡ length (shape.wires n) = w.ifaces in
    let found = slice_get-some (shape.wires n) i (omega arith) in
    let well : IsWellIface shape n i found.0 face = w.each_iface i found.0 face found.1 at in
    passes-wire shape n i found.0 (lan_of face.at) found.1 (sym (ap (λ (x : Wire). x.lan) well.attached))

-- what a reaction leaves with all buses, and with those on which its node sits alone

abbrev map-option : {A B : Type 0} → (A → B) → Option A → Option B
map-option f None = None
map-option f (Some x) = Some (f x)

module _ (test : ℕ → Bool) (limit : ℕ) (e : Event Packet) (node : PlainNode) (lans : List Bus) (pass : AllPass test node.ifaces) where
  framed : IsFramed test (handled e.load) (begun e node lans)
  framed = handled-framed test e.load (begun e node lans) pass

  within-masked : (p : Progress) → map-option (mask test) (within limit p) ≡ within limit (mask test p)
  within-masked p = elim (cases_Bool (nat_lt (p.node.first + limit) p.node.scheduled)) [
    | inl over ↦ rw over refl
    | inr fits ↦ rw fits refl
  ]

  -- a reaction reads the buses on which its node sits alone
  react-reads : map-option (mask test) (react limit e node lans) ≡ react limit e node (masked test lans)
  unfolding react
  react-reads = within-masked (counted (progress e node lans)) ∙ ap (λ (p : Progress). within limit (counted p)) framed.reads

  within-writes : (p : Progress) (over : Bool) → (if over then None else Some (counted (progress e node lans))) ≡ Some p →
      masked (others test) p.firing.lans ≡ masked (others test) lans
  within-writes p true h = absurd (let d : None ≡ Some p = h in cc)
  within-writes p false h = subst (λ (q : Progress). masked (others test) q.firing.lans ≡ masked (others test) lans) (same_Some _ p h) framed.writes

  -- and it writes no other
  react-writes : (p : Progress) → react limit e node lans ≡ Some p → masked (others test) p.firing.lans ≡ masked (others test) lans
  unfolding react
  react-writes p h = within-writes p _ h

module _ (shape : Shape) (part : PlainPart) (e : Event Packet) (node : PlainNode) (count : length part.lans ≡ shape.lans)
    (pass : AllPass (sits_on shape e.key.node.0) node.ifaces)
    (at : slice_get part.nodes (place_of e.key.node.0 part) ≡ Some node) where
  abbrev place : ℕ
  place = place_of e.key.node.0 part

  abbrev test : ℕ → Bool
  test = sits_on shape e.key.node.0

  abbrev sees : ℕ → Option Bus
  sees = seen (rules part.limit shape) e.key.node.0 (bus_at part.lans)

  fire-is : fire e part ≡ allowed part place (react part.limit e node part.lans)
  fire-is = ap (fire_at e part place) at

  sees-masked : buses shape.lans sees ≡ masked test part.lans
  unfolding seen
  sees-masked = ap (λ (k : ℕ). buses k sees) (sym count) ∙ buses-seen test part.lans

  rules-react : react part.limit e node (buses shape.lans sees) ≡ map-option (mask test) (react part.limit e node part.lans)
  rules-react = ap (react part.limit e node) sees-masked ∙ sym (react-reads test part.limit e node part.lans pass)

  none-is : (o : Option Progress) → (allowed part place o ≡ None) ↔ (reaction_of (map-option (mask test) o) ≡ Limit)
  none-is None = (λ h. refl, λ h. refl)
  none-is (Some p) = (
    λ h. absurd (let d : Some (fired part place p) ≡ None = h in cc),
    λ h. absurd (let d : Does (effect_of (mask test p)) ≡ Limit = h in cc),
  )

  -- nothing fires exactly where the node would schedule more than it may
  pub fire-none : (fire e part ≡ None) ↔ ((rules part.limit shape).react (event_of e) node sees ≡ Limit)
  fire-none = let same = none-is (react part.limit e node part.lans) in
      (λ h. ap reaction_of rules-react ∙ same.0 (sym fire-is ∙ h), λ h. fire-is ∙ same.1 (sym (ap reaction_of rules-react) ∙ h))

  fired-so : (p : Progress) → react part.limit e node part.lans ≡ Some p → FiresSo shape part e node (fired part place p)
  unfolding react
  fired-so p is =
      let has = react-place part.limit e node part.lans p is in
      let writes = react-writes test part.limit e node part.lans pass p is in
      record {
        effect = effect_of (mask test p);
        reacts = ap reaction_of (rules-react ∙ ap (map-option (mask test)) is);
        places = refl;
        nodes = refl;
        lans = bus_at-joined test p.firing.lans part.lans (masked test p.firing.lans) refl writes;
        count = length-joined test p.firing.lans part.lans writes;
        limit = refl;
        sends = same-sends p.firing.key p.firing.before p.firing.requests
            ∙ ap (λ (key : Key). scheduled key p.firing.before (map send_of p.firing.requests)) has.key
            ∙ ap (λ (c : ℕ). scheduled e.key c (map send_of p.firing.requests)) has.before;
        lines = same-lines p.firing.key 0 p.firing.texts
            ∙ ap (λ (key : Key). map trace_line (numbered key 0 p.firing.texts)) has.key;
      }

  some-so : (o : Option Progress) (f : Fired) → react part.limit e node part.lans ≡ o → allowed part place o ≡ Some f → FiresSo shape part e node f
  some-so None f is h = absurd (let d : None ≡ Some f = h in cc)
  some-so (Some p) f is h = subst (λ (x : Fired). FiresSo shape part e node x) (same_Some (fired part place p) f h) (fired-so p is)

  -- what a part fires
  pub fire-some : (f : Fired) → fire e part ≡ Some f → FiresSo shape part e node f
  fire-some f h = some-so (react part.limit e node part.lans) f refl (sym fire-is ∙ h)

least-there : (frame : Packet) (shape : Shape) (n iface : ℕ) (node : PlainNode) (o : Option Wire) → slice_get (shape.wires n) iface ≡ o →
    IsWellNode shape n node → IsSomeAnd o (λ w. least_on w.lan ≤ len frame) →
    IsSomeAnd (slice_get node.ifaces iface) (λ face. least_frame face.at ≤ len frame)
least-there frame shape n iface node None here w never = absurd never
least-there frame shape n iface node (Some wire) here w long =
    let inside : iface < length (shape.wires n) = slice_get_within (shape.wires n) iface wire here in
    let same : length node.ifaces ≡ length (shape.wires n) = w.ifaces in
    let found = slice_get-some node.ifaces iface (omega arith) in
    let well : IsWellIface shape n iface wire found.0 = w.each_iface iface wire found.0 here found.1 in
    subst (λ (o : Option PlainIface). IsSomeAnd o (λ face. least_frame face.at ≤ len frame)) (sym found.1)
    (subst (λ (l : ℕ). l ≤ len frame) (sym (least-wire found.0.at ∙ ap (λ (x : Wire). least_on x.lan) well.attached)) long)

can-handle : (shape : Shape) (n : ℕ) (node : PlainNode) (load : Load Packet) → IsWellNode shape n node → IsFor shape n load → CanHandle load node
can-handle shape n node (Arrive iface frame) w h = least-there frame shape n iface node (slice_get (shape.wires n) iface) refl w h
can-handle shape n node (Sent iface) w h = subst (λ (k : ℕ). iface < k) (sym w.ifaces) h
can-handle shape n node (BusFree iface) w h = subst (λ (k : ℕ). iface < k) (sym w.ifaces) h
can-handle shape n node (BackoffOver iface) w h = subst (λ (k : ℕ). iface < k) (sym w.ifaces) h
can-handle shape n node (DiscReady iface) w h = subst (λ (k : ℕ). iface < k) (sym w.ifaces) h
can-handle shape n node (ArpTimer iface addr stamp) w h = subst (λ (k : ℕ). iface < k) (sym w.ifaces) h
can-handle shape n node (FragTimer stamp) w h = tt
can-handle shape n node (TcpTimer conn stamp) w h = tt
can-handle shape n node (Tick app) w h = subst (λ (k : ℕ). app < k) (sym w.apps) h

-- an event that is well can fire in a part in which its node is well
pub can-fire : (shape : Shape) (part : PlainPart) (e : Event Packet) (node : PlainNode) → IsWellEvent shape (event_of e) →
    IsWellNode shape e.key.node.0 node → e.key.node.0 < length part.places →
    slice_get part.nodes (place_of e.key.node.0 part) ≡ Some node → e.key.time.0 ≤ 10 ^ 12 → CanFire e part
can-fire shape part e node event_ok node_ok known at early = record {
  time = early;
  known = known;
  here = subst (λ (o : Option PlainNode). IsSomeAnd o (CanHandle e.load)) (sym at)
      (can-handle shape e.key.node.0 node e.load node_ok event_ok.load);
}
