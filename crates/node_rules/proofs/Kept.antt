-- What a firing keeps on its way: what it began with, and that all is well where it began well.
use Rattle.std.proofs.Common.{◌≡◌, ℕ, ◌+◌, ◌<◌, ◌≤◌, Option, None, Some, slice_get, refl, sym, ap, ◌∙◌, subst, inl, inr, ◌⊎◌, length-set}
use Rattle.std.specs.Prelude.{slice_set}
use Rattle.std.specs.List.{AllByRecursion}
use Rattle.std.proofs.lemmas.Bool.{cases_eq}
use Rattle.std.proofs.lemmas.Option.{same_Some}
use Rattle.sim_base.specs.declared.key.NodeId.{NodeId}
use Rattle.sim_base.specs.declared.numbers.Numbers.{Numbers}
use Rattle.sim_base.specs.declared.time.Time.{Time}
use Rattle.sim_base.specs.Packet.{Packet}
use Rattle.pkt_face.specs.declared.line.Sign.{Sign}
use Rattle.iface_step.specs.declared.words.Place.{Place}
use Rattle.iface_step.specs.Iface.{PlainIface}
use Rattle.iface_step.specs.Transit.{Progress as IfaceProgress}
use Rattle.traffic_apps.specs.App.{IsKind}
use Rattle.frag_core.specs.Step.{PlainFrags}
use Rattle.tcp_flow.specs.Conns.{PlainConns}
use Rattle.tcp_flow.specs.Table.{AllWait}
use Rattle.round_core.proofs.ListLaws.{all-snoc}
use Rattle.node_step.specs.declared.loads.Load.{Load}
use Rattle.node_step.specs.Down.{with_iface}
use Rattle.node_step.specs.Firing.{Request, schedule, write}
use Rattle.node_step.specs.LocalApp.{PlainLocalApp}
use Rattle.node_step.specs.Node.{PlainNode, Progress, changed, dropped, with_app, with_conns, with_drop, with_firing, with_frags, with_numbers}
use Rattle.node_rules.specs.Health.{IsFor, IsNeighbour, IsWellIface, IsWellNode}
use Rattle.node_rules.specs.Shape.{Shape, Wire}
use Rattle.node_rules.proofs.Folds.{slice_get-set_same, slice_get-set_other}
use Rattle.node_rules.proofs.Lists.{IsAmong}

-- an event that is asked for over a wire of a node, no sooner than its delay
pub record IsOverWire (shape : Shape) (now n : ℕ) (r : Request) : Type 0 where
  pub iface : ℕ
  pub wire : Wire
  pub here : slice_get (shape.wires n) iface ≡ Some wire
  pub place : Place
  pub among : IsAmong place wire.reaches
  pub neighbour : IsNeighbour shape wire.lan place
  pub target : r.to ≡ place.node
  pub late : now + wire.delay ≤ r.at.0

-- an event that a firing of a node asks for: later, for the node itself or over one of its wires, and its node can handle it
pub record IsAsked (shape : Shape) (now n : ℕ) (r : Request) : Type 0 where
  pub later : now < r.at.0
  pub known : r.to.0 < shape.nodes
  pub load : IsFor shape r.to.0 r.load
  pub reach : (r.to.0 ≡ n) ⊎ IsOverWire shape now n r

pub record IsWellProgress (shape : Shape) (now n : ℕ) (p : Progress) : Type 0 where
  pub node : IsWellNode shape n p.node
  pub requests : AllByRecursion (IsAsked shape now n) p.firing.requests

-- so far a firing has kept its key and counts, and where it is well at its start, all is well
pub record Keeps (ok : Type 0) (shape : Shape) (n : ℕ) (was p : Progress) : Type 0 where
  pub key : p.firing.key ≡ was.firing.key
  pub before : p.firing.before ≡ was.firing.before
  pub scheduled : p.node.scheduled ≡ was.node.scheduled
  pub first : p.node.first ≡ was.node.first
  pub well : ok → IsWellProgress shape was.firing.key.time.0 n p

pub changed-keeps : {Part : Type 0} (K : Progress → Type 0) (part : Option Part) (act : Part → Progress) (p : Progress) →
    ((x : Part) → part ≡ Some x → K (act x)) → K p → K (changed part act p)
changed-keeps K None act p h k = k
changed-keeps K (Some x) act p h k = h x refl

module _ (ok : Type 0) (shape : Shape) (n : ℕ) (was : Progress) where
  abbrev K : Progress → Type 0
  K p = Keeps ok shape n was p

  node-keeps : (node : PlainNode) (p : Progress) → node.scheduled ≡ p.node.scheduled → node.first ≡ p.node.first →
      (IsWellNode shape n p.node → IsWellNode shape n node) → K p → K (record p { node = node })
  node-keeps node p same first well k = record {
    key = k.key;
    before = k.before;
    scheduled = same ∙ k.scheduled;
    first = first ∙ k.first;
    well = λ o. let w = k.well o in record { node = well w.node; requests = w.requests };
  }

  pub numbers-keep : (numbers : Numbers) (p : Progress) → numbers.node ≡ p.node.numbers.node → K p → K (with_numbers numbers p)
  numbers-keep numbers p same k = node-keeps (record p.node { numbers = numbers }) p refl refl
      (λ w. record {
        number = ap (λ (id : NodeId). id.0) same ∙ w.number;
        ifaces = w.ifaces;
        apps = w.apps;
        each_iface = w.each_iface;
        each_app = w.each_app;
        waits = w.waits;
      }) k

  pub conns-keep : (conns : PlainConns) (p : Progress) → (AllWait p.node.conns.conns → AllWait conns.conns) → K p → K (with_conns conns p)
  conns-keep conns p wait k = node-keeps (record p.node { conns = conns }) p refl refl
      (λ w. record {
        number = w.number;
        ifaces = w.ifaces;
        apps = w.apps;
        each_iface = w.each_iface;
        each_app = w.each_app;
        waits = wait w.waits;
      }) k

  pub frags-keep : (frags : PlainFrags) (p : Progress) → K p → K (with_frags frags p)
  frags-keep frags p k = node-keeps (record p.node { frags = frags }) p refl refl
      (λ w. record { number = w.number; ifaces = w.ifaces; apps = w.apps; each_iface = w.each_iface; each_app = w.each_app; waits = w.waits }) k

  pub drop-keeps : (p : Progress) → K p → K (dropped p)
  unfolding with_drop
  drop-keeps p k = node-keeps (with_drop p.node) p refl refl
      (λ w. record { number = w.number; ifaces = w.ifaces; apps = w.apps; each_iface = w.each_iface; each_app = w.each_app; waits = w.waits }) k

  module _ (iface : ℕ) (face : PlainIface) (s : IfaceProgress) (p : Progress) (at : slice_get p.node.ifaces iface ≡ Some face)
      (step : (wire : Wire) → IsWellIface shape n iface wire face → IsWellIface shape n iface wire s.iface) where
    iface_at : IsWellNode shape n p.node → (i : ℕ) (wire : Wire) (x : PlainIface) → slice_get (shape.wires n) i ≡ Some wire →
        slice_get (slice_set p.node.ifaces iface s.iface) i ≡ Some x → IsWellIface shape n i wire x
    iface_at w i wire x here is = elim (cases_eq i iface) [
      | inl same ↦
          let there : slice_get (shape.wires n) iface ≡ Some wire = ap (slice_get (shape.wires n)) (sym same) ∙ here in
          let got : Some s.iface ≡ Some x = sym (slice_get-set_same p.node.ifaces iface face s.iface at)
          ∙ ap (slice_get (slice_set p.node.ifaces iface s.iface)) (sym same) ∙ is in
          subst (λ (y : PlainIface). IsWellIface shape n i wire y) (same_Some s.iface x got)
          (subst (λ (j : ℕ). IsWellIface shape n j wire s.iface) (sym same) (step wire (w.each_iface iface wire face there at)))
      | inr other ↦ w.each_iface i wire x here
          (sym (slice_get-set_other p.node.ifaces iface i s.iface (λ e. other (sym e))) ∙ is)
    ]

    pub iface-keeps : (lan : Option ℕ) → s.numbers.node ≡ p.node.numbers.node → K p → K (with_iface iface lan s p)
    iface-keeps lan same k = record {
      key = k.key;
      before = k.before;
      scheduled = k.scheduled;
      first = k.first;
      well = λ o. let w = k.well o in record {
        node = record {
          number = ap (λ (id : NodeId). id.0) same ∙ w.node.number;
          ifaces = length-set p.node.ifaces iface s.iface ∙ w.node.ifaces;
          apps = w.node.apps;
          each_iface = iface_at w.node;
          each_app = w.node.each_app;
          waits = w.node.waits;
        };
        requests = w.requests;
      };
    }

  module _ (app : ℕ) (a new : PlainLocalApp) (p : Progress) (at : slice_get p.node.apps app ≡ Some a)
      (step : IsKind a.app.kind → IsKind new.app.kind) where
    app_at : IsWellNode shape n p.node → (i : ℕ) (x : PlainLocalApp) → slice_get (slice_set p.node.apps app new) i ≡ Some x → IsKind x.app.kind
    app_at w i x is = elim (cases_eq i app) [
      | inl same ↦
          let got : Some new ≡ Some x = sym (slice_get-set_same p.node.apps app a new at)
          ∙ ap (slice_get (slice_set p.node.apps app new)) (sym same) ∙ is in
          subst (λ (y : PlainLocalApp). IsKind y.app.kind) (same_Some new x got) (step (w.each_app app a at))
      | inr other ↦ w.each_app i x (sym (slice_get-set_other p.node.apps app i new (λ e. other (sym e))) ∙ is)
    ]

    pub app-keeps : K p → K (with_app app new p)
    app-keeps k = node-keeps (record p.node { apps = slice_set p.node.apps app new }) p refl refl
        (λ w. record {
          number = w.number;
          ifaces = w.ifaces;
          apps = length-set p.node.apps app new ∙ w.apps;
          each_iface = w.each_iface;
          each_app = app_at w;
          waits = w.waits;
        }) k

  pub schedule-keeps : (time : Time) (to : NodeId) (load : Load Packet) (p : Progress) →
      (ok → IsAsked shape was.firing.key.time.0 n (record { at = time; to = to; load = load })) → K p → K (with_firing (schedule time to load p.firing) p)
  schedule-keeps time to load p asked k = record {
    key = k.key;
    before = k.before;
    scheduled = k.scheduled;
    first = k.first;
    well = λ o. let w = k.well o in record {
      node = w.node;
      requests = all-snoc (IsAsked shape was.firing.key.time.0 n) p.firing.requests (record { at = time; to = to; load = load }) w.requests (asked o);
    };
  }

  pub write-keeps : (iface : ℕ) (sign : Sign) (packet : Packet) (p : Progress) → K p → K (with_firing (write iface sign packet p.firing) p)
  write-keeps iface sign packet p k = record {
    key = k.key;
    before = k.before;
    scheduled = k.scheduled;
    first = k.first;
    well = λ o. let w = k.well o in record { node = w.node; requests = w.requests };
  }
