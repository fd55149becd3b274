-- A packet on its way down keeps all well.
use Rattle.std.proofs.Common.{◌≡◌, ℕ, ◌+◌, ◌<◌, ◌≤◌, List, length, Option, None, Some, slice_get, refl, sym, ap, ◌∙◌, subst, arith, inl, inr}
use Rattle.std.specs.List.{AllByRecursion}
use Rattle.std.specs.Prelude.{IsSomeAnd}
use Rattle.std.proofs.lemmas.Option.{slice_get_within}
use Rattle.sim_base.specs.declared.key.Key.{Key}
use Rattle.sim_base.specs.declared.time.Time.{Time}
use Rattle.sim_base.specs.Packet.{Packet, len}
use Rattle.iface_step.specs.declared.words.Act.{Act}
use Rattle.iface_step.specs.declared.words.Act.TheVariants.{Schedule, Write, Up, Dropped}
use Rattle.iface_step.specs.declared.words.Happening.{Happening}
use Rattle.iface_step.specs.declared.words.Happening.TheVariants.{Arrive, Sent, BusFree, BackoffOver, DiscReady, ArpTimer}
use Rattle.iface_step.specs.declared.words.In.{In}
use Rattle.iface_step.specs.declared.words.In.TheVariants.{Send}
use Rattle.iface_step.specs.declared.words.Place.{Place}
use Rattle.iface_step.specs.Attachment.{lan_of, least_frame}
use Rattle.iface_step.specs.Iface.{PlainIface}
use Rattle.iface_step.specs.Step.{step}
use Rattle.iface_step.specs.Transit.{Progress as IfaceProgress}
use Rattle.node_step.specs.Down.{IfaceStepped, carry_down, send_packet, step_at, stepped_down, taken_by}
use Rattle.node_step.specs.Firing.{bus_of}
use Rattle.node_step.specs.Loads.{load_of}
use Rattle.node_step.specs.Node.{PlainNode, Progress}
use Rattle.node_rules.specs.Health.{HasFrames, IsFor, IsNeighbour, IsWellIface, IsWellNode}
use Rattle.node_rules.specs.Shape.{Shape, Wire, delay_of, least_on}
use Rattle.node_rules.proofs.Folds.{slice_get-some}
use Rattle.node_rules.proofs.IfaceKeeps.{IsArrival, IsIfaceAct, IsOwn, least-wire}
use Rattle.node_rules.proofs.IfaceSteps.{Goes, IsWithin, send-goes}
use Rattle.node_rules.proofs.Kept.{IsAsked, Keeps, drop-keeps, iface-keeps, schedule-keeps, write-keeps}
use Rattle.node_rules.proofs.Lists.{IsAmong, each-at, each-map, each-under, fold-each}

-- an interface that a node has, with the wire that the shape gives it
record IsAtWire (shape : Shape) (n iface : ℕ) (face : PlainIface) : Type 0 where
  wire : Wire
  here : slice_get (shape.wires n) iface ≡ Some wire
  well : IsWellIface shape n iface wire face

at_wire : (shape : Shape) (n iface : ℕ) (face : PlainIface) (node : PlainNode) → IsWellNode shape n node →
    slice_get node.ifaces iface ≡ Some face → IsAtWire shape n iface face
at_wire shape n iface face node w at =
    let inside : iface < length node.ifaces = slice_get_within node.ifaces iface face at in
    let same : length node.ifaces ≡ length (shape.wires n) = w.ifaces in
    let found = slice_get-some (shape.wires n) iface (omega arith) in
    record { wire = found.0; here = found.1; well = w.each_iface iface found.0 face found.1 at }

within : (shape : Shape) (n iface : ℕ) (wire : Wire) (face : PlainIface) → IsWellIface shape n iface wire face → IsWithin face
within shape n iface wire face w = record { device = w.device; paced = w.paced; frames = w.frames }

-- an interface after a step
stepped-well : (shape : Shape) (now n iface : ℕ) (wire : Wire) (face : PlainIface) (node : PlainNode) (s : IfaceProgress) →
    Goes (IsWithin face) now face node.numbers s → IsWellIface shape n iface wire face → IsWellIface shape n iface wire s.iface
stepped-well shape now n iface wire face node s g w =
    let ok : IsWithin face = within shape n iface wire face w in
    let m = g.moves in
    let least : least_frame face.at ≡ least_frame s.iface.at =
    least-wire face.at ∙ ap (λ (x : Wire). least_on x.lan) (sym m.wire) ∙ sym (least-wire s.iface.at) in
    record {
      place = m.place ∙ w.place;
      attached = m.wire ∙ w.attached;
      neighbours = w.neighbours;
      device = m.device ok;
      paced = m.paced ok;
      frames = subst (λ (l : ℕ). HasFrames l s.iface.disc) least (m.frames ok);
    }

some-and : {A : Type 0} (o : Option A) (P Q : A → Type 0) → ((x : A) → P x → Q x) → IsSomeAnd o P → IsSomeAnd o Q
some-and None P Q step h = h
some-and (Some x) P Q step h = step x h

own-load : (shape : Shape) (n iface : ℕ) (what : Happening Packet) → iface < length (shape.wires n) → IsOwn what → IsFor shape n (load_of iface what)
own-load shape n iface (Arrive frame) inside own = absurd own
own-load shape n iface Sent inside own = inside
own-load shape n iface BusFree inside own = inside
own-load shape n iface BackoffOver inside own = inside
own-load shape n iface DiscReady inside own = inside
own-load shape n iface (ArpTimer addr stamp) inside own = inside

reached-load : (shape : Shape) (lan : Option ℕ) (place : Place) (least : ℕ) (what : Happening Packet) → least ≡ least_on lan →
    IsNeighbour shape lan place → IsArrival least what → IsFor shape place.node.0 (load_of place.iface what)
reached-load shape lan place least (Arrive frame) is near long =
    some-and (slice_get (shape.wires place.node.0) place.iface) (λ w. w.lan ≡ lan) (λ w. least_on w.lan ≤ len frame)
    (λ w same. subst (λ (l : ℕ). l ≤ len frame) (is ∙ ap least_on (sym same)) long) near.same
reached-load shape lan place least Sent is near never = absurd never
reached-load shape lan place least BusFree is near never = absurd never
reached-load shape lan place least BackoffOver is near never = absurd never
reached-load shape lan place least DiscReady is near never = absurd never
reached-load shape lan place least (ArpTimer addr stamp) is near never = absurd never

-- an act of an interface asks for what a firing may ask for
abbrev pub IsCarried : Shape → ℕ → ℕ → Act Packet → Type 0
IsCarried shape now n (Schedule at to what) = IsAsked shape now n (record { at = at; to = to.node; load = load_of to.iface what })
IsCarried shape now n (Write sign frame) = Unit {0}
IsCarried shape now n (Up packet) = Unit {0}
IsCarried shape now n Dropped = Unit {0}

-- an interface has made a step, and what it asks for may be carried out
pub record IsDone (ok : Type 0) (shape : Shape) (n : ℕ) (was : Progress) (s : IfaceStepped) : Type 0 where
  pub progress : Keeps ok shape n was s.progress
  pub acts : ok → AllByRecursion (IsCarried shape was.firing.key.time.0 n) s.acts

late-by : (now a b at : ℕ) → a ≡ b → now + a ≤ at → now + b ≤ at
late-by now a b at same late = omega arith

module _ (ok : Type 0) (shape : Shape) (n : ℕ) (known : ok → n < shape.nodes) (was : Progress) where
  abbrev now : Time
  now = was.firing.key.time

  abbrev K : Progress → Type 0
  K p = Keeps ok shape n was p

  abbrev C : Act Packet → Type 0
  C act = IsCarried shape now.0 n act

  scheduled-carried : (iface : ℕ) (face : PlainIface) (at : Time) (to : Place) (what : Happening Packet) → n < shape.nodes →
      IsAtWire shape n iface face → IsIfaceAct now.0 face (Schedule at to what) → C (Schedule at to what)
  scheduled-carried iface face at to what inside w is = elim is.1 [
    | inl own ↦
        let place : to ≡ record { node = record { 0 = n }; iface = iface } = own.0 ∙ w.well.place in
        let has : iface < length (shape.wires n) = slice_get_within (shape.wires n) iface w.wire w.here in
        record {
          later = is.0;
          known = subst (λ (q : Place). q.node.0 < shape.nodes) (sym place) inside;
          load = subst (λ (q : Place). IsFor shape q.node.0 (load_of q.iface what)) (sym place) (own-load shape n iface what has own.1);
          reach = inl (ap (λ (q : Place). q.node.0) place);
        }
    | inr reach ↦
        let among : IsAmong to w.wire.reaches =
        subst (λ (places : List Place). IsAmong to places) (ap (λ (x : Wire). x.reaches) w.well.attached) reach.among in
        let near : IsNeighbour shape w.wire.lan to =
        each-at (IsNeighbour shape w.wire.lan) w.wire.reaches among.0 to w.well.neighbours among.1 in
        let least : least_frame face.at ≡ least_on w.wire.lan =
        least-wire face.at ∙ ap (λ (x : Wire). least_on x.lan) w.well.attached in
        record {
          later = is.0;
          known = near.known;
          load = reached-load shape w.wire.lan to (least_frame face.at) what least near reach.arrival;
          reach = inr (record {
            iface = iface;
            wire = w.wire;
            here = w.here;
            place = to;
            among = among;
            neighbour = near;
            target = refl;
            late = late-by now.0 (delay_of face.at) w.wire.delay at.0 (ap (λ (x : Wire). x.delay) w.well.attached) reach.late;
          });
        }
  ]

  carried : (iface : ℕ) (face : PlainIface) (act : Act Packet) → n < shape.nodes → IsAtWire shape n iface face →
      IsIfaceAct now.0 face act → C act
  carried iface face (Schedule at to what) inside w is = scheduled-carried iface face at to what inside w is
  carried iface face (Write sign frame) inside w is = tt
  carried iface face (Up packet) inside w is = tt
  carried iface face Dropped inside w is = tt

  abbrev D : IfaceStepped → Type 0
  D s = IsDone ok shape n was s

  abbrev stepping : Progress → In Packet → PlainIface → IfaceProgress
  stepping p input face = step face (bus_of (lan_of face.at) p.firing.lans) p.node.random p.node.numbers input

  taken-done : (iface : ℕ) (input : In Packet) (p : Progress) (o : Option PlainIface) → slice_get p.node.ifaces iface ≡ o →
      ((face : PlainIface) → Goes (IsWithin face) now.0 face p.node.numbers (stepping p input face)) → K p →
      D (taken_by iface input p o)
  taken-done iface input p None at goes k = record { progress = k; acts = λ o. tt }
  taken-done iface input p (Some face) at goes k =
      let g = goes face in
      let s : IfaceProgress = stepping p input face in
      record {
        progress = iface-keeps ok shape n was iface face s p at
            (λ wire w. stepped-well shape now.0 n iface wire face p.node s g w) (lan_of face.at) g.node k;
        acts = λ o.
            let w : IsAtWire shape n iface face = at_wire shape n iface face p.node (k.well o).node at in
            each-map (IsIfaceAct now.0 face) C (λ act is. carried iface face act (known o) w is) s.acts
            (g.moves.acts (within shape n iface w.wire face w.well));
      }

  pub step_at-done : (iface : ℕ) (input : In Packet) (p : Progress) →
      ((face : PlainIface) → Goes (IsWithin face) now.0 face p.node.numbers (stepping p input face)) → K p → D (step_at iface input p)
  unfolding step_at
  step_at-done iface input p goes k = taken-done iface input p (slice_get p.node.ifaces iface) refl goes k

  pub carry_down-keeps : (iface : ℕ) (p : Progress) (act : Act Packet) → (ok → C act) → K p → K (carry_down iface p act)
  unfolding carry_down
  carry_down-keeps iface p (Schedule at to what) is k = schedule-keeps ok shape n was at to.node (load_of to.iface what) p is k
  carry_down-keeps iface p (Write sign frame) is k = write-keeps ok shape n was iface sign frame p k
  carry_down-keeps iface p (Up packet) is k = k
  carry_down-keeps iface p Dropped is k = drop-keeps ok shape n was p k

  pub send_packet-keeps : (iface hop : ℕ) (packet : Packet) (p : Progress) → K p → K (send_packet iface hop packet p)
  unfolding send_packet
  send_packet-keeps iface hop packet p k =
      let done : D (step_at iface (Send now hop packet) p) = step_at-done iface (Send now hop packet) p
      (λ face. send-goes (IsWithin face) now face p.node.numbers (bus_of (lan_of face.at) p.firing.lans) p.node.random (λ w. w) hop packet) k in
      let same : p.firing.key.time ≡ now = ap (λ (key : Key). key.time) k.key in
      subst (λ (t : Time). K (stepped_down iface (step_at iface (Send t hop packet) p))) (sym same)
      (fold-each K (λ act. ok → C act) (carry_down iface) (λ q act is kept. carry_down-keeps iface q act is kept)
      (step_at iface (Send now hop packet) p).acts (step_at iface (Send now hop packet) p).progress
      (each-under ok C (step_at iface (Send now hop packet) p).acts done.acts) done.progress)
