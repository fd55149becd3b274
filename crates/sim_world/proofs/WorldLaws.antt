-- The world of an accepted scenario is one that runs may begin with.
use Rattle.std.proofs.Common.{◌≡◌, ℕ, zero, suc, ◌+◌, ◌<◌, ◌≤◌, false, List, [], ◌∷◌, length, map, get_or, Some, None, slice_get, refl, sym, ap, subst, ◌∙◌, arith}
use Rattle.std.specs.List.{AllByRecursion, range_with_len, flat_map}
use Rattle.std.specs.Prelude.{All, IsSomeAnd}
use Rattle.std.proofs.lemmas.List.Elements.{All-nil, All-weaker, recursion_from_All}
use Rattle.std.proofs.lemmas.List.FromFn.{length-map-range_with_len}
use Rattle.sim_base.specs.Packet.{Packet, len}
use Rattle.traffic_apps.specs.App.{IsKind}
use Rattle.round_core.specs.Opening.{HaveOwnKeys}
use Rattle.traffic_apps.specs.declared.kind.AppKind.TheVariants.{UdpSink}
use Rattle.scenario_form.specs.declared.scenario.Scenario.{Scenario}
use Rattle.scenario_form.specs.Limits.{IsWithinLimits}
use Rattle.node_step.specs.declared.loads.Event.{Event}
use Rattle.iface_step.specs.declared.words.Place.{Place}
use Rattle.iface_step.specs.Attachment.{lan_of, least_frame, neighbours}
use Rattle.iface_step.specs.Iface.{PlainIface}
use Rattle.queue_discs.specs.declared.disc.DiscKind.{DiscKind}
use Rattle.queue_discs.specs.declared.disc.DiscKind.TheVariants.{Fifo, Prio, Tbf}
use Rattle.queue_discs.specs.Disc.{IsKind as IsDiscKind, empty}
use Rattle.node_step.specs.LocalApp.{PlainLocalApp}
use Rattle.node_step.specs.Node.{PlainNode}
use Rattle.node_rules.specs.Health.{HasFrames, IsAttached, IsFor, IsNeighbour, IsPaced, IsWellEvent, IsWellIface, IsWellNode}
use Rattle.node_rules.specs.Shape.{Shape, Wire, wire_of}
use Rattle.node_rules.specs.Worlds.{AreFirstEvents, AreWellNodes, event_of, node_at, node_or, shape_of}
use Rattle.node_rules.proofs.OpeningLaws.{opens}
use Rattle.sim_world.specs.declared.apps.Installed.{Installed}
use Rattle.sim_world.specs.declared.ends.End.{End}
use Rattle.sim_world.specs.declared.ends.Medium.{Medium}
use Rattle.sim_world.specs.declared.ends.Medium.TheVariants as medium
use Rattle.sim_world.specs.declared.networks.Network.{Network}
use Rattle.sim_world.specs.Networks.{IsNetwork}
use Rattle.sim_world.specs.Ends.{IsEnd, IsOn, ends_of}
use Rattle.sim_world.specs.Lans as lans
use Rattle.sim_world.specs.Ifaces.{Around, attachment, iface_of}
use Rattle.sim_world.specs.Apps.{local_app}
use Rattle.sim_world.specs.Ticks.{tick_count}
use Rattle.sim_world.specs.Opening.{OpensRuns}
use Rattle.sim_world.specs.World.{around_in, id, ends_in, apps_in, node_in, ticks_in, world_of}
use Rattle.sim_world.proofs.EndLimits.{all_ends_at}
use Rattle.sim_world.proofs.AppLaws.{kinds_in, none_wait, starts_in}
use Rattle.sim_world.proofs.TickLaws.{IsTick, IsFirstTick, all_weaker, first_ticks_are, own_first_ticks}
use Rattle.sim_world.proofs.WiringLaws.{IsLinked, IsPlaced, Leads, placed}
use Rattle.sim_world.proofs.LanLaws.{IsFace, others_on}

-- ---- look-ups

-- what stands at a place of a list made from numbers
pub made_at : {A : Type 0} (f : ℕ → A) (from count i : ℕ) (x : A) → slice_get (map f (range_with_len from count)) i ≡ Some x → (i < count) × (x ≡ f (from + i))
made_at f from zero i x h = absurd (let d : None ≡ Some x = h in cc)
made_at f from (suc count) zero x h = (omega arith, let e : f from ≡ x = cc in sym e ∙ ap f (let z : from ≡ from + 0 = omega arith in z))
made_at f from (suc count) (suc i) x h =
    let rest : (i < count) × (x ≡ f (from + 1 + i)) = made_at f (from + 1) count i x h in
    (omega (arith, rest.0), rest.1 ∙ ap f (let z : from + 1 + i ≡ from + suc i = omega arith in z))

-- the other way
pub found_at : {A : Type 0} (f : ℕ → A) (from count i : ℕ) → i < count → slice_get (map f (range_with_len from count)) i ≡ Some (f (from + i))
found_at f from zero i lt = absurd (omega (arith, lt))
found_at f from (suc count) zero lt = ap (λ n. Some (f n)) (let z : from ≡ from + 0 = omega arith in z)
found_at f from (suc count) (suc i) lt = found_at f (from + 1) count i (omega (arith, lt)) ∙ ap (λ n. Some (f n)) (let z : from + 1 + i ≡ from + suc i = omega arith in z)

-- what stands at a place of a list of images
image_at : {A B : Type 0} (f : A → B) (xs : List A) (i : ℕ) (y : B) → slice_get (map f xs) i ≡ Some y → (i < length xs) × ((d : A) → y ≡ f (get_or xs i d))
image_at {A} f [] i y h = absurd (let d : None ≡ Some y = h in cc)
image_at {A} f (x ∷ xs) zero y h = (omega arith, λ d. let e : f x ≡ y = cc in sym e)
image_at {A} f (x ∷ xs) (suc i) y h = let rest : (i < length xs) × ((d : A) → y ≡ f (get_or xs i d)) = image_at f xs i y h in (omega (arith, rest.0), rest.1)

same_image : {A B : Type 0} (f : A → B) (xs : List A) (i : ℕ) (x : A) (y : B) → slice_get xs i ≡ Some x → slice_get (map f xs) i ≡ Some y → y ≡ f x
same_image f [] i x y here there = absurd (let d : None ≡ Some x = here in cc)
same_image f (z ∷ xs) zero x y here there = let e : z ≡ x = cc in let g : f z ≡ y = cc in sym g ∙ ap f e
same_image f (z ∷ xs) (suc i) x y here there = same_image f xs i x y here there

length-image : {A B : Type 0} (f : A → B) (xs : List A) → length (map f xs) ≡ length xs
length-image f [] = refl
length-image f (x ∷ xs) = ap suc (length-image f xs)

-- ---- the nodes of a scenario

abbrev nodes_of : Scenario → List PlainNode
nodes_of s = map (node_in s) (range_with_len 0 s.nodes)

abbrev shape_in : Scenario → Shape
shape_in s = shape_of (length s.lans) (nodes_of s)

abbrev face_wire : PlainIface → Wire
face_wire face = wire_of face.at

node_is : (s : Scenario) (n : ℕ) → n < s.nodes → node_at (nodes_of s) n ≡ node_in s n
node_is s n lt = ap (node_or n) (found_at (node_in s) 0 s.nodes n lt) ∙ ap (node_in s) (let z : 0 + n ≡ n = omega arith in z)

nodes_long : (s : Scenario) → length (nodes_of s) ≡ s.nodes
nodes_long s = length-map-range_with_len (node_in s) 0 s.nodes

iface_count : (s : Scenario) (n : ℕ) → n < s.nodes → length ((shape_in s).wires n) ≡ length (ends_in s n)
iface_count s n lt =
    ap (λ (node : PlainNode). length (map face_wire node.ifaces)) (node_is s n lt)
    ∙ length-image face_wire (node_in s n).ifaces ∙ length-image (iface_of (around_in s)) (ends_in s n)

app_count : (s : Scenario) (n : ℕ) → n < s.nodes → (shape_in s).apps n ≡ length (apps_in s n)
app_count s n lt = ap (λ (node : PlainNode). length node.apps) (node_is s n lt) ∙ length-image local_app (apps_in s n)

-- ---- interfaces

no_network : Network
no_network = record { number = 0; prefix = 0; mtu = 0; rate = record { 0 = 0 }; delay = record { 0 = 0 }; disc = Fifo 0; captured = false }

no_end : End
no_end = record { place = record { node = id 0; iface = 0 }; addr = 0; network = no_network; medium = medium.OnLan 0 }

-- what an interface of a node is attached to
wire_at : (around : Around) (P : Wire → Type 0) (ends : List End) (i : ℕ) → i < length ends → ((d : End) → P (face_wire (iface_of around (get_or ends i d))))
    → IsSomeAnd (slice_get (map face_wire (map (iface_of around) ends)) i) P
wire_at around P [] i lt h = absurd (omega (arith, lt))
wire_at around P (e ∷ ends) zero lt h = h e
wire_at around P (e ∷ ends) (suc i) lt h = wire_at around P ends i (omega (arith, lt)) h

there : (s : Scenario) (P : Wire → Type 0) (n i : ℕ) → n < s.nodes → i < length (ends_in s n) → ((d : End) → P (face_wire (iface_of (around_in s) (get_or (ends_in s n) i d))))
    → IsSomeAnd (slice_get ((shape_in s).wires n) i) P
there s P n i below lt h =
    subst (λ (node : PlainNode). IsSomeAnd (slice_get (map face_wire node.ifaces) i) P) (sym (node_is s n below)) (wire_at (around_in s) P (ends_in s n) i lt h)

linked_wire : (around : Around) (e : End) (m : Medium) → IsLinked m → lan_of (attachment around e m) ≡ None
linked_wire around e (medium.Link peer) h = refl
linked_wire around e (medium.OnLan lan) h = absurd h

-- links lead to links
peer_well : (s : Scenario) (peer : Place) → Leads s.nodes (ends_of s.links s.lans) (medium.Link peer) → IsNeighbour (shape_in s) None peer
peer_well s peer leads =
    let below : peer.node.0 < s.nodes = leads.0 in
    let long : length (nodes_of s) ≡ s.nodes = nodes_long s in
    record {
      known = omega (arith, below, long);
      same = there s (λ w. w.lan ≡ None) peer.node.0 peer.iface below leads.1
          (λ d. let e : End = get_or (ends_in s peer.node.0) peer.iface d in linked_wire (around_in s) e e.medium (leads.2 d));
    }

-- LANs lead to the other members
member_well : (s : Scenario) (lan : ℕ) (place : Place) → IsFace s.nodes (ends_of s.links s.lans) lan place → IsNeighbour (shape_in s) (Some lan) place
member_well s lan place is =
    let below : place.node.0 < s.nodes = is.node in
    let long : length (nodes_of s) ≡ s.nodes = nodes_long s in
    record {
      known = omega (arith, below, long);
      same = there s (λ w. w.lan ≡ Some lan) place.node.0 place.iface below is.iface
          (λ d. let e : End = get_or (ends_in s place.node.0) place.iface d in ap (λ m. lan_of (attachment (around_in s) e m)) (is.medium d));
    }

abbrev reaches : Scenario → End → Medium → Type 0
reaches s e m = AllByRecursion (IsNeighbour (shape_in s) (lan_of (attachment (around_in s) e m))) (neighbours (attachment (around_in s) e m))

neighbours_well : (s : Scenario) → IsWithinLimits s → (e : End) (m : Medium) → Leads s.nodes (ends_of s.links s.lans) m → IsOn (length s.lans) m → reaches s e m
neighbours_well s limits e (medium.Link peer) leads on = (peer_well s peer leads, tt)
neighbours_well s limits e (medium.OnLan lan) leads on =
    let ends : List End = ends_of s.links s.lans in
    let others : List Place = lans.others e.place.node (get_or (around_in s).members lan []) in
    recursion_from_All (IsNeighbour (shape_in s) (Some lan)) others
    (All-weaker (IsFace s.nodes ends lan) (IsNeighbour (shape_in s) (Some lan)) (member_well s lan) others
    (others_on s.nodes (length s.lans) lan e.place.node ends (placed s.nodes s.links s.lans limits.links) on))

device_well : (around : Around) (e : End) (m : Medium) → IsNetwork e.network → IsAttached (attachment around e m)
device_well around e (medium.Link peer) is = (is.some_rate, is.rate, is.delay)
device_well around e (medium.OnLan lan) is = (is.some_rate, is.rate, is.delay, tt)

paced_well : (kind : DiscKind) → IsDiscKind kind → IsPaced (empty kind).bucket
paced_well (Fifo limit) is = tt
paced_well (Prio limit) is = tt
paced_well (Tbf limit rate burst) is = is.0

no_frame : (kind : DiscKind) (least : ℕ) → HasFrames least (empty kind)
no_frame (Fifo limit) least = let none : All (λ (frame : Packet). least ≤ len frame) [] = All-nil (λ (frame : Packet). least ≤ len frame) in (none, none, none)
no_frame (Prio limit) least = let none : All (λ (frame : Packet). least ≤ len frame) [] = All-nil (λ (frame : Packet). least ≤ len frame) in (none, none, none)
no_frame (Tbf limit rate burst) least = let none : All (λ (frame : Packet). least ≤ len frame) [] = All-nil (λ (frame : Packet). least ≤ len frame) in (none, none, none)

same_place : (a b : Place) → a.node.0 ≡ b.node.0 → a.iface ≡ b.iface → a ≡ b
same_place a b node iface = λ i. record { node = record { 0 = node i }; iface = iface i }

placed_iface : (s : Scenario) → IsWithinLimits s → (n i : ℕ) (e : End) → IsEnd (length s.lans) e → IsPlaced s.nodes (ends_of s.links s.lans) n i e
    → IsWellIface (shape_in s) n i (face_wire (iface_of (around_in s) e)) (iface_of (around_in s) e)
placed_iface s limits n i e is at = record {
  place = same_place e.place (record { node = record { 0 = n }; iface = i }) at.node at.iface;
  attached = refl;
  neighbours = neighbours_well s limits e e.medium at.leads is.on;
  device = device_well (around_in s) e e.medium is.network;
  paced = paced_well e.network.disc is.network.disc;
  frames = no_frame e.network.disc (least_frame (attachment (around_in s) e e.medium));
}

well_iface : (s : Scenario) → IsWithinLimits s → (n i : ℕ) (wire : Wire) (face : PlainIface) → slice_get (map face_wire (node_in s n).ifaces) i ≡ Some wire
    → slice_get (node_in s n).ifaces i ≡ Some face → IsWellIface (shape_in s) n i wire face
well_iface s limits n i wire face there here =
    let at : (i < length (ends_in s n)) × ((d : End) → face ≡ iface_of (around_in s) (get_or (ends_in s n) i d)) = image_at (iface_of (around_in s)) (ends_in s n) i face here in
    let is_wire : wire ≡ face_wire face = same_image face_wire (node_in s n).ifaces i face wire here there in
    let e : End = get_or (ends_in s n) i no_end in
    let is_face : face ≡ iface_of (around_in s) e = at.1 no_end in
    let well : IsWellIface (shape_in s) n i (face_wire (iface_of (around_in s) e)) (iface_of (around_in s) e) =
    placed_iface s limits n i e (all_ends_at s.nodes n s.links s.lans limits.links limits.lans i no_end at.0) ((placed s.nodes s.links s.lans limits.links).each n i no_end at.0) in
    subst (λ l. IsWellIface (shape_in s) n i l face) (sym is_wire)
    (subst (λ (f : PlainIface). IsWellIface (shape_in s) n i (face_wire f) f) (sym is_face) well)

-- ---- applications

no_app : Installed
no_app = record { number = 0; kind = UdpSink; port = 0; start = record { 0 = 0 } }

well_app : (s : Scenario) → IsWithinLimits s → (n i : ℕ) (a : PlainLocalApp) → slice_get (node_in s n).apps i ≡ Some a → IsKind a.app.kind
well_app s limits n i a here =
    let at : (i < length (apps_in s n)) × ((d : Installed) → a ≡ local_app (get_or (apps_in s n) i d)) = image_at local_app (apps_in s n) i a here in
    subst (λ (x : PlainLocalApp). IsKind x.app.kind) (sym (at.1 no_app)) (kinds_in s.nodes n s.apps limits.apps i no_app at.0)

-- ---- nodes

node_well : (s : Scenario) → IsWithinLimits s → (n : ℕ) → n < s.nodes → IsWellNode (shape_in s) n (node_in s n)
node_well s limits n lt = record {
  number = refl;
  ifaces = length-image (iface_of (around_in s)) (ends_in s n) ∙ sym (iface_count s n lt);
  apps = length-image local_app (apps_in s n) ∙ sym (app_count s n lt);
  each_iface = λ i wire face there here.
      well_iface s limits n i wire face (ap (λ (node : PlainNode). slice_get (map face_wire node.ifaces) i) (sym (node_is s n lt)) ∙ there) here;
  each_app = λ i a here. well_app s limits n i a here;
  waits = none_wait (apps_in s n);
}

pub nodes_well : (s : Scenario) → IsWithinLimits s → AreWellNodes (length s.lans) (nodes_of s)
nodes_well s limits n node here =
    let at : (n < s.nodes) × (node ≡ node_in s (0 + n)) = made_at (node_in s) 0 s.nodes n node here in
    subst (IsWellNode (shape_in s) n) (sym (at.1 ∙ ap (node_in s) (let z : 0 + n ≡ n = omega arith in z))) (node_well s limits n at.0)

-- ---- first events

abbrev first_of : Scenario → List (Event Packet)
first_of s = flat_map (ticks_in s) (range_with_len 0 s.nodes)

ticks : (s : Scenario) → IsWithinLimits s → AllByRecursion (IsFirstTick 0 s.nodes (λ n. length (apps_in s n)) (λ n. tick_count (apps_in s n))) (first_of s)
ticks s limits = first_ticks_are (apps_in s) 0 s.nodes s.nodes (omega arith) (λ n. starts_in s.nodes n s.apps limits.apps)

well_tick : (s : Scenario) (e : Event Packet) → IsFirstTick 0 s.nodes (λ n. length (apps_in s n)) (λ n. tick_count (apps_in s n)) e → IsWellEvent (shape_in s) (event_of e)
well_tick s e is =
    let n : ℕ = is.n in
    let tick : IsTick n (length (apps_in s n)) 0 (tick_count (apps_in s n)) e = is.tick in
    let node : e.key.node.0 ≡ n = tick.node in
    let below : n < s.nodes = is.below_n in
    let there : tick.app < length (apps_in s n) = tick.there in
    let count : (shape_in s).apps n ≡ length (apps_in s n) = app_count s n below in
    let long : length (nodes_of s) ≡ s.nodes = nodes_long s in
    record {
      known = omega (arith, node, below, long);
      load = subst (IsFor (shape_in s) e.key.node.0) (sym tick.load) (subst (λ m. tick.app < (shape_in s).apps m) (sym node) (let x : tick.app < (shape_in s).apps n = omega (arith, there, count) in x));
    }

counted_tick : (s : Scenario) (e : Event Packet) → IsFirstTick 0 s.nodes (λ n. length (apps_in s n)) (λ n. tick_count (apps_in s n)) e
    → e.key.count < (node_at (nodes_of s) e.key.by.0).scheduled
counted_tick s e is =
    let n : ℕ = is.n in
    let tick : IsTick n (length (apps_in s n)) 0 (tick_count (apps_in s n)) e = is.tick in
    let by : e.key.by.0 ≡ n = tick.by in
    let node : node_at (nodes_of s) n ≡ node_in s n = node_is s n is.below_n in
    subst (λ m. e.key.count < (node_at (nodes_of s) m).scheduled) (sym by) (subst (λ (x : PlainNode). e.key.count < x.scheduled) (sym node) tick.high_count)

events_well : (s : Scenario) → IsWithinLimits s → AllByRecursion (λ e. IsWellEvent (shape_in s) (event_of e)) (first_of s)
events_well s limits =
    all_weaker (IsFirstTick 0 s.nodes (λ n. length (apps_in s n)) (λ n. tick_count (apps_in s n))) (λ e. IsWellEvent (shape_in s) (event_of e)) (well_tick s) (first_of s) (ticks s limits)

events_counted : (s : Scenario) → IsWithinLimits s → AllByRecursion (λ e. e.key.count < (node_at (nodes_of s) e.key.by.0).scheduled) (first_of s)
events_counted s limits =
    all_weaker (IsFirstTick 0 s.nodes (λ n. length (apps_in s n)) (λ n. tick_count (apps_in s n))) (λ e. e.key.count < (node_at (nodes_of s) e.key.by.0).scheduled) (counted_tick s) (first_of s) (ticks s limits)

pub own_keys : (s : Scenario) → IsWithinLimits s → HaveOwnKeys (λ e. e.key) (first_of s)
own_keys s limits = own_first_ticks (apps_in s) 0 s.nodes s.nodes (omega arith) (λ n. starts_in s.nodes n s.apps limits.apps)

-- ---- the whole

first_events : (s : Scenario) → IsWithinLimits s → AreFirstEvents (length s.lans) (nodes_of s) (first_of s)
first_events s limits = record {
  well = events_well s limits;
  own_keys = own_keys s limits;
  counted = events_counted s limits;
}

pub opens_runs : (s : Scenario) → IsWithinLimits s → OpensRuns (world_of s)
unfolding world_of
opens_runs s limits = opens s.events_per_node (length s.lans) (nodes_of s) (first_of s) (first_events s limits) (nodes_well s limits)
