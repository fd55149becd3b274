-- An allowed cut of a scenario's network fits its world.
use Rattle.std.proofs.Common.{◌≡◌, ◌≢◌, ◌⊎◌, ◌==◌, ℕ, ◌+◌, ◌<◌, ◌≤◌, ◌^◌, Bool, true, false, List, [], ◌∷◌, All, fold, length, map, Option, Some, None, slice_get, slice_index, get_or, refl, sym, ap, ◌∙◌, subst, arith, inl, inr}
use Rattle.std.specs.List.{AllByRecursion, enumerate_from, list_any, range_with_len, zip}
use Rattle.std.specs.Prelude.{◌||◌}
use Rattle.std.proofs.lemmas.Bool.{cases_Bool, cases_eq, cases_lt, eqb-true}
use Rattle.std.proofs.lemmas.List.{get_or-map, length-map}
use Rattle.std.proofs.lemmas.List.Elements.{All-append, All-cons, All-filter, All-head, All-nil, All-tail, filter_passes}
use Rattle.std.proofs.lemmas.List.FromFn.{get_or-enumerate_from, get_or-map-range_with_len, length-enumerate_from, length-map-range_with_len}
use Rattle.std.proofs.lemmas.Option.{get_or_from_slice_get, slice_get-get_or, slice_get-map, slice_get_past, slice_get_within}
use Rattle.sim_base.specs.declared.key.NodeId.{NodeId}
use Rattle.sim_base.specs.declared.time.Time.{Time}
use Rattle.partition_cut.specs.declared.network.Cut.{Cut}
use Rattle.partition_cut.specs.declared.network.Shape.{Shape}
use Rattle.partition_cut.specs.AllowedCut.{IsCutOf, IsLookahead}
use Rattle.partition_cut.specs.Network.{Link as ShapeLink}
use Rattle.round_core.specs.Lookahead.{IsPositive}
use Rattle.scenario_form.specs.declared.scenario.Lan.{Lan}
use Rattle.scenario_form.specs.declared.scenario.Link.{Link}
use Rattle.scenario_form.specs.declared.scenario.Scenario.{Scenario}
use Rattle.scenario_form.specs.Shape.{IsNetworkOf, lans_of, numbers_of}
use Rattle.iface_step.specs.Iface.{PlainIface}
use Rattle.node_step.specs.Node.{PlainNode}
use Rattle.node_rules.specs.Health.{IsLong}
use Rattle.node_rules.specs.Shape.{Wire, is_lan, sits_on, wire_of}
use Rattle.node_rules.specs.Worlds.{node_or}
use Rattle.sim_world.specs.declared.ends.End.{End}
use Rattle.sim_world.specs.declared.ends.Medium.{Medium}
use Rattle.sim_world.specs.declared.ends.Medium.TheVariants.{Link as OnLink, OnLan}
use Rattle.sim_world.specs.declared.networks.Network.{Network}
use Rattle.sim_world.specs.Ends.{end_of, ends_of, face_of, node_of, with_face, with_lan, with_link}
use Rattle.sim_world.specs.Ifaces.{Around, attachment, iface_of}
use Rattle.sim_world.specs.Networks.{lan_network, link_network}
use Rattle.sim_world.specs.World.{around_in, ends_in, node_in, world_of}
use Rattle.plain_kernel.specs.Run.{shape_in}
use Rattle.round_kernel.specs.Cut.{Fits, group_of, nanoseconds}
use Rattle.round_kernel.proofs.Begin.{some-mapped}

-- what an interface is attached to
abbrev wire_at : PlainIface → Wire
wire_at face = wire_of face.at

abbrev nodes_in : Scenario → List PlainNode
nodes_in s = map (node_in s) (range_with_len 0 s.nodes)

node-there : (s : Scenario) (n : ℕ) → n < s.nodes → slice_get (nodes_in s) n ≡ Some (node_in s n)
node-there s n low =
    slice_get-get_or (nodes_in s) n (node_in s n) (let l = length-map-range_with_len (node_in s) 0 s.nodes in omega arith)
    ∙ ap Some (get_or-map-range_with_len (node_in s) 0 s.nodes n n (node_in s n) low (omega arith))

node-beyond : (s : Scenario) (n : ℕ) → s.nodes ≤ n → slice_get (nodes_in s) n ≡ None
node-beyond s n past = slice_get_past (nodes_in s) n (let l = length-map-range_with_len (node_in s) 0 s.nodes in omega arith)

either-rest : (a b : Bool) → a ≡ false → (a || b) ≡ true → b ≡ true
either-rest true b is h = absurd (let d : true ≡ false = is in cc)
either-rest false b is h = h

-- a fact of the items of a list holds of them with their numbers
numbered : {A : Type 0} (P : A → Type 0) (xs : List A) → All P xs → All (λ x. P x.1) (enumerate_from 0 xs)
numbered {A} P xs all k d low =
    let inside : k < length xs = (let l = length-enumerate_from 0 xs in omega arith) in
    subst (λ (x : ℕ × A). P x.1) (sym (get_or-enumerate_from 0 xs k d inside)) (all k d.1 inside)

-- and beside the items of another
zipped : {A B : Type 0} (P : A → Type 0) (xs : List A) (ys : List B) → All P xs → All (λ x. P x.0) (zip xs ys)
zipped P [] ys all = All-nil (λ x. P x.0)
zipped P (x ∷ xs) [] all = All-nil (λ x. P x.0)
zipped P (x ∷ xs) (y ∷ ys) all = All-cons (λ x. P x.0) (x, y) (zip xs ys) (All-head P x xs all) (zipped P xs ys (All-tail P x xs all))

module _ (group : ℕ → ℕ) (lookahead : Option ℕ) (lan_group : ℕ → ℕ) where
  -- a link stays within a group, or takes at least the lookahead; a LAN lies within its group
  abbrev pub LinkFits : Link → Type 0
  LinkFits l = (group l.a.0 ≡ group l.b.0) ⊎ IsLong lookahead l.delay_ns.0

  abbrev pub LanFits : ℕ × Lan → Type 0
  LanFits l = All (λ member. group member.0 ≡ lan_group l.0) l.1.members

  -- so is what an interface of a node is on
  abbrev MediumFits : ℕ → ℕ → Medium → Type 0
  MediumFits node delay (OnLink peer) = (group peer.node.0 ≡ group node) ⊎ IsLong lookahead delay
  MediumFits node delay (OnLan lan) = group node ≡ lan_group lan

  abbrev EndFits : End → Type 0
  EndFits e = MediumFits e.place.node.0 e.network.delay.0 e.medium

  turned : {B : Type 0} (x y : ℕ) → (x ≡ y) ⊎ B → (y ≡ x) ⊎ B
  turned x y (inl same) = inl (sym same)
  turned x y (inr long) = inr long

  links-from : (ends : List End) (links : List (ℕ × Link)) → All EndFits ends → All (λ l. LinkFits l.1) links → All EndFits (fold with_link ends links)
  links-from ends [] are fit = are
  links-from ends (l ∷ links) are fit =
      let first : LinkFits l.1 = All-head (λ (x : ℕ × Link). LinkFits x.1) l links fit in
      let one : End = end_of ends (link_network l.0 l.1) l.1.a l.1.a_addr l.1.b in
      let other : End = end_of ends (link_network l.0 l.1) l.1.b l.1.b_addr l.1.a in
      links-from (with_link ends l) links
      (All-append EndFits ends (one ∷ other ∷ []) are
      (All-cons EndFits one (other ∷ []) (turned (group l.1.a.0) (group l.1.b.0) first) (All-cons EndFits other [] first (All-nil EndFits))))
      (All-tail (λ (x : ℕ × Link). LinkFits x.1) l links fit)

  faces-from : (network : Network) (lan : ℕ) (ends : List End) (members : List (NodeId × ℕ)) → All EndFits ends →
      All (λ m. group m.0.0 ≡ lan_group lan) members → All EndFits (fold (with_face network lan) ends members)
  faces-from network lan ends [] are fit = are
  faces-from network lan ends (m ∷ members) are fit =
      faces-from network lan (with_face network lan ends m) members
      (All-append EndFits ends (face_of ends network lan m.0 m.1 ∷ []) are
      (All-cons EndFits (face_of ends network lan m.0 m.1) [] (All-head (λ (x : NodeId × ℕ). group x.0.0 ≡ lan_group lan) m members fit) (All-nil EndFits)))
      (All-tail (λ (x : NodeId × ℕ). group x.0.0 ≡ lan_group lan) m members fit)

  lans-from : (count : ℕ) (ends : List End) (lans : List (ℕ × Lan)) → All EndFits ends → All LanFits lans → All EndFits (fold (with_lan count) ends lans)
  lans-from count ends [] are fit = are
  lans-from count ends (l ∷ lans) are fit =
      lans-from count (with_lan count ends l) lans
      (faces-from (lan_network (count + l.0) l.1) l.0 ends (zip l.1.members l.1.addrs) are
      (zipped (λ (member : NodeId). group member.0 ≡ lan_group l.0) l.1.members l.1.addrs (All-head LanFits l lans fit)))
      (All-tail LanFits l lans fit)

  module _ (s : Scenario) (links_fit : All LinkFits s.links) (lans_fit : All LanFits (enumerate_from 0 s.lans)) where
    ends-fit : All EndFits (ends_of s.links s.lans)
    unfolding ends_of
    ends-fit = lans-from (length s.links) (fold with_link [] (enumerate_from 0 s.links)) (enumerate_from 0 s.lans)
        (links-from [] (enumerate_from 0 s.links) (All-nil EndFits) (numbered LinkFits s.links links_fit)) lans_fit

    -- the interfaces of a node
    node-fits : (n : ℕ) → All EndFits (ends_in s n)
    node-fits n = All-filter (λ (e : End). node_of e == n) EndFits (ends_of s.links s.lans) ends-fit

    node-is : (n : ℕ) → All (λ e. node_of e ≡ n) (ends_in s n)
    node-is n k d low = eqb-true _ n (filter_passes (λ (e : End). node_of e == n) (ends_of s.links s.lans) k d low)

    -- what a wire leads to is in the group of its node, or as far
    abbrev pub WireFits : ℕ → Wire → Type 0
    WireFits n wire = AllByRecursion (λ place. (group place.node.0 ≡ group n) ⊎ IsLong lookahead wire.delay) wire.reaches

    link-wire : (around : Around) (e : End) (m : Medium) → MediumFits e.place.node.0 e.network.delay.0 m → (wire_of (attachment around e m)).lan ≡ None →
        WireFits e.place.node.0 (wire_of (attachment around e m))
    link-wire around e (OnLink peer) fit none = (fit, tt)
    link-wire around e (OnLan lan) fit none = absurd (let d : Some lan ≡ None = none in cc)

    lan-wire : (around : Around) (e : End) (m : Medium) (lan : ℕ) → MediumFits e.place.node.0 e.network.delay.0 m →
        is_lan lan (wire_of (attachment around e m)).lan ≡ true → group e.place.node.0 ≡ lan_group lan
    lan-wire around e (OnLink peer) lan fit is = absurd (let d : false ≡ true = is in cc)
    lan-wire around e (OnLan own) lan fit is = fit ∙ ap lan_group (eqb-true own lan is)

    reached : (n iface : ℕ) (wire : Wire) → slice_get (map wire_at (map (iface_of (around_in s)) (ends_in s n))) iface ≡ Some wire → wire.lan ≡ None →
        WireFits n wire
    reached n iface wire is none =
        let around : Around = around_in s in
        let face = some-mapped wire_at (slice_get (map (iface_of around) (ends_in s n)) iface) wire
        (sym (slice_get-map wire_at (map (iface_of around) (ends_in s n)) iface) ∙ is) in
        let end = some-mapped (iface_of around) (slice_get (ends_in s n) iface) face.0
        (sym (slice_get-map (iface_of around) (ends_in s n) iface) ∙ face.1) in
        let low = slice_get_within (ends_in s n) iface end.0 end.1 in
        let here : get_or (ends_in s n) iface end.0 ≡ end.0 = get_or_from_slice_get (ends_in s n) iface end.0 end.0 end.1 in
        let ok : EndFits end.0 = subst EndFits here (node-fits n iface end.0 low) in
        let at : node_of end.0 ≡ n = subst (λ (e : End). node_of e ≡ n) here (node-is n iface end.0 low) in
        let wire_is : wire ≡ wire_at (iface_of around end.0) = face.2 ∙ ap wire_at end.2 in
        subst (λ (x : Wire). WireFits n x) (sym wire_is)
        (subst (λ (k : ℕ). WireFits k (wire_at (iface_of around end.0))) at
        (link-wire around end.0 end.0.medium ok (ap (λ (x : Wire). x.lan) (sym wire_is) ∙ none)))

    -- a node that sits on a LAN is in its group
    any-on : (around : Around) (n lan : ℕ) (ends : List End) → All EndFits ends → All (λ e. node_of e ≡ n) ends →
        list_any (λ (wire : Wire). is_lan lan wire.lan) (map wire_at (map (iface_of around) ends)) ≡ true → group n ≡ lan_group lan
    any-on around n lan [] fit nodes is = absurd (let d : false ≡ true = is in cc)
    any-on around n lan (e ∷ ends) fit nodes is = elim (cases_Bool (is_lan lan (wire_at (iface_of around e)).lan)) [
      | inl yes_it ↦ ap group (sym (All-head (λ (x : End). node_of x ≡ n) e ends nodes))
          ∙ lan-wire around e e.medium lan (All-head EndFits e ends fit) yes_it
      | inr no_it ↦ any-on around n lan ends (All-tail EndFits e ends fit) (All-tail (λ (x : End). node_of x ≡ n) e ends nodes)
          (either-rest _ (list_any (λ (wire : Wire). is_lan lan wire.lan) (map wire_at (map (iface_of around) ends))) no_it is)
    ]

    -- a node that there isn't leads nowhere, and is on no LAN
    pub world-reached : (n iface : ℕ) (wire : Wire) → slice_get ((shape_in (world_of s)).wires n) iface ≡ Some wire → wire.lan ≡ None → WireFits n wire
    unfolding world_of
    world-reached n iface wire is none = elim (cases_lt n s.nodes) [
      | inl low ↦ reached n iface wire (ap (λ (o : Option PlainNode). slice_get (map wire_at (node_or n o).ifaces) iface) (sym (node-there s n low)) ∙ is) none
      | inr past ↦ absurd (let d : None ≡ Some wire =
          ap (λ (o : Option PlainNode). slice_get (map wire_at (node_or n o).ifaces) iface) (sym (node-beyond s n past)) ∙ is in cc)
    ]

    pub world-sits : (n lan : ℕ) → sits_on (shape_in (world_of s)) n lan ≡ true → group n ≡ lan_group lan
    unfolding world_of
    world-sits n lan is = elim (cases_lt n s.nodes) [
      | inl low ↦ any-on (around_in s) n lan (ends_in s n) (node-fits n) (node-is n)
          (ap (λ (o : Option PlainNode). list_any (λ (wire : Wire). is_lan lan wire.lan) (map wire_at (node_or n o).ifaces)) (sym (node-there s n low)) ∙ is)
      | inr past ↦ absurd (let d : false ≡ true =
          ap (λ (o : Option PlainNode). list_any (λ (wire : Wire). is_lan lan wire.lan) (map wire_at (node_or n o).ifaces)) (sym (node-beyond s n past)) ∙ is in cc)
    ]

-- what a lookahead says of a link of the network
link-fits : (group : ℕ → ℕ) (links : List ShapeLink) (lookahead : Option Time) → IsLookahead group links lookahead →
    (k : ℕ) (link : ShapeLink) → k < length links → get_or links k link ≡ link → (group link.0 ≡ group link.1) ⊎ IsLong (nanoseconds lookahead) link.2.0
link-fits group links None is k link low here = inl (subst (λ (l : ShapeLink). group l.0 ≡ group l.1) here (is k link low))
link-fits group links (Some least) is k link low here = elim (cases_eq (group link.0) (group link.1)) [
  | inl same ↦ inl same
  | inr other ↦ inr (subst (λ (l : ShapeLink). group l.0 ≢ group l.1 → least.0 ≤ l.2.0) here (is.1 k link low) other)
]

-- it is positive where links between groups take time
positive : (group : ℕ → ℕ) (links : List ShapeLink) (lookahead : Option Time) → IsLookahead group links lookahead →
    All (λ link. group link.0 ≢ group link.1 → 0 < link.2.0) links → IsPositive (nanoseconds lookahead)
positive group links None is time = tt
positive group links (Some least) is time =
    let one = is.0 in
    let link = one.1 in
    let some : 0 < link.2.0 = subst (λ (l : ShapeLink). group l.0 ≢ group l.1 → 0 < l.2.0) one.3 (time one.0 link one.2) one.4.0 in
    let same = ap (λ (t : Time). t.0) one.4.1 in omega arith

-- the group of a LAN is that of its first member
abbrev lan_group : (ℕ → ℕ) → List Lan → ℕ → ℕ
lan_group group lans lan = group (slice_index (get_or (lans_of lans) lan []) 0)

-- the members of a LAN that lies within one group
lans-within : (group : ℕ → ℕ) (lans : List Lan) → All (λ lan. All (λ a. All (λ b. group a ≡ group b) lan) lan) (lans_of lans) →
    All (LanFits group None (lan_group group lans)) (enumerate_from 0 lans)
lans-within group lans within k d low =
    let inside : k < length lans = (let l = length-enumerate_from 0 lans in omega arith) in
    subst (LanFits group None (lan_group group lans)) (sym (get_or-enumerate_from 0 lans k d inside)) (members (get_or lans k d.1) inside refl)
  where
    members : (lan : Lan) → k < length lans → lan ≡ get_or lans k d.1 → All (λ member. group member.0 ≡ lan_group group lans (0 + k)) lan.members
    members lan inside lan_is j e there =
        let z : 0 + k ≡ k = omega arith in
        let is : get_or (lans_of lans) k [] ≡ numbers_of lan.members = get_or-map (λ (l : Lan). numbers_of l.members) lans k d.1 [] inside
        ∙ ap (λ (l : Lan). numbers_of l.members) (sym lan_is) in
        let count : length (get_or (lans_of lans) k []) ≡ length lan.members = ap length is ∙ length-map lan.members (λ (node : NodeId). node.0) in
        let named : get_or (get_or (lans_of lans) k []) j 0 ≡ (get_or lan.members j e).0 =
        ap (λ (l : List ℕ). get_or l j 0) is ∙ get_or-map (λ (node : NodeId). node.0) lan.members j e 0 there in
        let same = within k [] (let l = length-map lans (λ (l : Lan). numbers_of l.members) in omega arith) j 0 (omega arith) 0 0 (omega arith) in
        ap group (sym named) ∙ same ∙ ap (lan_group group lans) (sym z)

pub cut-fits : (s : Scenario) (shape : Shape) (cut : Cut) → IsNetworkOf s shape → 1 ≤ s.nodes → s.nodes < 2 ^ 32 → IsCutOf shape cut → Fits (world_of s) cut
unfolding world_of
cut-fits s shape cut are some few is =
    let count = length-map-range_with_len (node_in s) 0 s.nodes in
    record {
      each = is.each ∙ are.nodes ∙ sym count;
      within = is.within;
      some = (let first = is.within 0 0 (let e = is.each in let n = are.nodes in omega arith) in omega arith);
      few = omega arith;
      positive = positive (group_of cut) shape.links.items cut.lookahead is.lookahead is.allowed.links;
      cut_by = record {
        lans = λ n m lan here there.
            world-sits (group_of cut) (nanoseconds cut.lookahead) (lan_group (group_of cut) s.lans) s links_fit lans_fit n lan here
            ∙ sym (world-sits (group_of cut) (nanoseconds cut.lookahead) (lan_group (group_of cut) s.lans) s links_fit lans_fit m lan there);
        links = λ n iface wire at alone. world-reached (group_of cut) (nanoseconds cut.lookahead) (lan_group (group_of cut) s.lans) s links_fit lans_fit n iface wire at alone;
      };
    }
  where
    links_fit : All (LinkFits (group_of cut) (nanoseconds cut.lookahead) (lan_group (group_of cut) s.lans)) s.links
    links_fit k d low =
        let l = ap length are.links ∙ length-map s.links (λ (link : Link). (link.a.0, link.b.0, link.delay_ns)) in
        let there = get_or shape.links.items k ((get_or s.links k d).a.0, (get_or s.links k d).b.0, (get_or s.links k d).delay_ns) in
        let seen : there ≡ ((get_or s.links k d).a.0, (get_or s.links k d).b.0, (get_or s.links k d).delay_ns) =
        ap (λ (xs : List ShapeLink). get_or xs k ((get_or s.links k d).a.0, (get_or s.links k d).b.0, (get_or s.links k d).delay_ns)) are.links
        ∙ get_or-map (λ (link : Link). (link.a.0, link.b.0, link.delay_ns)) s.links k d _ low in
        link-fits (group_of cut) shape.links.items cut.lookahead is.lookahead k _ (omega arith) seen

    lans_fit : All (LanFits (group_of cut) (nanoseconds cut.lookahead) (lan_group (group_of cut) s.lans)) (enumerate_from 0 s.lans)
    lans_fit = lans-within (group_of cut) s.lans
        (subst (λ (lans : List (List ℕ)). All (λ lan. All (λ a. All (λ b. group_of cut a ≡ group_of cut b) lan) lan) lans) are.lans is.allowed.lans)
