-- The members of LANs are interfaces that there are.
use Rattle.std.proofs.Common.{◌≡◌, ℕ, nat_eq, not, Bool, true, false, cond, ◌+◌, ◌<◌, List, [], ◌∷◌, ◌++◌, length, filter, get_or, Option, Some, None, refl, sym, ap, subst, ◌∙◌, arith}
use Rattle.std.specs.Prelude.{All, IfSome}
use Rattle.std.specs.List.{cons_option, filter_map, range_with_len}
use Rattle.std.proofs.lemmas.List.{append-nil, get_or_default}
use Rattle.std.proofs.lemmas.List.Elements.{All-append, All-cons, All-filter, All-head, All-map, All-nil, All-tail, filter_map-append}
use Rattle.std.proofs.lemmas.List.FromFn.{get_or-range_with_len, length-range_with_len}
use Rattle.iface_step.specs.declared.words.Place.{Place}
use Rattle.sim_base.specs.declared.key.NodeId.{NodeId}
use Rattle.sim_world.specs.declared.ends.End.{End}
use Rattle.sim_world.specs.declared.ends.Medium.{Medium}
use Rattle.sim_world.specs.declared.ends.Medium.TheVariants.{Link, OnLan}
use Rattle.sim_world.specs.declared.lans.Member.{Member}
use Rattle.sim_world.specs.Grouping.{grouped, joined, under, with_item}
use Rattle.sim_world.specs.Ends.{node_of, ends_at, in_order}
use Rattle.sim_world.specs.Lans.{lan_of, member_by, member_of, members_of, others}
use Rattle.sim_world.proofs.GroupLaws.{get_or-grouped, grouped-push}
use Rattle.sim_world.proofs.WiringLaws.{ArePlaced, IsPlaced}

-- ---- one interface more

-- an interface that is on no LAN
pub no_member : (lans : ℕ) (before : List End) (e : End) → member_of e ≡ None → members_of lans (before ++ e ∷ []) ≡ members_of lans before
no_member lans before e none =
    ap (grouped lan_of lans)
    (filter_map-append member_of before (e ∷ []) ∙ ap (λ o. filter_map member_of before ++ cons_option o []) none ∙ append-nil (filter_map member_of before))

pub one_member : (lans : ℕ) (before : List End) (e : End) (m : Member) → member_of e ≡ Some m → m.lan < lans
    → with_item m.lan m (members_of lans before) ≡ members_of lans (before ++ e ∷ [])
one_member lans before e m some lt =
    grouped-push lan_of lans (filter_map member_of before) m m.lan refl lt
    ∙ ap (grouped lan_of lans) (sym (filter_map-append member_of before (e ∷ []) ∙ ap (λ o. filter_map member_of before ++ cons_option o []) some))

pub no_members : (lans : ℕ) → members_of lans [] ≡ grouped lan_of lans []
no_members lans = refl

-- ---- members are interfaces

-- a place at which a node has an interface on a LAN
pub record IsFace (nodes : ℕ) (ends : List End) (lan : ℕ) (place : Place) : Type 0 where
  pub node : place.node.0 < nodes
  pub iface : place.iface < length (ends_at place.node.0 ends)
  pub medium : (d : End) → (get_or (ends_at place.node.0 ends) place.iface d).medium ≡ OnLan lan

-- the interfaces on LANs are where their places say
abbrev IsHeld : ℕ → List End → End → Type 0
IsHeld nodes ends e = IfSome (member_of e) (λ m. IsFace nodes ends m.lan m.place)

held_by : (nodes : ℕ) (ends : List End) (n i : ℕ) (e : End) (m : Medium) → m ≡ e.medium → e.place.node.0 ≡ n → e.place.iface ≡ i → n < nodes → i < length (ends_at n ends)
    → ((d : End) → get_or (ends_at n ends) i d ≡ e) → IfSome (member_by e.place m) (λ m. IsFace nodes ends m.lan m.place)
held_by nodes ends n i e (Link peer) m_is node iface below there at = tt
held_by nodes ends n i e (OnLan lan) m_is node iface below there at = record {
  node = omega (arith, node, below);
  iface = subst (λ k. e.place.iface < length (ends_at k ends)) (sym node) (subst (λ k. k < length (ends_at n ends)) (sym iface) there);
  medium = λ d. ap (λ k. (get_or (ends_at k ends) e.place.iface d).medium) node ∙ ap (λ k. (get_or (ends_at n ends) k d).medium) iface
      ∙ ap (λ (x : End). x.medium) (at d) ∙ sym m_is;
}

held_at : (nodes : ℕ) (ends : List End) → ArePlaced nodes ends → (n : ℕ) → n < nodes → All (IsHeld nodes ends) (ends_at n ends)
held_at nodes ends are n below i d there =
    let e : End = get_or (ends_at n ends) i d in
    let is : IsPlaced nodes ends n i e = are.each n i d there in
    held_by nodes ends n i e e.medium refl is.node is.iface below there (λ x. get_or_default (ends_at n ends) i x d there)

pub all_joined : {A : Type 0} (P : A → Type 0) (groups : List (List A)) → All (All P) groups → All P (joined groups)
all_joined P [] are = All-nil P
all_joined P (there ∷ groups) are = All-append P there (joined groups) (All-head (All P) there groups are) (all_joined P groups (All-tail (All P) there groups are))

held_in_order : (nodes : ℕ) (ends : List End) → ArePlaced nodes ends → All (IsHeld nodes ends) (in_order nodes ends)
held_in_order nodes ends are =
    all_joined (IsHeld nodes ends) (grouped node_of nodes ends)
    (All-map (All (IsHeld nodes ends)) (λ n. ends_at n ends) (range_with_len 0 nodes)
    (λ k d lt.
    let long : length (range_with_len 0 nodes) ≡ nodes = length-range_with_len 0 nodes in
    let is : get_or (range_with_len 0 nodes) k d ≡ 0 + k = get_or-range_with_len 0 nodes k d (omega (arith, long, lt)) in
    held_at nodes ends are (get_or (range_with_len 0 nodes) k d) (omega (arith, is, long, lt))))

all_option : {A : Type 0} (P : A → Type 0) (o : Option A) (xs : List A) → IfSome o P → All P xs → All P (cons_option o xs)
all_option P None xs h are = are
all_option P (Some x) xs h are = All-cons P x xs h are

all_found : {A B : Type 0} (f : A → Option B) (P : B → Type 0) (xs : List A) → All (λ x. IfSome (f x) P) xs → All P (filter_map f xs)
all_found {A} f P [] are = All-nil P
all_found {A} f P (x ∷ xs) are =
    all_option P (f x) (filter_map f xs) (All-head (λ (y : A). IfSome (f y) P) x xs are) (all_found f P xs (All-tail (λ (y : A). IfSome (f y) P) x xs are))

-- what passes a test passed it
kept : {A : Type 0} (p : A → Bool) (b : Bool) (x : A) (xs : List A) → p x ≡ b → All (λ y. p y ≡ true) xs → All (λ y. p y ≡ true) (cond b (x ∷ xs) xs)
kept {A} p true x xs is are = All-cons (λ (y : A). p y ≡ true) x xs is are
kept p false x xs is are = are

all_pass : {A : Type 0} (p : A → Bool) (xs : List A) → All (λ x. p x ≡ true) (filter p xs)
all_pass {A} p [] = All-nil (λ (x : A). p x ≡ true)
all_pass p (x ∷ xs) = kept p (p x) x (filter p xs) refl (all_pass p xs)

same_number : (a b : ℕ) → nat_eq a b ≡ true → a ≡ b
same_number a b h = grind arith

-- the members of a LAN are interfaces on it
members_on : (nodes lan : ℕ) (ends : List End) (ms : List Member) → All (λ m. IsFace nodes ends m.lan m.place) ms → All (λ m. IsFace nodes ends lan m.place) (under lan_of lan ms)
members_on nodes lan ends ms are = λ i d lt.
    let m : Member = get_or (under lan_of lan ms) i d in
    let on : nat_eq m.lan lan ≡ true = all_pass (λ (x : Member). nat_eq x.lan lan) ms i d lt in
    subst (λ k. IsFace nodes ends k m.place) (same_number m.lan lan on) (All-filter (λ (x : Member). nat_eq x.lan lan) (λ x. IsFace nodes ends x.lan x.place) ms are i d lt)

-- so are the others
pub others_on : (nodes lans lan : ℕ) (node : NodeId) (ends : List End) → ArePlaced nodes ends → lan < lans
    → All (IsFace nodes ends lan) (others node (get_or (members_of lans (in_order nodes ends)) lan []))
others_on nodes lans lan node ends are lt =
    let ms : List Member = filter_map member_of (in_order nodes ends) in
    let all : All (λ (m : Member). IsFace nodes ends m.lan m.place) ms =
    all_found member_of (λ (m : Member). IsFace nodes ends m.lan m.place) (in_order nodes ends) (held_in_order nodes ends are) in
    let on : All (λ (m : Member). IsFace nodes ends lan m.place) (under lan_of lan ms) = members_on nodes lan ends ms all in
    let elsewhere : Member → Bool = λ m. not (nat_eq m.place.node.0 node.0) in
    let here : All (λ (m : Member). IsFace nodes ends lan m.place) (filter elsewhere (get_or (members_of lans (in_order nodes ends)) lan [])) =
    subst (λ (l : List Member). All (λ (m : Member). IsFace nodes ends lan m.place) (filter elsewhere l)) (sym (get_or-grouped lan_of lans ms lan [] lt))
    (All-filter elsewhere (λ (m : Member). IsFace nodes ends lan m.place) (under lan_of lan ms) on) in
    All-map (IsFace nodes ends lan) (λ (m : Member). m.place) (filter elsewhere (get_or (members_of lans (in_order nodes ends)) lan [])) here
