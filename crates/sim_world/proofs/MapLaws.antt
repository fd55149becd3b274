-- The map of an accepted scenario: each interface is on a network that there is, and each network costs something.
use Rattle.std.proofs.Common.{◌≡◌, ℕ, zero, suc, nat_eq, Bool, true, false, cond, ◌+◌, ◌<◌, ◌≤◌, List, [], ◌∷◌, ◌++◌, length, map, filter, fold, get_or, refl, sym, ap, subst, ◌∙◌, arith, length-append}
use Rattle.std.specs.Prelude.{All}
use Rattle.std.specs.List.{enumerate_from, range_with_len, zip}
use Rattle.std.proofs.lemmas.List.{get_or_default, get_or-map, take_more}
use Rattle.std.proofs.lemmas.List.Elements.{All-append, All-cons, All-filter, All-map, All-nil, All-push, All-tail, All-weaker}
use Rattle.std.proofs.lemmas.List.FromFn.{get_or-map-range_with_len, get_or-range_with_len, length-map-range_with_len, length-range_with_len}
use Rattle.sim_base.specs.declared.key.NodeId.{NodeId}
use Rattle.route_calc.specs.declared.graph.Graph.{Graph}
use Rattle.route_calc.specs.declared.graph.Member.{Member}
use Rattle.route_calc.specs.declared.graph.Net.{Net}
use Rattle.route_calc.specs.Least.{PlainNet, nets_of, plain}
use Rattle.route_calc.specs.Walks.{HasItsNodes}
use Rattle.scenario_form.specs.declared.scenario.Lan.{Lan}
use Rattle.scenario_form.specs.declared.scenario.Link.{Link}
use Rattle.scenario_form.specs.declared.scenario.Scenario.{Scenario}
use Rattle.scenario_form.specs.Limits.{IsLan, IsLink, IsWithinLimits}
use Rattle.sim_world.specs.declared.ends.End.{End}
use Rattle.sim_world.specs.declared.networks.Network.{Network}
use Rattle.sim_world.specs.Ends.{IsEnd, node_of, end_of, ends_of, face_of, in_order, with_face, with_lan, with_link}
use Rattle.sim_world.specs.Graph.{cost_of_lan, cost_of_link, costs_of, member_of, net_of, nets_by, number_of}
use Rattle.sim_world.specs.Grouping.{grouped, joined, under}
use Rattle.sim_world.specs.Networks.{IsNetwork, lan_network, link_network}
use Rattle.sim_world.specs.World.{all_ends, nets_in, on_in}
use Rattle.sim_world.proofs.EndLaws.{all_numbered}
use Rattle.sim_world.proofs.EndLimits.{all_ends_grouped}
use Rattle.sim_world.proofs.GroupLaws.{all_grouped, get_or-grouped, length-grouped}
use Rattle.sim_world.proofs.LanLaws.{all_joined}
use Rattle.sim_world.proofs.RangeLaws.{map-more}

-- ---- each interface is on a network that there is

links_numbered : (count : ℕ) (ends : List End) (ls : List (ℕ × Link)) → All (λ e. number_of e < count) ends → All (λ l. l.0 < count) ls
    → All (λ e. number_of e < count) (fold with_link ends ls)
links_numbered count ends [] are is = are
links_numbered count ends (l ∷ ls) are is =
    let P : End → Type 0 = λ e. number_of e < count in
    let n : Network = link_network l.0 l.1 in
    let a : End = end_of ends n l.1.a l.1.a_addr l.1.b in
    let b : End = end_of ends n l.1.b l.1.b_addr l.1.a in
    let here : l.0 < count = is 0 l (omega arith) in
    links_numbered count (with_link ends l) ls
    (All-append P ends (a ∷ b ∷ []) are (All-cons P a (b ∷ []) here (All-cons P b [] here (All-nil P))))
    (All-tail (λ (x : ℕ × Link). x.0 < count) l ls is)

faces_numbered : (count lan : ℕ) (n : Network) (ends : List End) (ms : List (NodeId × ℕ)) → n.number < count → All (λ e. number_of e < count) ends
    → All (λ e. number_of e < count) (fold (with_face n lan) ends ms)
faces_numbered count lan n ends [] lt are = are
faces_numbered count lan n ends (m ∷ ms) lt are =
    faces_numbered count lan n (with_face n lan ends m) ms lt (All-push (λ (e : End). number_of e < count) ends (face_of ends n lan m.0 m.1) are lt)

lans_numbered : (count links : ℕ) (ends : List End) (ls : List (ℕ × Lan)) → All (λ e. number_of e < count) ends → All (λ l. links + l.0 < count) ls
    → All (λ e. number_of e < count) (fold (with_lan links) ends ls)
lans_numbered count links ends [] are is = are
lans_numbered count links ends (l ∷ ls) are is =
    lans_numbered count links (with_lan links ends l) ls
    (faces_numbered count l.0 (lan_network (links + l.0) l.1) ends (zip l.1.members l.1.addrs) (is 0 l (omega arith)) are)
    (All-tail (λ (x : ℕ × Lan). links + x.0 < count) l ls is)

length_map : {A B : Type 0} (f : A → B) (xs : List A) → length (map f xs) ≡ length xs
length_map f [] = refl
length_map f (x ∷ xs) = ap suc (length_map f xs)

pub length_costs : (links : List Link) (lans : List Lan) → length (costs_of links lans) ≡ length links + length lans
length_costs links lans =
    length-append (map cost_of_link links) (map cost_of_lan lans)
    ∙ (let l : length (map cost_of_link links) ≡ length links = length_map cost_of_link links in
    let m : length (map cost_of_lan lans) ≡ length lans = length_map cost_of_lan lans in omega (arith, l, m))

pub few_costs : (s : Scenario) → IsWithinLimits s → length (costs_of s.links s.lans) ≤ 4200
few_costs s limits = let long : length (costs_of s.links s.lans) ≡ length s.links + length s.lans = length_costs s.links s.lans in omega (arith, long, limits.few.links, limits.few.lans)

all_numbers : (links : List Link) (lans : List Lan) → All (λ e. number_of e < length (costs_of links lans)) (ends_of links lans)
unfolding ends_of
all_numbers links lans =
    let long : length (costs_of links lans) ≡ length links + length lans = length_costs links lans in
    let count : ℕ = length (costs_of links lans) in
    lans_numbered count (length links) (fold with_link [] (enumerate_from 0 links)) (enumerate_from 0 lans)
    (links_numbered count [] (enumerate_from 0 links) (All-nil (λ (e : End). number_of e < count))
    (all_numbered (λ (l : ℕ × Link). l.0 < count) links (λ i d lt. omega (arith, lt, long))))
    (all_numbered (λ (l : ℕ × Lan). length links + l.0 < count) lans (λ i d lt. omega (arith, lt, long)))

pub numbers_in : (s : Scenario) → All (λ e. number_of e < length (costs_of s.links s.lans)) (all_ends s)
numbers_in s =
    all_joined (λ (e : End). number_of e < length (costs_of s.links s.lans)) (grouped node_of s.nodes (ends_of s.links s.lans))
    (all_grouped node_of s.nodes (λ (e : End). number_of e < length (costs_of s.links s.lans)) (ends_of s.links s.lans) (all_numbers s.links s.lans))

-- ---- at a node that there is

same_number : (n m : ℕ) → nat_eq n m ≡ true → n ≡ m
same_number n m h = grind arith

passed : (n nodes : ℕ) (ends : List End) → n < nodes → All (λ e. node_of e < nodes) (under node_of n ends)
passed n nodes [] lt = All-nil (λ (e : End). node_of e < nodes)
passed n nodes (e ∷ ends) lt = go (nat_eq (node_of e) n) refl (passed n nodes ends lt)
  where
    go : (b : Bool) → nat_eq (node_of e) n ≡ b → All (λ e. node_of e < nodes) (under node_of n ends) → All (λ e. node_of e < nodes) (cond b (e ∷ under node_of n ends) (under node_of n ends))
    go true is rest = All-cons (λ (e : End). node_of e < nodes) e (under node_of n ends) (omega (arith, lt, same_number (node_of e) n is)) rest
    go false is rest = rest

nodes_in : (s : Scenario) → All (λ e. node_of e < s.nodes) (all_ends s)
nodes_in s =
    all_joined (λ (e : End). node_of e < s.nodes) (grouped node_of s.nodes (ends_of s.links s.lans))
    (All-map (All (λ (e : End). node_of e < s.nodes)) (λ n. under node_of n (ends_of s.links s.lans)) (range_with_len 0 s.nodes)
    (λ k d lt. passed (get_or (range_with_len 0 s.nodes) k d) s.nodes (ends_of s.links s.lans)
    (let inside : k < s.nodes = subst (λ m. k < m) (length-range_with_len 0 s.nodes) lt in omega (arith, inside, get_or-range_with_len 0 s.nodes k d inside))))

networks_at : (s : Scenario) → IsWithinLimits s → All (λ e. IsNetwork e.network) (all_ends s)
networks_at s limits =
    all_joined (λ (e : End). IsNetwork e.network) (grouped node_of s.nodes (ends_of s.links s.lans))
    (All-weaker (All (IsEnd (length s.lans))) (All (λ (e : End). IsNetwork e.network))
    (λ there are. All-weaker (IsEnd (length s.lans)) (λ (e : End). IsNetwork e.network) (λ e is. is.network) there are)
    (grouped node_of s.nodes (ends_of s.links s.lans)) (all_ends_grouped s.nodes s.links s.lans limits.links limits.lans))

pub networks_in : (s : Scenario) → IsWithinLimits s → All (All (λ e. IsNetwork e.network)) (on_in s)
networks_in s limits =
    all_grouped number_of (length (costs_of s.links s.lans)) (λ (e : End). IsNetwork e.network) (all_ends s) (networks_at s limits)

-- ---- the graph's networks

-- what a plain network of a scenario is
record IsSome (nodes : ℕ) (net : PlainNet) : Type 0 where
  some : 1 ≤ net.cost
  below : All (λ (m : Member). m.node < nodes) net.members

costs_some : (s : Scenario) → IsWithinLimits s → All (λ c. 1 ≤ c) (costs_of s.links s.lans)
costs_some s limits =
    All-append (λ c. 1 ≤ c) (map cost_of_link s.links) (map cost_of_lan s.lans)
    (All-map (λ c. 1 ≤ c) cost_of_link s.links (λ k d lt. (limits.links k d lt).cost.from))
    (All-map (λ c. 1 ≤ c) cost_of_lan s.lans (λ k d lt. (limits.lans k d lt).cost.from))

nodes_under : (s : Scenario) (t : ℕ) → All (λ e. (member_of e).node < s.nodes) (under number_of t (all_ends s))
nodes_under s t = All-filter (λ e. nat_eq (number_of e) t) (λ (e : End). node_of e < s.nodes) (all_ends s) (nodes_in s)

net_some : (s : Scenario) → IsWithinLimits s → (t : ℕ) → t < length (costs_of s.links s.lans) → IsSome s.nodes (net_of (costs_of s.links s.lans) (on_in s) t)
net_some s limits t lt = record {
  some = costs_some s limits t 0 lt;
  below = subst (λ (es : List End). All (λ (m : Member). m.node < s.nodes) (map member_of es)) (sym (get_or-grouped number_of (length (costs_of s.links s.lans)) (all_ends s) t [] lt))
      (All-map (λ (m : Member). m.node < s.nodes) member_of (under number_of t (all_ends s)) (nodes_under s t));
}

nets_some : (s : Scenario) → IsWithinLimits s → All (IsSome s.nodes) (nets_in s)
nets_some s limits =
    let costs : List ℕ = costs_of s.links s.lans in
    let count : ℕ = length costs in
    All-map (IsSome s.nodes) (net_of costs (on_in s)) (range_with_len 0 count)
    (λ k d lt.
    let inside : k < count = subst (λ m. k < m) (length-range_with_len 0 count) lt in
    let at : get_or (range_with_len 0 count) k d ≡ 0 + k = get_or-range_with_len 0 count k d inside in
    let there : get_or (range_with_len 0 count) k d < count = omega (arith, inside, at) in
    net_some s limits (get_or (range_with_len 0 count) k d) there)

-- the same of the networks that are seen so
seen_some : (nodes : ℕ) (nets : List Net) → All (IsSome nodes) (map plain nets) → All (λ (net : Net). IsSome nodes (plain net)) nets
seen_some nodes [] are = All-nil (λ (net : Net). IsSome nodes (plain net))
seen_some nodes (net ∷ nets) are =
    All-cons (λ (net : Net). IsSome nodes (plain net)) net nets (are 0 (plain net) (omega arith)) (seen_some nodes nets (All-tail (IsSome nodes) (plain net) (map plain nets) are))

pub costs_are : (s : Scenario) (g : Graph) → IsWithinLimits s → nets_of g ≡ nets_in s → All (λ n. 1 ≤ n.cost) g.nets.items
costs_are s g limits is =
    All-weaker (λ (net : Net). IsSome s.nodes (plain net)) (λ (n : Net). 1 ≤ n.cost) (λ net some. some.some) g.nets.items
    (seen_some s.nodes g.nets.items (subst (All (IsSome s.nodes)) (sym is) (nets_some s limits)))

pub has_its_nodes : (s : Scenario) (g : Graph) → IsWithinLimits s → g.nodes ≡ s.nodes → nets_of g ≡ nets_in s → HasItsNodes g
has_its_nodes s g limits nodes is =
    subst (λ (n : ℕ). All (λ (net : Net). All (λ (m : Member). m.node < n) net.members.items) g.nets.items) (sym nodes)
    (All-weaker (λ (net : Net). IsSome s.nodes (plain net)) (λ (net : Net). All (λ (m : Member). m.node < s.nodes) net.members.items) (λ net some. some.below) g.nets.items
    (seen_some s.nodes g.nets.items (subst (All (IsSome s.nodes)) (sym is) (nets_some s limits))))

pub length_nets : (s : Scenario) (g : Graph) → nets_of g ≡ nets_in s → length (on_in s) ≡ length g.nets.items
length_nets s g is =
    length-grouped number_of (length (costs_of s.links s.lans)) (all_ends s)
    ∙ sym (length-map-range_with_len (net_of (costs_of s.links s.lans) (on_in s)) 0 (length (costs_of s.links s.lans)))
    ∙ sym (ap length is) ∙ length_map plain g.nets.items

-- ---- one network more

pub net_more : (costs : List ℕ) (on : List (List End)) (t : ℕ) (old new : List PlainNet) (net : PlainNet) → old ≡ map (net_of costs on) (range_with_len 0 t) → new ≡ old ++ net ∷ []
    → net ≡ net_of costs on t → new ≡ map (net_of costs on) (range_with_len 0 (t + 1))
net_more costs on t old new net so_far grown is =
    grown ∙ (λ i. so_far i ++ is i ∷ []) ∙ sym (map-more (net_of costs on) t)

-- a network, as it was read
pub net_read : (costs : List ℕ) (on : List (List End)) (t d : ℕ) (there es : List End) (members : List Member) → t < length costs → t < length on
    → members ≡ map member_of es → es ≡ there → there ≡ get_or on t there → record { cost = get_or costs t d; members = members } ≡ net_of costs on t
net_read costs on t d there es members lt inside are same at =
    let all : members ≡ map member_of (get_or on t []) = are ∙ ap (map member_of) (same ∙ at ∙ get_or_default on t there [] inside) in
    λ i. record { cost = get_or_default costs t d 0 lt i; members = all i }
