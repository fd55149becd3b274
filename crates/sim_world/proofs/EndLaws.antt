-- The interfaces of nodes.
use Rattle.std.proofs.Common.{◌≡◌, ℕ, ◌+◌, ◌*◌, ◌<◌, ◌≤◌, List, [], ◌∷◌, ◌++◌, min, length, length-take, get_or, take, fold, Result, Ok, Err, OnOk, refl, sym, ap, subst, ◌∙◌, arith, append_assoc, length-append}
use Rattle.std.specs.Prelude.{All}
use Rattle.std.specs.List.{enumerate_from, zip}
use Rattle.std.proofs.lemmas.List.Elements.{All-set, All-tail, All-take, All-weaker}
use Rattle.std.proofs.lemmas.List.FromFn.{get_or-enumerate_from, length-enumerate_from}
use Rattle.std.proofs.lemmas.List.Sums.{fold_more}
use Rattle.std.proofs.lemmas.Slice.Zip.{get_or-zip, length-zip}
use Rattle.sim_base.specs.declared.key.NodeId.{NodeId}
use Rattle.scenario_form.specs.declared.scenario.Lan.{Lan}
use Rattle.scenario_form.specs.declared.scenario.Link.{Link}
use Rattle.scenario_form.specs.Limits.{IsLan}
use Rattle.iface_step.specs.declared.words.Place.{Place}
use Rattle.sim_world.specs.declared.ends.End.{End}
use Rattle.sim_world.specs.declared.ends.Medium.TheVariants as medium
use Rattle.sim_world.specs.declared.networks.Network.{Network}
use Rattle.sim_world.specs.Grouping.{grouped, with_item}
use Rattle.sim_world.specs.Networks.{lan_network, link_network}
use Rattle.sim_world.specs.Ends.{node_of, next_iface, end_of, face_of, with_face, with_lan, with_link, ends_of}
use Rattle.sim_world.proofs.GroupLaws.{grouped-push, get_or-grouped, length-grouped, few_grouped}

pub on_ok : {A E : Type 0} (r : Result A E) (P Q : Type 0) → (P → Q) → OnOk r P → OnOk r Q
on_ok (Ok a) P Q f h = f h
on_ok (Err e) P Q f h = h

-- ---- lists with their numbers

-- one more of a numbered list
pub fold_numbered : {A B : Type 0} (f : B → ℕ × A → B) (b : B) (xs : List A) (i : ℕ) (d : A) → i < length xs
    → fold f b (take (i + 1) (enumerate_from 0 xs)) ≡ f (fold f b (take i (enumerate_from 0 xs))) (i, get_or xs i d)
fold_numbered {A} {B} f b xs i d lt =
    let long : length (enumerate_from 0 xs) ≡ length xs = length-enumerate_from 0 xs in
    fold_more f b (enumerate_from 0 xs) i (0, d) (omega (arith, long, lt))
    ∙ ap (f (fold f b (take i (enumerate_from 0 xs)))) (get_or-enumerate_from 0 xs i (0, d) lt)
    ∙ ap (λ k. f (fold f b (take i (enumerate_from 0 xs))) (k, get_or xs i d)) (let z : 0 + i ≡ i = omega arith in z)

-- one more of two lists side by side
pub fold_zipped : {A B C : Type 0} (f : C → A × B → C) (c : C) (xs : List A) (ys : List B) (i : ℕ) (d : A) (e : B) → i < length xs → i < length ys
    → fold f c (take (i + 1) (zip xs ys)) ≡ f (fold f c (take i (zip xs ys))) (get_or xs i d, get_or ys i e)
fold_zipped {A} {B} {C} f c xs ys i d e here there =
    let long : length (zip xs ys) ≡ min (length xs) (length ys) = length-zip xs ys in
    fold_more f c (zip xs ys) i (d, e) (omega (arith, long, here, there))
    ∙ ap (f (fold f c (take i (zip xs ys)))) (get_or-zip xs ys i (d, e) here there)

-- what holds of each with its number
pub all_numbered : {A : Type 0} (P : ℕ × A → Type 0) (xs : List A) → ((i : ℕ) (d : A) → i < length xs → P (i, get_or xs i d)) → All P (enumerate_from 0 xs)
all_numbered {A} P xs each = λ i d lt.
    let long : length (enumerate_from 0 xs) ≡ length xs = length-enumerate_from 0 xs in
    let here : i < length xs = omega (arith, long, lt) in
    subst P (sym (get_or-enumerate_from 0 xs i d here)) (subst (λ k. P (k, get_or xs i d.1)) (let z : i ≡ 0 + i = omega arith in z) (each i d.1 here))

-- ---- two interfaces of one link

pub two_pushed : (nodes : ℕ) (before : List End) (a b : End) (groups one two : List (List End)) → groups ≡ grouped node_of nodes before
    → node_of a < nodes → node_of b < nodes
    → one ≡ with_item (node_of a) a groups → two ≡ with_item (node_of b) b one
    → two ≡ grouped node_of nodes (before ++ a ∷ b ∷ [])
two_pushed nodes before a b groups one two is la lb first second =
    let after : one ≡ grouped node_of nodes (before ++ a ∷ []) =
    first ∙ ap (with_item (node_of a) a) is ∙ grouped-push node_of nodes before a (node_of a) refl la in
    second ∙ ap (with_item (node_of b) b) after ∙ grouped-push node_of nodes (before ++ a ∷ []) b (node_of b) refl lb
    ∙ ap (grouped node_of nodes) (append_assoc before (a ∷ []) (b ∷ []))

-- the next interface of a node
abbrev pub next : List (List End) → NodeId → Place
next groups node = record { node = node; iface = length (get_or groups node.0 []) }

next_is : (nodes : ℕ) (before : List End) (groups : List (List End)) (node : NodeId) → groups ≡ grouped node_of nodes before → node.0 < nodes
    → next groups node ≡ record { node = node; iface = next_iface node before }
next_is nodes before groups node is lt =
    ap (λ (i : ℕ). (let p : Place = record { node = node; iface = i } in p))
    (ap (λ (g : List (List End)). length (get_or g node.0 [])) is ∙ ap length (get_or-grouped node_of nodes before node.0 [] lt))

-- an end with its places
abbrev made : Network → ℕ → Place → Place → End
made network addr place peer = record { place = place; addr = addr; network = network; medium = medium.Link peer }

pub link_pushed : (nodes : ℕ) (before : List End) (number : ℕ) (network : Network) (l : Link) (p q : Place) (groups one two : List (List End))
    → groups ≡ grouped node_of nodes before → l.a.0 < length groups → l.b.0 < length groups
    → network ≡ link_network number l → p ≡ next groups l.a → q ≡ next groups l.b
    → one ≡ with_item l.a.0 (made network l.a_addr p q) groups → two ≡ with_item l.b.0 (made network l.b_addr q p) one
    → two ≡ grouped node_of nodes (with_link before (number, l))
link_pushed nodes before number network l p q groups one two is a_there b_there network_is p_is q_is first second =
    let long : length groups ≡ nodes = ap length is ∙ length-grouped node_of nodes before in
    let la : l.a.0 < nodes = omega (arith, long, a_there) in
    let lb : l.b.0 < nodes = omega (arith, long, b_there) in
    let a : End = end_of before network l.a l.a_addr l.b in
    let b : End = end_of before network l.b l.b_addr l.a in
    let p_next : p ≡ a.place = p_is ∙ next_is nodes before groups l.a is la in
    let q_next : q ≡ b.place = q_is ∙ next_is nodes before groups l.b is lb in
    let one_is : one ≡ with_item l.a.0 a groups =
    first ∙ ap (λ x. with_item l.a.0 (made network l.a_addr x q) groups) p_next ∙ ap (λ x. with_item l.a.0 (made network l.a_addr a.place x) groups) q_next in
    let two_is : two ≡ with_item l.b.0 b one =
    second ∙ ap (λ x. with_item l.b.0 (made network l.b_addr x p) one) q_next ∙ ap (λ x. with_item l.b.0 (made network l.b_addr b.place x) one) p_next in
    two_pushed nodes before a b groups one two is la lb one_is two_is
    ∙ ap (λ n. grouped node_of nodes (before ++ end_of before n l.a l.a_addr l.b ∷ end_of before n l.b l.b_addr l.a ∷ [])) network_is

-- one face more
pub face_pushed : (nodes : ℕ) (before : List End) (network : Network) (lan : ℕ) (node : NodeId) (addr : ℕ) (p : Place) (groups one : List (List End))
    → groups ≡ grouped node_of nodes before → node.0 < length groups → p ≡ next groups node
    → one ≡ with_item node.0 (record { place = p; addr = addr; network = network; medium = medium.OnLan lan }) groups
    → one ≡ grouped node_of nodes (with_face network lan before (node, addr))
face_pushed nodes before network lan node addr p groups one is there p_is first =
    let long : length groups ≡ nodes = ap length is ∙ length-grouped node_of nodes before in
    let lt : node.0 < nodes = omega (arith, long, there) in
    let e : End = face_of before network lan node addr in
    first
    ∙ ap (λ (x : Place). with_item node.0 (let f : End = record { place = x; addr = addr; network = network; medium = medium.OnLan lan } in f) groups) (p_is ∙ next_is nodes before groups node is lt)
    ∙ ap (with_item node.0 e) is ∙ grouped-push node_of nodes before e node.0 refl lt

-- one item more makes one list longer by one
pub few_more : (most n : ℕ) (e : End) (groups : List (List End)) → n < length groups → All (λ there. length there ≤ most) groups
    → All (λ there. length there ≤ most + 1) (with_item n e groups)
few_more most n e groups lt few =
    let there : List End = get_or groups n [] in
    let here : length there ≤ most = few n [] lt in
    let long : length (there ++ e ∷ []) ≡ length there + 1 = length-append there (e ∷ []) in
    All-set (λ (l : List End). length l ≤ most + 1) groups n (there ++ e ∷ []) (omega (arith, here, long))
    (All-weaker (λ (l : List End). length l ≤ most) (λ l. length l ≤ most + 1) (λ l h. omega (arith, h)) groups few)

-- ---- how many there are

count_links : (ends : List End) (ls : List (ℕ × Link)) → length (fold with_link ends ls) ≡ length ends + 2 * length ls
count_links ends [] = omega arith
count_links ends (l ∷ ls) =
    let n : Network = link_network l.0 l.1 in
    let more : length (with_link ends l) ≡ length ends + 2 =
    length-append ends (end_of ends n l.1.a l.1.a_addr l.1.b ∷ end_of ends n l.1.b l.1.b_addr l.1.a ∷ []) in
    let rest : length (fold with_link (with_link ends l) ls) ≡ length (with_link ends l) + 2 * length ls = count_links (with_link ends l) ls in
    omega (arith, more, rest)

count_faces : (n : Network) (lan : ℕ) (ends : List End) (ms : List (NodeId × ℕ)) → length (fold (with_face n lan) ends ms) ≡ length ends + length ms
count_faces n lan ends [] = omega arith
count_faces n lan ends (m ∷ ms) =
    let more : length (with_face n lan ends m) ≡ length ends + 1 = length-append ends (face_of ends n lan m.0 m.1 ∷ []) in
    let rest : length (fold (with_face n lan) (with_face n lan ends m) ms) ≡ length (with_face n lan ends m) + length ms = count_faces n lan (with_face n lan ends m) ms in
    omega (arith, more, rest)

count_lans : (links : ℕ) (ends : List End) (ls : List (ℕ × Lan)) → All (λ l. length l.1.members ≤ 200) ls → length (fold (with_lan links) ends ls) ≤ length ends + 200 * length ls
count_lans links ends [] few = omega arith
count_lans links ends (l ∷ ls) few =
    let n : Network = lan_network (links + l.0) l.1 in
    let one : length (with_lan links ends l) ≡ length ends + length (zip l.1.members l.1.addrs) = count_faces n l.0 ends (zip l.1.members l.1.addrs) in
    let pairs : length (zip l.1.members l.1.addrs) ≡ min (length l.1.members) (length l.1.addrs) = length-zip l.1.members l.1.addrs in
    let most : length l.1.members ≤ 200 = few 0 l (omega arith) in
    let rest : length (fold (with_lan links) (with_lan links ends l) ls) ≤ length (with_lan links ends l) + 200 * length ls =
    count_lans links (with_lan links ends l) ls (All-tail (λ (l : ℕ × Lan). length l.1.members ≤ 200) l ls few) in
    omega (arith, one, pairs, most, rest)

-- the ends of links are within the bound on a node's interfaces
pub few_links : (nodes i : ℕ) (links : List Link) (groups : List (List End)) → length links ≤ 4000
    → groups ≡ grouped node_of nodes (fold with_link [] (take i (enumerate_from 0 links))) → All (λ there. length there ≤ 48000) groups
few_links nodes i links groups few is =
    let ls : List (ℕ × Link) = take i (enumerate_from 0 links) in
    let count : length (fold with_link [] ls) ≡ 0 + 2 * length ls = count_links [] ls in
    let part : length ls ≡ min i (length (enumerate_from 0 links)) = length-take i (enumerate_from 0 links) in
    let long : length (enumerate_from 0 links) ≡ length links = length-enumerate_from 0 links in
    subst (All (λ there. length there ≤ 48000)) (sym is) (few_grouped node_of nodes 48000 (fold with_link [] ls) (omega (arith, count, part, long, few)))

-- so are those with the faces of some LANs
pub few_lans : (nodes i : ℕ) (links : List Link) (lans : List Lan) (groups : List (List End)) → length links ≤ 4000 → length lans ≤ 200 → i < length lans → All (IsLan nodes) lans
    → groups ≡ grouped node_of nodes (fold (with_lan (length links)) (fold with_link [] (enumerate_from 0 links)) (take i (enumerate_from 0 lans)))
    → All (λ there. length there ≤ 47800) groups
few_lans nodes i links lans groups few_l few_n lt are is =
    let ends : List End = fold with_link [] (enumerate_from 0 links) in
    let ls : List (ℕ × Lan) = take i (enumerate_from 0 lans) in
    let all : List End = fold (with_lan (length links)) ends ls in
    let own : length ends ≡ 0 + 2 * length (enumerate_from 0 links) = count_links [] (enumerate_from 0 links) in
    let links_long : length (enumerate_from 0 links) ≡ length links = length-enumerate_from 0 links in
    let lans_long : length (enumerate_from 0 lans) ≡ length lans = length-enumerate_from 0 lans in
    let part : length ls ≡ min i (length (enumerate_from 0 lans)) = length-take i (enumerate_from 0 lans) in
    let each : All (λ (l : ℕ × Lan). length l.1.members ≤ 200) (enumerate_from 0 lans) =
    all_numbered (λ (l : ℕ × Lan). length l.1.members ≤ 200) lans (λ k d h. (are k d h).members.to) in
    let count : length all ≤ length ends + 200 * length ls =
    count_lans (length links) ends ls (All-take (λ (l : ℕ × Lan). length l.1.members ≤ 200) i (enumerate_from 0 lans) each) in
    subst (All (λ there. length there ≤ 47800)) (sym is) (few_grouped node_of nodes 47800 all (omega (arith, own, links_long, lans_long, part, count, few_l, few_n, lt)))

-- the ends of links, and then the faces on LANs
pub ends_are : (links : List Link) (lans : List Lan) → ends_of links lans ≡ fold (with_lan (length links)) (fold with_link [] (enumerate_from 0 links)) (enumerate_from 0 lans)
unfolding ends_of
ends_are links lans = refl

-- one face more of a LAN's
pub face_more : (nodes : ℕ) (network : Network) (lan : ℕ) (before : List End) (members ms : List NodeId) (addrs list : List ℕ) (i : ℕ) (d : NodeId) (e : ℕ) (groups : List (List End))
    → ms ≡ members → list ≡ addrs → i < length ms → length addrs ≡ length members
    → groups ≡ grouped node_of nodes (with_face network lan (fold (with_face network lan) before (take i (zip members addrs))) (get_or ms i d, get_or list i e))
    → groups ≡ grouped node_of nodes (fold (with_face network lan) before (take (i + 1) (zip members addrs)))
face_more nodes network lan before members ms addrs list i d e groups members_are addrs_are lt same is =
    let so_far : List End = fold (with_face network lan) before (take i (zip members addrs)) in
    let long : length ms ≡ length members = ap length members_are in
    is
    ∙ ap (λ (l : List NodeId). grouped node_of nodes (with_face network lan so_far (get_or l i d, get_or list i e))) members_are
    ∙ ap (λ (l : List ℕ). grouped node_of nodes (with_face network lan so_far (get_or members i d, get_or l i e))) addrs_are
    ∙ ap (grouped node_of nodes) (sym (fold_zipped (with_face network lan) before members addrs i d e (omega (arith, long, lt)) (omega (arith, long, same, lt))))
