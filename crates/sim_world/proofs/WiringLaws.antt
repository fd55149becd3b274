-- The interfaces of nodes have their numbers, and links lead to ends of links.
use Rattle.std.proofs.Common.{◌≡◌, ◌≢◌, ℕ, nat_eq, ◌+◌, ◌<◌, List, [], ◌∷◌, ◌++◌, length, length-append, get_or, fold, refl, sym, ap, subst, ◌∙◌, inl, inr, arith, append_assoc}
use Rattle.std.specs.Prelude.{All}
use Rattle.std.specs.List.{enumerate_from, zip}
use Rattle.std.proofs.lemmas.Bool.{cases_eq}
use Rattle.std.proofs.lemmas.List.{get_or_append_left, get_or_push, length_push}
use Rattle.std.proofs.lemmas.List.Elements.{All-tail, filter-append}
use Rattle.sim_base.specs.declared.key.NodeId.{NodeId}
use Rattle.scenario_form.specs.declared.scenario.Lan.{Lan}
use Rattle.scenario_form.specs.declared.scenario.Link.{Link as SLink}
use Rattle.scenario_form.specs.Limits.{IsLink}
use Rattle.sim_world.specs.declared.ends.End.{End}
use Rattle.sim_world.specs.declared.ends.Medium.{Medium}
use Rattle.sim_world.specs.declared.ends.Medium.TheVariants.{Link, OnLan}
use Rattle.sim_world.specs.declared.networks.Network.{Network}
use Rattle.sim_world.specs.Networks.{lan_network, link_network}
use Rattle.sim_world.specs.Ends.{node_of, ends_at, end_of, face_of, with_face, with_lan, with_link, ends_of}
use Rattle.sim_world.proofs.EndLaws.{all_numbered}
use Rattle.sim_world.proofs.GroupLaws.{at_its_node, at_another}

abbrev pub IsLinked : Medium → Type 0
IsLinked (Link peer) = Unit {0}
IsLinked (OnLan lan) = ⊥

-- a link leads to an end of a link that there is
abbrev pub Leads : ℕ → List End → Medium → Type 0
Leads nodes ends (Link peer) =
    (peer.node.0 < nodes) × (peer.iface < length (ends_at peer.node.0 ends)) × ((d : End) → IsLinked (get_or (ends_at peer.node.0 ends) peer.iface d).medium)
Leads nodes ends (OnLan lan) = Unit {0}

-- an end that has this place at this node, and leads to an end that there is
pub record IsPlaced (nodes : ℕ) (ends : List End) (n i : ℕ) (e : End) : Type 0 where
  pub node : e.place.node.0 ≡ n
  pub iface : e.place.iface ≡ i
  pub leads : Leads nodes ends e.medium

-- each end has its place
pub record ArePlaced (nodes : ℕ) (ends : List End) : Type 0 where
  pub each : (n i : ℕ) (d : End) → i < length (ends_at n ends) → IsPlaced nodes ends n i (get_or (ends_at n ends) i d)

-- how many interfaces a node has with one more end
count_here : (ends : List End) (e : End) (n : ℕ) → e.place.node.0 ≡ n → length (ends_at n (ends ++ e ∷ [])) ≡ length (ends_at n ends) + 1
count_here ends e n is = ap length (at_its_node node_of ends e n is) ∙ length_push (ends_at n ends) e

-- what was placed stays so with more ends
leads_wider : (nodes : ℕ) (ends more : List End) (m : Medium) → Leads nodes ends m → Leads nodes (ends ++ more) m
leads_wider nodes ends more (OnLan lan) h = tt
leads_wider nodes ends more (Link peer) h =
    let n : ℕ = peer.node.0 in
    let at : ends_at n (ends ++ more) ≡ ends_at n ends ++ ends_at n more = filter-append (λ (e : End). nat_eq e.place.node.0 n) ends more in
    let there : peer.iface < length (ends_at n ends) = h.1 in
    let long : length (ends_at n (ends ++ more)) ≡ length (ends_at n ends) + length (ends_at n more) = ap length at ∙ length-append (ends_at n ends) (ends_at n more) in (
      h.0,
      omega (arith, there, long),
      λ d. subst (λ (l : List End). IsLinked (get_or l peer.iface d).medium) (sym at)
          (subst (λ (e : End). IsLinked e.medium) (sym (get_or_append_left (ends_at n ends) (ends_at n more) d peer.iface there)) (h.2 d)),
    )

wider : (nodes : ℕ) (ends more : List End) (n i : ℕ) (e : End) → IsPlaced nodes ends n i e → IsPlaced nodes (ends ++ more) n i e
wider nodes ends more n i e is = record { node = is.node; iface = is.iface; leads = leads_wider nodes ends more e.medium is.leads }

-- one more end among ends that have their places in all
with_end : (nodes : ℕ) (all ends : List End) (e : End)
    → ((n i : ℕ) (d : End) → i < length (ends_at n ends) → IsPlaced nodes all n i (get_or (ends_at n ends) i d))
    → IsPlaced nodes all e.place.node.0 (length (ends_at e.place.node.0 ends)) e
    → (n i : ℕ) (d : End) → i < length (ends_at n (ends ++ e ∷ [])) → IsPlaced nodes all n i (get_or (ends_at n (ends ++ e ∷ [])) i d)
with_end nodes all ends e before new n i d lt =
    elim (cases_eq e.place.node.0 n) [
      | inl here ↦
          let at : ends_at n (ends ++ e ∷ []) ≡ ends_at n ends ++ e ∷ [] = at_its_node node_of ends e n here in
          let within : i < length (ends_at n ends) + 1 = let k : length (ends_at n (ends ++ e ∷ [])) ≡ length (ends_at n ends) + 1 = count_here ends e n here in omega (arith, lt, k) in
          subst (λ l. IsPlaced nodes all n i (get_or l i d)) (sym at) (elim (cases_eq i (length (ends_at n ends))) [
            | inl last ↦
                subst (IsPlaced nodes all n i) (sym (get_or_push (ends_at n ends) e d i (sym last)))
                (subst (λ j. IsPlaced nodes all n j e) (sym last) (subst (λ m. IsPlaced nodes all m (length (ends_at m ends)) e) here new))
            | inr ne ↦
                let lower : i < length (ends_at n ends) = omega (arith, within, ne) in
                subst (IsPlaced nodes all n i) (sym (get_or_append_left (ends_at n ends) (e ∷ []) d i lower)) (before n i d lower)
          ])
      | inr other ↦
          let at : ends_at n (ends ++ e ∷ []) ≡ ends_at n ends = at_another node_of ends e n other in
          let within : i < length (ends_at n ends) = let k : length (ends_at n (ends ++ e ∷ [])) ≡ length (ends_at n ends) = ap length at in omega (arith, lt, k) in
          subst (λ l. IsPlaced nodes all n i (get_or l i d)) (sym at) (before n i d within)
    ]

-- the last end of a node
last_linked : (all ends : List End) (e : End) (n : ℕ) → ends_at n all ≡ ends_at n ends ++ e ∷ [] → IsLinked e.medium
    → (length (ends_at n ends) < length (ends_at n all)) × ((d : End) → IsLinked (get_or (ends_at n all) (length (ends_at n ends)) d).medium)
last_linked all ends e n at is =
    let long : length (ends_at n all) ≡ length (ends_at n ends) + 1 = ap length at ∙ length_push (ends_at n ends) e in (
      omega (arith, long),
      λ d. subst (λ (l : List End). IsLinked (get_or l (length (ends_at n ends)) d).medium) (sym at)
          (subst (λ (x : End). IsLinked x.medium) (sym (get_or_push (ends_at n ends) e d (length (ends_at n ends)) refl)) is),
    )

-- one more link
with_one : (nodes : ℕ) (ends : List End) (l : ℕ × SLink) → IsLink nodes l.1 → ArePlaced nodes ends → ArePlaced nodes (with_link ends l)
with_one nodes ends l is are =
    let network : Network = link_network l.0 l.1 in
    let a : End = end_of ends network l.1.a l.1.a_addr l.1.b in
    let b : End = end_of ends network l.1.b l.1.b_addr l.1.a in
    let na : ℕ = l.1.a.0 in
    let nb : ℕ = l.1.b.0 in
    let one : List End = ends ++ a ∷ [] in
    let two : List End = one ++ b ∷ [] in
    let apart : na ≢ nb = is.apart in
    let b_in_one : ends_at nb one ≡ ends_at nb ends = at_another node_of ends a nb apart in
    let b_in_two : ends_at nb two ≡ ends_at nb ends ++ b ∷ [] = at_its_node node_of one b nb refl ∙ ap (λ (x : List End). x ++ b ∷ []) b_in_one in
    let a_in_one : ends_at na one ≡ ends_at na ends ++ a ∷ [] = at_its_node node_of ends a na refl in
    let a_in_two : ends_at na two ≡ ends_at na ends ++ a ∷ [] = at_another node_of one b na (λ e. apart (sym e)) ∙ a_in_one in
    let new_a : IsPlaced nodes two na (length (ends_at na ends)) a = record { node = refl; iface = refl; leads = let last : (length (ends_at nb ends) < length (ends_at nb two)) × ((d : End) → IsLinked (get_or (ends_at nb two) (length (ends_at nb ends)) d).medium) = last_linked two ends b nb b_in_two tt in (is.b, last.0, last.1) } in
    let new_b : IsPlaced nodes two nb (length (ends_at nb one)) b =
    record { node = refl; iface = sym (ap length b_in_one); leads = let last : (length (ends_at na ends) < length (ends_at na two)) × ((d : End) → IsLinked (get_or (ends_at na two) (length (ends_at na ends)) d).medium) = last_linked two ends a na a_in_two tt in (is.a, last.0, last.1) } in
    let placed : (n i : ℕ) (d : End) → i < length (ends_at n two) → IsPlaced nodes two n i (get_or (ends_at n two) i d) =
    with_end nodes two one b
    (with_end nodes two ends a
    (λ n i d lt. wider nodes one (b ∷ []) n i (get_or (ends_at n ends) i d) (wider nodes ends (a ∷ []) n i (get_or (ends_at n ends) i d) (are.each n i d lt))) new_a) new_b in
    subst (ArePlaced nodes) (append_assoc ends (a ∷ []) (b ∷ [])) (record { each = placed })

links_placed : (nodes : ℕ) (ends : List End) (ls : List (ℕ × SLink)) → All (λ l. IsLink nodes l.1) ls → ArePlaced nodes ends → ArePlaced nodes (fold with_link ends ls)
links_placed nodes ends [] is are = are
links_placed nodes ends (l ∷ ls) is are =
    links_placed nodes (with_link ends l) ls (All-tail (λ (x : ℕ × SLink). IsLink nodes x.1) l ls is) (with_one nodes ends l (is 0 l (omega arith)) are)

-- one more face on a LAN
one_face : (nodes lan : ℕ) (network : Network) (ends : List End) (m : NodeId × ℕ) → ArePlaced nodes ends → ArePlaced nodes (with_face network lan ends m)
one_face nodes lan network ends m are =
    let e : End = face_of ends network lan m.0 m.1 in
    record {
      each = with_end nodes (ends ++ e ∷ []) ends e (λ n i d lt. wider nodes ends (e ∷ []) n i (get_or (ends_at n ends) i d) (are.each n i d lt))
          (record { node = refl; iface = refl; leads = tt });
    }

faces_placed : (nodes lan : ℕ) (network : Network) (ends : List End) (ms : List (NodeId × ℕ)) → ArePlaced nodes ends → ArePlaced nodes (fold (with_face network lan) ends ms)
faces_placed nodes lan network ends [] are = are
faces_placed nodes lan network ends (m ∷ ms) are = faces_placed nodes lan network (with_face network lan ends m) ms (one_face nodes lan network ends m are)

lans_placed : (nodes links : ℕ) (ends : List End) (ls : List (ℕ × Lan)) → ArePlaced nodes ends → ArePlaced nodes (fold (with_lan links) ends ls)
lans_placed nodes links ends [] are = are
lans_placed nodes links ends (l ∷ ls) are =
    lans_placed nodes links (with_lan links ends l) ls (faces_placed nodes l.0 (lan_network (links + l.0) l.1) ends (zip l.1.members l.1.addrs) are)

-- the ends of links that join nodes, and the faces on LANs
pub placed : (nodes : ℕ) (links : List SLink) (lans : List Lan) → All (IsLink nodes) links → ArePlaced nodes (ends_of links lans)
unfolding ends_of
placed nodes links lans is =
    lans_placed nodes (length links) (fold with_link [] (enumerate_from 0 links)) (enumerate_from 0 lans)
    (links_placed nodes [] (enumerate_from 0 links) (all_numbered (λ (l : ℕ × SLink). IsLink nodes l.1) links is)
    (record { each = λ n i d lt. absurd (omega (arith, lt)) }))
