-- The interfaces of an accepted scenario are within the limits.
use Rattle.std.proofs.Common.{ℕ, nat_eq, ◌+◌, ◌<◌, ◌≤◌, List, [], ◌∷◌, length, fold, Option, Some, None, arith}
use Rattle.std.specs.Prelude.{All, IfSome}
use Rattle.std.specs.List.{enumerate_from, zip}
use Rattle.std.proofs.lemmas.List.Elements.{All-nil, All-tail, All-cons, All-append, All-push, All-filter, All-weaker}
use Rattle.sim_base.specs.declared.key.NodeId.{NodeId}
use Rattle.sim_base.specs.declared.time.Rate.{Rate}
use Rattle.queue_discs.specs.Disc.{IsKind}
use Rattle.scenario_form.specs.declared.scenario.Lan.{Lan}
use Rattle.scenario_form.specs.declared.scenario.Link.{Link}
use Rattle.scenario_form.specs.declared.scenario.Queue.{Queue}
use Rattle.scenario_form.specs.declared.scenario.Queue.TheVariants.{Fifo, Prio, Tbf}
use Rattle.scenario_form.specs.Limits.{IsFromTo, IsLan, IsLink, IsRate}
use Rattle.sim_world.specs.declared.ends.End.{End}
use Rattle.sim_world.specs.declared.networks.Network.{Network}
use Rattle.sim_world.specs.Grouping.{grouped}
use Rattle.sim_world.specs.Networks.{HasLanNumbers, HasLinkNumbers, IsNetwork, disc_of, lan_network, link_network, token_bucket}
use Rattle.sim_world.specs.Ends.{IsEnd, IsOn, node_of, ends_at, end_of, face_of, with_face, with_lan, with_link, ends_of}
use Rattle.sim_world.proofs.GroupLaws.{all_grouped}
use Rattle.sim_world.proofs.EndLaws.{all_numbered}

-- ---- the numbers of networks

rate_from_to : (o : Option Rate) → IfSome o IsRate → IfSome o (λ r. (1 ≤ r.0) × (r.0 ≤ 1000000000000))
rate_from_to None h = tt
rate_from_to (Some r) h = (h.from, h.to)

burst_from_to : (o : Option ℕ) → IfSome o (IsFromTo 1 1000000000) → IfSome o (λ b. (1 ≤ b) × (b ≤ 1000000000))
burst_from_to None h = tt
burst_from_to (Some b) h = (h.from, h.to)

pub link_numbers : (nodes : ℕ) (l : Link) → IsLink nodes l → HasLinkNumbers l
link_numbers nodes l is = record {
  prefix = is.prefix.to;
  mtu = is.mtu.to;
  limit = is.limit.to;
  some_rate = is.rate_bps.from;
  rate = is.rate_bps.to;
  delay = is.delay_ns.to;
  bucket_rate = rate_from_to l.tbf_bps is.tbf_bps;
  burst = burst_from_to l.tbf_burst is.tbf_burst;
}

pub lan_numbers : (nodes : ℕ) (l : Lan) → IsLan nodes l → HasLanNumbers l
lan_numbers nodes l is = record {
  prefix = is.prefix.to;
  mtu = is.mtu.to;
  limit = is.limit.to;
  some_rate = is.rate_bps.from;
  rate = is.rate_bps.to;
  delay = is.delay_ns.to;
  bucket_rate = rate_from_to l.tbf_bps is.tbf_bps;
  burst = burst_from_to l.tbf_burst is.tbf_burst;
}

bucket_within : (limit : ℕ) (r : Option Rate) (b : Option ℕ) → IfSome r (λ x. (1 ≤ x.0) × (x.0 ≤ 1000000000000)) → IfSome b (λ x. (1 ≤ x) × (x ≤ 1000000000))
    → IsKind (token_bucket limit r b)
bucket_within limit None b hr hb = tt
bucket_within limit (Some r) None hr hb = tt
bucket_within limit (Some r) (Some b) hr hb = (hr.0, hr.1, hb.0, hb.1)

disc_within : (q : Queue) (limit : ℕ) (r : Option Rate) (b : Option ℕ) → IfSome r (λ x. (1 ≤ x.0) × (x.0 ≤ 1000000000000)) → IfSome b (λ x. (1 ≤ x) × (x ≤ 1000000000))
    → IsKind (disc_of q limit r b)
disc_within Fifo limit r b hr hb = tt
disc_within Prio limit r b hr hb = tt
disc_within Tbf limit r b hr hb = bucket_within limit r b hr hb

link_within : (n : ℕ) (l : Link) → HasLinkNumbers l → IsNetwork (link_network n l)
link_within n l is = record {
  some_rate = is.some_rate;
  rate = is.rate;
  delay = is.delay;
  disc = disc_within l.queue l.limit l.tbf_bps l.tbf_burst is.bucket_rate is.burst;
  mtu = is.mtu;
  prefix = is.prefix;
}

lan_within : (n : ℕ) (l : Lan) → HasLanNumbers l → IsNetwork (lan_network n l)
lan_within n l is = record {
  some_rate = is.some_rate;
  rate = is.rate;
  delay = is.delay;
  disc = disc_within l.queue l.limit l.tbf_bps l.tbf_burst is.bucket_rate is.burst;
  mtu = is.mtu;
  prefix = is.prefix;
}

-- ---- interfaces

links_within : (lans : ℕ) (ends : List End) (ls : List (ℕ × Link)) → All (IsEnd lans) ends → All (λ l. HasLinkNumbers l.1) ls → All (IsEnd lans) (fold with_link ends ls)
links_within lans ends [] are is = are
links_within lans ends (l ∷ ls) are is =
    let n : Network = link_network l.0 l.1 in
    let a : End = end_of ends n l.1.a l.1.a_addr l.1.b in
    let b : End = end_of ends n l.1.b l.1.b_addr l.1.a in
    let on : IsNetwork n = link_within l.0 l.1 (is 0 l (omega arith)) in
    let a_is : IsEnd lans a = record { network = on; on = tt } in
    let b_is : IsEnd lans b = record { network = on; on = tt } in
    links_within lans (with_link ends l) ls
    (All-append (IsEnd lans) ends (a ∷ b ∷ []) are (All-cons (IsEnd lans) a (b ∷ []) a_is (All-cons (IsEnd lans) b [] b_is (All-nil (IsEnd lans)))))
    (All-tail (λ (x : ℕ × Link). HasLinkNumbers x.1) l ls is)

faces_within : (lans lan : ℕ) (n : Network) (ends : List End) (ms : List (NodeId × ℕ)) → IsNetwork n → lan < lans → All (IsEnd lans) ends
    → All (IsEnd lans) (fold (with_face n lan) ends ms)
faces_within lans lan n ends [] is lt are = are
faces_within lans lan n ends (m ∷ ms) is lt are =
    let e : End = face_of ends n lan m.0 m.1 in
    let e_is : IsEnd lans e = record { network = is; on = lt } in
    faces_within lans lan n (with_face n lan ends m) ms is lt (All-push (IsEnd lans) ends e are e_is)

lans_within : (lans links : ℕ) (ends : List End) (ls : List (ℕ × Lan)) → All (IsEnd lans) ends → All (λ l. HasLanNumbers l.1 × (l.0 < lans)) ls
    → All (IsEnd lans) (fold (with_lan links) ends ls)
lans_within lans links ends [] are is = are
lans_within lans links ends (l ∷ ls) are is =
    let here : HasLanNumbers l.1 × (l.0 < lans) = is 0 l (omega arith) in
    lans_within lans links (with_lan links ends l) ls
    (faces_within lans l.0 (lan_network (links + l.0) l.1) ends (zip l.1.members l.1.addrs) (lan_within (links + l.0) l.1 here.0) here.1 are)
    (All-tail (λ (x : ℕ × Lan). HasLanNumbers x.1 × (x.0 < lans)) l ls is)

pub all_ends : (nodes : ℕ) (links : List Link) (lans : List Lan) → All (IsLink nodes) links → All (IsLan nodes) lans → All (IsEnd (length lans)) (ends_of links lans)
unfolding ends_of
all_ends nodes links lans are_links are_lans =
    lans_within (length lans) (length links) (fold with_link [] (enumerate_from 0 links)) (enumerate_from 0 lans)
    (links_within (length lans) [] (enumerate_from 0 links) (All-nil (IsEnd (length lans)))
    (all_numbered (λ (l : ℕ × Link). HasLinkNumbers l.1) links (λ i d lt. link_numbers nodes _ (are_links i d lt))))
    (all_numbered (λ (l : ℕ × Lan). HasLanNumbers l.1 × (l.0 < length lans)) lans (λ i d lt. (lan_numbers nodes _ (are_lans i d lt), lt)))

-- the ends at a node
pub all_ends_grouped : (nodes : ℕ) (links : List Link) (lans : List Lan) → All (IsLink nodes) links → All (IsLan nodes) lans
    → All (All (IsEnd (length lans))) (grouped node_of nodes (ends_of links lans))
all_ends_grouped nodes links lans are_links are_lans =
    all_grouped node_of nodes (IsEnd (length lans)) (ends_of links lans) (all_ends nodes links lans are_links are_lans)

pub all_ends_at : (nodes n : ℕ) (links : List Link) (lans : List Lan) → All (IsLink nodes) links → All (IsLan nodes) lans → All (IsEnd (length lans)) (ends_at n (ends_of links lans))
all_ends_at nodes n links lans are_links are_lans =
    All-filter (λ e. nat_eq e.place.node.0 n) (IsEnd (length lans)) (ends_of links lans) (all_ends nodes links lans are_links are_lans)

-- each is on a LAN that there is, if it is on one
pub all_on : (lans : ℕ) (groups : List (List End)) → All (All (IsEnd lans)) groups → All (All (λ e. IsOn lans e.medium)) groups
all_on lans groups are =
    All-weaker (All (IsEnd lans)) (All (λ (e : End). IsOn lans e.medium)) (λ there is. All-weaker (IsEnd lans) (λ (e : End). IsOn lans e.medium) (λ e h. h.on) there is) groups are
