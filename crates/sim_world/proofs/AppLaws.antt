-- Applications with their numbers, and those that a node installs.
use Rattle.std.proofs.Common.{◌≡◌, ℕ, nat_eq, zero, suc, ◌+◌, ◌*◌, ◌<◌, ◌≤◌, ◌^◌, unwrap_or, List, [], ◌∷◌, ◌++◌, length, get_or, take, drop, subst, Option, Some, None, refl, sym, ap, ◌∙◌, arith, append_assoc}
use Rattle.std.specs.Prelude.{All, IfSome}
use Rattle.std.specs.List.{AllByRecursion}
use Rattle.std.proofs.lemmas.Bool.{cond_both}
use Rattle.std.proofs.lemmas.List.{at_drop_more}
use Rattle.std.proofs.lemmas.List.Elements.{All-nil, All-head, All-tail, All-cons, All-filter, recursion_from_All}
use Rattle.std.proofs.lemmas.Grind.{div_ceil_times}
use Rattle.sim_base.specs.Time.{frame_time}
use Rattle.sim_base.specs.declared.time.Rate.{Rate}
use Rattle.sim_base.specs.declared.time.Time.{Time}
use Rattle.traffic_apps.specs.declared.kind.AppKind.{AppKind}
use Rattle.tcp_flow.specs.Conns.{PlainConns, listens, no_conns}
use Rattle.tcp_flow.specs.Table.{AllWait}
use Rattle.tcp_flow.specs.declared.conn.Conn.{Conn}
use Rattle.traffic_apps.specs.App.{IsKind}
use Rattle.scenario_form.specs.declared.scenario.App.{App}
use Rattle.scenario_form.specs.declared.scenario.Kind.{Kind}
use Rattle.scenario_form.specs.declared.scenario.Kind.TheVariants.{UdpSend, UdpEchoClient, UdpSink, UdpEchoServer, TcpSink, OnOff, Ping, TcpBulk}
use Rattle.scenario_form.specs.Limits.{HasKeys, IsApp, IsFromTo, IsRate, IsTimeFrom}
use Rattle.sim_world.specs.declared.apps.Listed.{Listed}
use Rattle.sim_world.specs.declared.apps.Installed.{Installed}
use Rattle.sim_world.specs.Grouping.{grouped, under, with_item}
use Rattle.sim_world.specs.Apps.{HasBytes, IsWithin, IsListed, conns_from, conns_of, is_listener, listed_from, node_of, kind_of, on_off_of, ports_taken, own_port, installed_as, installed_from, with_listener}
use Rattle.sim_world.proofs.GroupLaws.{next_pushed, few_grouped, all_grouped}

pub length-listed_from : (n : ℕ) (apps : List App) → length (listed_from n apps) ≡ length apps
length-listed_from n [] = refl
length-listed_from n (a ∷ apps) = ap suc (length-listed_from (n + 1) apps)

listed_at : (n i m : ℕ) (apps : List App) (d : App) (e : Listed) → i < length apps → m ≡ n + i → get_or (listed_from n apps) i e ≡ record { number = m; app = get_or apps i d }
listed_at n i m [] d e lt number = absurd (omega (arith, lt))
listed_at n zero m (a ∷ apps) d e lt number = let same : m ≡ n = omega (arith, number) in rw same refl
listed_at n (suc i) m (a ∷ apps) d e lt number = listed_at (n + 1) i m apps d e (omega (arith, lt)) (omega (arith, number))

-- one application more
pub pushed : (nodes : ℕ) (apps : List App) (i : ℕ) (d : App) (groups more : List (List Listed)) → i < length apps → (get_or apps i d).node.0 < nodes
    → groups ≡ grouped node_of nodes (take i (listed_from 0 apps)) → more ≡ with_item (get_or apps i d).node.0 (record { number = i; app = get_or apps i d }) groups
    → more ≡ grouped node_of nodes (take (i + 1) (listed_from 0 apps))
pushed nodes apps i d groups more lt below so_far added =
    let item : Listed = record { number = i; app = get_or apps i d } in
    let at : get_or (listed_from 0 apps) i item ≡ item = listed_at 0 i i apps d item lt (omega arith) in
    let long : length (listed_from 0 apps) ≡ length apps = length-listed_from 0 apps in
    next_pushed node_of nodes (listed_from 0 apps) i item groups more (omega (arith, lt, long))
    (subst (λ l. l.app.node.0 < nodes) (sym at) below) so_far (added ∙ ap (λ l. with_item l.app.node.0 l groups) (sym at))

-- ---- what stays within the limits

from_to : (o : Option ℕ) → IfSome o (IsFromTo 1 49152) → IfSome o (λ port. port ≤ 49152)
from_to None h = tt
from_to (Some port) h = h.to

some_bytes : (k : Kind) (a : App) → HasKeys k a → HasBytes k a.size
some_bytes UdpSend a h = tt
some_bytes UdpEchoClient a h = tt
some_bytes UdpSink a h = tt
some_bytes UdpEchoServer a h = tt
some_bytes TcpSink a h = tt
some_bytes OnOff a h = h.5
some_bytes Ping a h = tt
some_bytes TcpBulk a h = tt

rate_from_to : (o : Option Rate) → IfSome o IsRate → IfSome o (λ rate. (1 ≤ rate.0) × (rate.0 ≤ 1000000000000))
rate_from_to None h = tt
rate_from_to (Some rate) h = (h.from, h.to)

time_from_to : (least : ℕ) (o : Option Time) → IfSome o (IsTimeFrom least) → IfSome o (λ t. t.0 ≤ 1000000000000)
time_from_to least None h = tt
time_from_to least (Some t) h = h.to

at_most : (o : Option ℕ) → IfSome o (IsFromTo 0 1073741824) → IfSome o (λ bytes. bytes ≤ 1073741824)
at_most None h = tt
at_most (Some bytes) h = h.to

a_listed : (nodes number : ℕ) (a : App) → IsApp nodes a → IsListed (record { number = number; app = a })
a_listed nodes number a is = record {
  port = from_to a.port is.port;
  size = is.size.to;
  count = is.count.to;
  some_interval = is.interval_ns.from;
  interval = is.interval_ns.to;
  some_bytes = some_bytes a.kind a is.keys;
  rate_bps = rate_from_to a.rate_bps is.rate_bps;
  on_ns = time_from_to 1 a.on_ns is.on_ns;
  off_ns = time_from_to 0 a.off_ns is.off_ns;
  bytes = at_most a.bytes is.bytes;
  least_mss = is.mss.from;
  greatest_mss = is.mss.to;
}

all_from : (nodes n : ℕ) (apps : List App) → All (IsApp nodes) apps → All IsListed (listed_from n apps)
all_from nodes n [] are = All-nil IsListed
all_from nodes n (a ∷ apps) are =
    All-cons IsListed (record { number = n; app = a }) (listed_from (n + 1) apps) (a_listed nodes n a (are 0 a (omega arith)))
    (all_from nodes (n + 1) apps (All-tail (IsApp nodes) a apps are))

-- the applications of a node
pub all_listed_at : (nodes n : ℕ) (apps : List App) → All (IsApp nodes) apps → All IsListed (under node_of n (listed_from 0 apps))
all_listed_at nodes n apps are = All-filter (λ l. nat_eq l.app.node.0 n) IsListed (listed_from 0 apps) (all_from nodes 0 apps are)

pub all_listed_grouped : (nodes : ℕ) (apps : List App) → All (IsApp nodes) apps → All (All IsListed) (grouped node_of nodes (listed_from 0 apps))
all_listed_grouped nodes apps are = all_grouped node_of nodes IsListed (listed_from 0 apps) (all_from nodes 0 apps are)

pub few_listed : (nodes most : ℕ) (apps : List App) → length apps ≤ most → All (λ there. length there ≤ most) (grouped node_of nodes (listed_from 0 apps))
few_listed nodes most apps few = few_grouped node_of nodes most (listed_from 0 apps) (let long : length (listed_from 0 apps) ≡ length apps = length-listed_from 0 apps in omega (arith, long, few))

-- ---- one more that is installed

joined : (taken : ℕ) (l : Listed) (o : Option AppKind) (more : List Installed) → installed_as taken l o more ≡ installed_as taken l o [] ++ more
joined taken l None more = refl
joined taken l (Some kind) more = refl

pub install_next : (taken next i : ℕ) (listed : List Listed) (d : Listed) (old new all : List Installed) → i < length listed
    → old ++ installed_from taken (drop i listed) ≡ all
    → new ≡ old ++ installed_as taken (get_or listed i d) (kind_of (get_or listed i d).app.kind (get_or listed i d).app) []
    → next ≡ taken + ports_taken (get_or listed i d).app.kind
    → new ++ installed_from next (drop (i + 1) listed) ≡ all
install_next taken next i listed d old new all lt so_far added counted =
    let l : Listed = get_or listed i d in
    let one : List Installed = installed_as taken l (kind_of l.app.kind l.app) [] in
    let rest : List Installed = installed_from (taken + ports_taken l.app.kind) (drop (i + 1) listed) in
    ap (λ n. new ++ installed_from n (drop (i + 1) listed)) counted
    ∙ ap (λ is. is ++ rest) added ∙ append_assoc old one rest
    ∙ ap (λ is. old ++ is) (sym (joined taken l (kind_of l.app.kind l.app) rest))
    ∙ ap (λ is. old ++ is) (sym (at_drop_more (installed_from taken) listed i d lt)) ∙ so_far

-- no more are installed than are listed
pub length-installed_as : (taken : ℕ) (l : Listed) (o : Option AppKind) → length (installed_as taken l o []) ≤ 1
length-installed_as taken l None = omega arith
length-installed_as taken l (Some kind) = omega arith

-- ---- what is installed

bytes-of : (o : Option ℕ) → IfSome o (λ bytes. bytes ≤ 1073741824) → unwrap_or o 0 ≤ 2 ^ 30
bytes-of None h = omega arith
bytes-of (Some bytes) h = omega (arith, h)

rate_or : (o : Option Rate) → IfSome o (λ rate. (1 ≤ rate.0) × (rate.0 ≤ 1000000000000)) → 1 ≤ (unwrap_or o (record { 0 = 1 })).0
rate_or None h = omega arith
rate_or (Some rate) h = h.0

time_or : (o : Option Time) → IfSome o (λ t. t.0 ≤ 1000000000000) → (unwrap_or o (record { 0 = 0 })).0 ≤ 10 ^ 12
time_or None h = omega arith
time_or (Some t) h = h

some_times : (t r x : ℕ) → x ≤ t * r → 1 ≤ x → 1 ≤ t
some_times zero r x h some = absurd (omega (arith, h, some))
some_times (suc t) r x h some = omega arith

product_more : (t r : ℕ) → suc t * r ≡ t * r + r
product_more t r = grind arith

times_more : (t r : ℕ) → 1 ≤ r → t + r ≤ t * r + 1 * r
times_more zero r some = omega arith
times_more (suc t) r some =
    let less : t + r ≤ t * r + 1 * r = times_more t r some in
    let product : suc t * r ≡ t * r + r = product_more t r in
    omega (arith, less, product, some)

fewer_times : (t r x : ℕ) → t * r < x + r → 1 ≤ r → t ≤ x
fewer_times zero r x h some = omega arith
fewer_times (suc t) r x h some =
    let more : t + r ≤ t * r + 1 * r = times_more t r some in
    let product : suc t * r ≡ t * r + r = product_more t r in
    omega (arith, h, some, more, product)

-- a payload takes a time that isn't 0, and less than 10 ^ 15 ns
frame_time-some : (r n : ℕ) → 1 ≤ r → 1 ≤ n → 1 ≤ frame_time r n
frame_time-some r n some bytes = some_times (frame_time r n) r (8 * n * 10 ^ 9) (div_ceil_times (8 * n * 10 ^ 9) r some).0 (omega (arith, bytes))

frame_time-most : (r n : ℕ) → 1 ≤ r → n ≤ 65507 → frame_time r n ≤ 10 ^ 15
frame_time-most r n some few =
    let t : frame_time r n ≤ 8 * n * 10 ^ 9 = fewer_times (frame_time r n) r (8 * n * 10 ^ 9) (div_ceil_times (8 * n * 10 ^ 9) r some).1 some in
    omega (arith, t, few)

pub fine_on_off : (a : App) → IsWithin a → 1 ≤ a.size → IsKind (on_off_of a)
fine_on_off a is some =
    let rate : Rate = unwrap_or a.rate_bps (record { 0 = 1 }) in
    let some_rate : 1 ≤ rate.0 = rate_or a.rate_bps is.rate_bps in (
      is.size,
      is.count,
      frame_time-some rate.0 a.size some_rate some,
      frame_time-most rate.0 a.size some_rate is.size,
      time_or a.on_ns is.on_ns,
      time_or a.off_ns is.off_ns,
    )

fine_kind : (k : Kind) (a : App) → IsWithin a → HasBytes k a.size → IfSome (kind_of k a) IsKind
fine_kind UdpSend a is some = (is.size, is.count, is.some_interval, is.interval)
fine_kind UdpSink a is some = tt
fine_kind UdpEchoClient a is some = (is.size, is.count, is.some_interval, is.interval)
fine_kind UdpEchoServer a is some = tt
fine_kind Ping a is some = (is.size, is.count, is.some_interval, is.interval)
fine_kind TcpSink a is some = tt
fine_kind OnOff a is some = fine_on_off a is some
fine_kind TcpBulk a is some = (bytes-of a.bytes is.bytes, is.least_mss, is.greatest_mss)

one_kind : (taken : ℕ) (l : Listed) (o : Option AppKind) (more : List Installed) → IfSome o IsKind → All (λ i. IsKind i.kind) more → All (λ i. IsKind i.kind) (installed_as taken l o more)
one_kind taken l None more is are = are
one_kind taken l (Some kind) more is are =
    All-cons (λ (i : Installed). IsKind i.kind) (record { number = l.number; kind = kind; port = own_port taken l.app.kind l.app; start = l.app.start_ns }) more is are

kinds_from : (taken : ℕ) (ls : List Listed) → All IsListed ls → All (λ i. IsKind i.kind) (installed_from taken ls)
kinds_from taken [] are = All-nil (λ (i : Installed). IsKind i.kind)
kinds_from taken (l ∷ ls) are =
    one_kind taken l (kind_of l.app.kind l.app) (installed_from (taken + ports_taken l.app.kind) ls) (fine_kind l.app.kind l.app (All-head IsListed l ls are) (All-head IsListed l ls are).some_bytes)
    (kinds_from (taken + ports_taken l.app.kind) ls (All-tail IsListed l ls are))

-- the applications of a node send what fits
pub kinds_in : (nodes n : ℕ) (apps : List App) → All (IsApp nodes) apps → All (λ i. IsKind i.kind) (installed_from 0 (under node_of n (listed_from 0 apps)))
kinds_in nodes n apps are = kinds_from 0 (under node_of n (listed_from 0 apps)) (all_listed_at nodes n apps are)

one_start : (taken : ℕ) (l : Listed) (o : Option AppKind) (more : List Installed) → l.app.start_ns.0 ≤ 10 ^ 12 → AllByRecursion (λ i. i.start.0 ≤ 10 ^ 12) more
    → AllByRecursion (λ i. i.start.0 ≤ 10 ^ 12) (installed_as taken l o more)
one_start taken l None more is are = are
one_start taken l (Some kind) more is are = (is, are)

starts_from : (taken : ℕ) (ls : List Listed) → AllByRecursion (λ l. l.app.start_ns.0 ≤ 10 ^ 12) ls → AllByRecursion (λ i. i.start.0 ≤ 10 ^ 12) (installed_from taken ls)
starts_from taken [] are = tt
starts_from taken (l ∷ ls) are =
    one_start taken l (kind_of l.app.kind l.app) (installed_from (taken + ports_taken l.app.kind) ls) are.0 (starts_from (taken + ports_taken l.app.kind) ls are.1)

early : (nodes n : ℕ) (apps : List App) → All (IsApp nodes) apps → All (λ l. l.app.start_ns.0 ≤ 10 ^ 12) (listed_from n apps)
early nodes n [] are = All-nil (λ (l : Listed). l.app.start_ns.0 ≤ 10 ^ 12)
early nodes n (a ∷ apps) are =
    All-cons (λ (l : Listed). l.app.start_ns.0 ≤ 10 ^ 12) (record { number = n; app = a }) (listed_from (n + 1) apps) ((All-head (IsApp nodes) a apps are).start_ns.to)
    (early nodes (n + 1) apps (All-tail (IsApp nodes) a apps are))

-- they begin at a time of a run
pub starts_in : (nodes n : ℕ) (apps : List App) → All (IsApp nodes) apps → AllByRecursion (λ i. i.start.0 ≤ 10 ^ 12) (installed_from 0 (under node_of n (listed_from 0 apps)))
starts_in nodes n apps are =
    starts_from 0 (under node_of n (listed_from 0 apps)) (recursion_from_All (λ (l : Listed). l.app.start_ns.0 ≤ 10 ^ 12) (under node_of n (listed_from 0 apps))
    (All-filter (λ l. nat_eq l.app.node.0 n) (λ (l : Listed). l.app.start_ns.0 ≤ 10 ^ 12) (listed_from 0 apps) (early nodes 0 apps are)))

-- ---- no connection is there at first

same_conns : (conns : PlainConns) (i : Installed) (place : ℕ) → (with_listener conns i place).conns ≡ conns.conns
same_conns conns i place =
    cond_both (is_listener i.kind) (listens place i.port conns) conns (λ (c : PlainConns). c.conns ≡ conns.conns) (λ listens. refl) (λ not. refl)

conns_stay : (place : ℕ) (conns : PlainConns) (apps : List Installed) → (conns_from place conns apps).conns ≡ conns.conns
conns_stay place conns [] = refl
conns_stay place conns (i ∷ apps) = conns_stay (place + 1) (with_listener conns i place) apps ∙ same_conns conns i place

pub none_wait : (apps : List Installed) → AllWait (conns_of apps).conns
none_wait apps = subst AllWait (sym (conns_stay 0 no_conns apps)) (All-nil (λ (k : Conn). 0 < k.connection.round_trip.rto))
