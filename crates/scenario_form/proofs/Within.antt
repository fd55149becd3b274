-- An accepted scenario is within the limits.
use Rattle.std.proofs.Common.{◌≡◌, ◌≢◌, ℕ, zero, suc, ◌+◌, ◌≤◌, ◌<◌, ◌&&◌, nat_lt, nat_eq, not, if◌then◌else◌, Bool, true, false, List, [], ◌∷◌, length, map, get_or, Option, Some, None, Result, Ok, Err, codes, refl, ap, sym, ◌∙◌, arith}
use Rattle.std.specs.Prelude.{All}
use Rattle.std.proofs.lemmas.List.Elements.{All-nil, All-cons}
use Rattle.toml.specs.Data.{Members}
use Rattle.scenario_form.specs.declared.field.Fault.{Fault}
use Rattle.scenario_form.specs.declared.refusal.Refusal.{Refusal}
use Rattle.scenario_form.specs.declared.refusal.Refusal.TheVariants.{TooLong}
use Rattle.scenario_form.specs.declared.scenario.Kind.{Kind}
use Rattle.scenario_form.specs.declared.scenario.Kind.TheVariants.{UdpSend, UdpEchoClient, UdpSink, UdpEchoServer, TcpSink, OnOff, Ping, TcpBulk}
use Rattle.scenario_form.specs.declared.scenario.Routing.{Routing}
use Rattle.scenario_form.specs.declared.scenario.Scenario.{Scenario}
use Rattle.scenario_form.specs.Checks.{Check, ◌>>◌, refuse_as}
use Rattle.scenario_form.specs.Rows.{Row, may, flag, row_check, table_check, top_rows, link_rows, lan_rows, route_rows, loss_rows}
use Rattle.scenario_form.specs.Values.{node_of, node_at, number_at, number_or, tables_at}
use Rattle.scenario_form.specs.Tables.{rows_of_kind, kind_at, link_of, link_check, link_own_check, lan_of, lan_check, lan_own_check, route_of, route_check, route_own_check, app_of, app_check, loss_of, loss_check, loss_own_check}
use Rattle.scenario_form.specs.Walk.{scenario_in, refusal, section_check, top_check, walk_check, walk_reading, nodes_of, routing_at}
use Rattle.scenario_form.specs.Across.{across_check}
use Rattle.scenario_form.specs.Groups.{groups_check}
use Rattle.scenario_form.specs.Reading.{reading, read_document, document_of, scenario_limit, scenario_of}
use Rattle.scenario_form.specs.Limits.{IsFromTo, IsLink, IsLan, IsRoute, IsApp, IsLoss, HasKeys, IsWithinLimits}
use Rattle.scenario_form.proofs.Steps.{first_ok, rest_ok, require_ok, refuse_ok}
use Rattle.scenario_form.proofs.Counted.{few, field_ok}
use Rattle.scenario_form.proofs.FieldNumbers.{left_true, right_true, same_number, must_number, may_number, if_number, if_rate, if_time, must_node, must_nodes, HasNodes}
use Rattle.scenario_form.proofs.HeldNumbers.{rows_within, held_number, held_or}
use Rattle.scenario_form.proofs.AppKeys.{app_keys}
use Rattle.scenario_form.proofs.GroupLimits.{if_groups, if_rising}

other_number : (n m : ℕ) → not (nat_eq n m) ≡ true → n ≢ m
other_number n m h = grind arith

-- a default within the bounds
within : (least most n : ℕ) → least ≤ n → n ≤ most → IsFromTo least most n
within least most n from to = record { from = from; to = to }

link_field : (nodes : ℕ) (t : Members) (i : ℕ) → i < 14 → table_check nodes link_rows t ≡ Ok tt → row_check nodes t (get_or link_rows i (may 0 [] flag)) ≡ Ok tt
link_field nodes t i lt h = field_ok nodes link_rows t i (may 0 [] flag) lt h

a_link : (nodes : ℕ) (t : Members) → link_check nodes t ≡ Ok tt → IsLink nodes (link_of t)
a_link nodes t h =
    let f : table_check nodes link_rows t ≡ Ok tt = first_ok (table_check nodes link_rows t) (link_own_check (link_of t)) h in
    let own : link_own_check (link_of t) ≡ Ok tt = rest_ok (table_check nodes link_rows t) (link_own_check (link_of t)) h in
    record {
      a = must_node nodes 1 (codes "a") t (link_field nodes t 0 (omega arith) f);
      b = must_node nodes 2 (codes "b") t (link_field nodes t 1 (omega arith) f);
      apart = other_number _ _ (require_ok _ _ (first_ok _ _ own));
      network = require_ok _ _ (first_ok _ _ (rest_ok _ _ own));
      prefix = may_number nodes 5 8 30 24 (codes "prefix") t (within 8 30 24 (omega arith) (omega arith)) (link_field nodes t 4 (omega arith) f);
      rate_bps = must_number nodes 6 1 1000000000000 (codes "rate_bps") t (link_field nodes t 5 (omega arith) f);
      delay_ns = must_number nodes 7 0 1000000000000 (codes "delay_ns") t (link_field nodes t 6 (omega arith) f);
      mtu = may_number nodes 8 68 65535 1500 (codes "mtu") t (within 68 65535 1500 (omega arith) (omega arith)) (link_field nodes t 7 (omega arith) f);
      cost = may_number nodes 9 1 65535 1 (codes "cost") t (within 1 65535 1 (omega arith) (omega arith)) (link_field nodes t 8 (omega arith) f);
      limit = may_number nodes 11 1 100000 100 (codes "limit") t (within 1 100000 100 (omega arith) (omega arith)) (link_field nodes t 10 (omega arith) f);
      tbf_bps = if_rate (number_at (codes "tbf_bps") t) (if_number nodes 12 1 1000000000000 (codes "tbf_bps") t (link_field nodes t 11 (omega arith) f));
      tbf_burst = if_number nodes 13 1 1000000000 (codes "tbf_burst") t (link_field nodes t 12 (omega arith) f);
    }

lan_field : (nodes : ℕ) (t : Members) (i : ℕ) → i < 12 → table_check nodes lan_rows t ≡ Ok tt → row_check nodes t (get_or lan_rows i (may 0 [] flag)) ≡ Ok tt
lan_field nodes t i lt h = field_ok nodes lan_rows t i (may 0 [] flag) lt h

a_lan : (nodes : ℕ) (t : Members) → lan_check nodes t ≡ Ok tt → IsLan nodes (lan_of t)
a_lan nodes t h =
    let f : table_check nodes lan_rows t ≡ Ok tt = first_ok (table_check nodes lan_rows t) (lan_own_check (lan_of t)) h in
    let members : HasNodes nodes 2 200 (lan_of t).members = must_nodes nodes 1 2 200 (codes "members") t (lan_field nodes t 0 (omega arith) f) in
    record {
      members = members.count;
      below = members.below;
      addrs = same_number _ _ (require_ok _ _ (first_ok _ _ (rest_ok _ _ (rest_ok (table_check nodes lan_rows t) (lan_own_check (lan_of t)) h))));
      prefix = may_number nodes 3 8 30 24 (codes "prefix") t (within 8 30 24 (omega arith) (omega arith)) (lan_field nodes t 2 (omega arith) f);
      rate_bps = must_number nodes 4 1 1000000000000 (codes "rate_bps") t (lan_field nodes t 3 (omega arith) f);
      delay_ns = must_number nodes 5 0 1000000000000 (codes "delay_ns") t (lan_field nodes t 4 (omega arith) f);
      mtu = may_number nodes 6 68 65535 1500 (codes "mtu") t (within 68 65535 1500 (omega arith) (omega arith)) (lan_field nodes t 5 (omega arith) f);
      cost = may_number nodes 7 1 65535 1 (codes "cost") t (within 1 65535 1 (omega arith) (omega arith)) (lan_field nodes t 6 (omega arith) f);
      limit = may_number nodes 9 1 100000 100 (codes "limit") t (within 1 100000 100 (omega arith) (omega arith)) (lan_field nodes t 8 (omega arith) f);
      tbf_bps = if_rate (number_at (codes "tbf_bps") t) (if_number nodes 10 1 1000000000000 (codes "tbf_bps") t (lan_field nodes t 9 (omega arith) f));
      tbf_burst = if_number nodes 11 1 1000000000 (codes "tbf_burst") t (lan_field nodes t 10 (omega arith) f);
    }

a_route : (nodes : ℕ) (routing : Routing) (t : Members) → route_check nodes routing t ≡ Ok tt → IsRoute nodes (route_of t)
a_route nodes routing t h =
    let f : table_check nodes route_rows t ≡ Ok tt = first_ok (table_check nodes route_rows t) (route_own_check routing (route_of t)) h in
    record {
      node = must_node nodes 1 (codes "node") t (field_ok nodes route_rows t 0 (may 0 [] flag) (omega arith) f);
      prefix = must_number nodes 3 0 30 (codes "prefix") t (field_ok nodes route_rows t 2 (may 0 [] flag) (omega arith) f);
      dest = same_number _ _ (require_ok _ _ (rest_ok _ _ (rest_ok (table_check nodes route_rows t) (route_own_check routing (route_of t)) h)));
    }

a_loss : (nodes : ℕ) (t : Members) → loss_check nodes t ≡ Ok tt → IsLoss nodes (loss_of t)
a_loss nodes t h =
    let f : table_check nodes loss_rows t ≡ Ok tt = first_ok (table_check nodes loss_rows t) (loss_own_check (loss_of t)) h in
    record {
      node = must_node nodes 1 (codes "node") t (field_ok nodes loss_rows t 0 (may 0 [] flag) (omega arith) f);
      frames = if_rising nodes 3 1000000000 (codes "frames") t (field_ok nodes loss_rows t 2 (may 0 [] flag) (omega arith) f);
      millionths = if_number nodes 4 0 1000000 (codes "millionths") t (field_ok nodes loss_rows t 3 (may 0 [] flag) (omega arith) f);
    }

-- ---- applications

-- a key whose number is bounded
record Bound : Type 0 where
  key : List ℕ
  low : ℕ
  high : ℕ

abbrev app_bounds : List Bound
app_bounds =
    record { key = codes "port"; low = 1; high = 49152 }
    ∷ record { key = codes "start_ns"; low = 0; high = 1000000000000 }
    ∷ record { key = codes "count"; low = 1; high = 1000000000 }
    ∷ record { key = codes "interval_ns"; low = 1; high = 1000000000000 }
    ∷ record { key = codes "size"; low = 0; high = 65507 }
    ∷ record { key = codes "priority"; low = 0; high = 15 }
    ∷ record { key = codes "rate_bps"; low = 1; high = 1000000000000 }
    ∷ record { key = codes "on_ns"; low = 1; high = 1000000000000 }
    ∷ record { key = codes "off_ns"; low = 0; high = 1000000000000 }
    ∷ record { key = codes "bytes"; low = 0; high = 1073741824 }
    ∷ record { key = codes "mss"; low = 64; high = 9000 }
    ∷ []

abbrev all_within : List Bound → List Row → Bool
all_within [] rows = true
all_within (b ∷ bs) rows = rows_within b.key b.low b.high rows && all_within bs rows

kind_within : (o : Option Kind) → all_within app_bounds (rows_of_kind o) ≡ true
kind_within None = refl
kind_within (Some UdpSend) = refl
kind_within (Some UdpEchoClient) = refl
kind_within (Some UdpSink) = refl
kind_within (Some UdpEchoServer) = refl
kind_within (Some TcpSink) = refl
kind_within (Some OnOff) = refl
kind_within (Some Ping) = refl
kind_within (Some TcpBulk) = refl

bound_at : (bs : List Bound) (rows : List Row) (i : ℕ) (d : Bound) → i < length bs → all_within bs rows ≡ true
    → rows_within (get_or bs i d).key (get_or bs i d).low (get_or bs i d).high rows ≡ true
bound_at [] rows i d lt h = absurd (omega (arith, lt))
bound_at (b ∷ bs) rows zero d lt h = left_true (rows_within b.key b.low b.high rows) (all_within bs rows) h
bound_at (b ∷ bs) rows (suc i) d lt h = bound_at bs rows i d (omega (arith, lt)) (right_true (rows_within b.key b.low b.high rows) (all_within bs rows) h)

abbrev no_bound : Bound
no_bound = record { key = []; low = 0; high = 0 }

app_bound : (o : Option Kind) (i : ℕ) → i < 11
    → rows_within (get_or app_bounds i no_bound).key (get_or app_bounds i no_bound).low (get_or app_bounds i no_bound).high (rows_of_kind o) ≡ true
app_bound o i lt = bound_at app_bounds (rows_of_kind o) i no_bound lt (kind_within o)

-- each kind has a node
app_node : (nodes : ℕ) (o : Option Kind) (t : Members) → table_check nodes (rows_of_kind o) t ≡ Ok tt → (node_at (codes "node") t).0 < nodes
app_node nodes None t h = must_node nodes 2 (codes "node") t (field_ok nodes (rows_of_kind None) t 1 (may 0 [] flag) (omega arith) h)
app_node nodes (Some UdpSend) t h = must_node nodes 2 (codes "node") t (field_ok nodes (rows_of_kind (Some UdpSend)) t 1 (may 0 [] flag) (omega arith) h)
app_node nodes (Some UdpEchoClient) t h = must_node nodes 2 (codes "node") t (field_ok nodes (rows_of_kind (Some UdpEchoClient)) t 1 (may 0 [] flag) (omega arith) h)
app_node nodes (Some UdpSink) t h = must_node nodes 2 (codes "node") t (field_ok nodes (rows_of_kind (Some UdpSink)) t 1 (may 0 [] flag) (omega arith) h)
app_node nodes (Some UdpEchoServer) t h = must_node nodes 2 (codes "node") t (field_ok nodes (rows_of_kind (Some UdpEchoServer)) t 1 (may 0 [] flag) (omega arith) h)
app_node nodes (Some TcpSink) t h = must_node nodes 2 (codes "node") t (field_ok nodes (rows_of_kind (Some TcpSink)) t 1 (may 0 [] flag) (omega arith) h)
app_node nodes (Some OnOff) t h = must_node nodes 2 (codes "node") t (field_ok nodes (rows_of_kind (Some OnOff)) t 1 (may 0 [] flag) (omega arith) h)
app_node nodes (Some Ping) t h = must_node nodes 2 (codes "node") t (field_ok nodes (rows_of_kind (Some Ping)) t 1 (may 0 [] flag) (omega arith) h)
app_node nodes (Some TcpBulk) t h = must_node nodes 2 (codes "node") t (field_ok nodes (rows_of_kind (Some TcpBulk)) t 1 (may 0 [] flag) (omega arith) h)

app_of_kind : (nodes : ℕ) (o : Option Kind) (t : Members) → table_check nodes (rows_of_kind o) t ≡ Ok tt → HasKeys (app_of t).kind (app_of t) → IsApp nodes (app_of t)
app_of_kind nodes o t h keys = record {
  node = app_node nodes o t h;
  keys = keys;
  port = held_number nodes 1 49152 (codes "port") (rows_of_kind o) t (app_bound o 0 (omega arith)) h;
  start_ns = held_or nodes 0 1000000000000 0 (codes "start_ns") (rows_of_kind o) t (within 0 1000000000000 0 (omega arith) (omega arith)) (app_bound o 1 (omega arith)) h;
  count = held_or nodes 1 1000000000 1 (codes "count") (rows_of_kind o) t (within 1 1000000000 1 (omega arith) (omega arith)) (app_bound o 2 (omega arith)) h;
  interval_ns = held_or nodes 1 1000000000000 1000000000 (codes "interval_ns") (rows_of_kind o) t (within 1 1000000000000 1000000000 (omega arith) (omega arith)) (app_bound o 3 (omega arith)) h;
  size = held_or nodes 0 65507 512 (codes "size") (rows_of_kind o) t (within 0 65507 512 (omega arith) (omega arith)) (app_bound o 4 (omega arith)) h;
  priority = held_or nodes 0 15 0 (codes "priority") (rows_of_kind o) t (within 0 15 0 (omega arith) (omega arith)) (app_bound o 5 (omega arith)) h;
  rate_bps = if_rate (number_at (codes "rate_bps") t) (held_number nodes 1 1000000000000 (codes "rate_bps") (rows_of_kind o) t (app_bound o 6 (omega arith)) h);
  on_ns = if_time 1 (number_at (codes "on_ns") t) (held_number nodes 1 1000000000000 (codes "on_ns") (rows_of_kind o) t (app_bound o 7 (omega arith)) h);
  off_ns = if_time 0 (number_at (codes "off_ns") t) (held_number nodes 0 1000000000000 (codes "off_ns") (rows_of_kind o) t (app_bound o 8 (omega arith)) h);
  bytes = held_number nodes 0 1073741824 (codes "bytes") (rows_of_kind o) t (app_bound o 9 (omega arith)) h;
  mss = held_or nodes 64 9000 536 (codes "mss") (rows_of_kind o) t (within 64 9000 536 (omega arith) (omega arith)) (app_bound o 10 (omega arith)) h;
}

an_app : (nodes : ℕ) (t : Members) → app_check nodes t ≡ Ok tt → IsApp nodes (app_of t)
an_app nodes t h = app_of_kind nodes (kind_at t) t h (app_keys nodes (kind_at t) t h)

-- ---- the scenario

all_passed : {A : Type 0} (P : A → Type 0) (make : Members → A) (check : Members → Check Fault) → ((t : Members) → check t ≡ Ok tt → P (make t))
    → (section index : ℕ) (ts : List Members) → section_check section index check ts ≡ Ok tt → All P (map make ts)
all_passed P make check one section index [] h = All-nil P
all_passed P make check one section index (t ∷ ts) h =
    let first : refuse_as (refusal section index) (check t) ≡ Ok tt = first_ok (refuse_as (refusal section index) (check t)) (section_check section (index + 1) check ts) h in
    All-cons P (make t) (map make ts) (one t (refuse_ok (refusal section index) (check t) first))
    (all_passed P make check one section (index + 1) ts (rest_ok (refuse_as (refusal section index) (check t)) (section_check section (index + 1) check ts) h))

top_field : (t : Members) (i : ℕ) → i < 13 → top_check t ≡ Ok tt → row_check (nodes_of t) t (get_or top_rows i (may 0 [] flag)) ≡ Ok tt
top_field t i lt h = field_ok (nodes_of t) top_rows t i (may 0 [] flag) lt h

cut : (n : ℕ) → IsFromTo 1 1000 n → IsFromTo 1 1000 (node_of n).0
cut n is = let f : 1 ≤ n = is.from in let t : n ≤ 1000 = is.to in record { from = omega (arith, f); to = omega (arith, t) }

go_on : {A E : Type 0} (c : Check E) (a : A) → c ≡ Ok tt → (c >> Ok a) ≡ Ok a
go_on (Ok tt) a h = refl
go_on (Err e) a h = cc

pub walked : (t : Members) → walk_check t ≡ Ok tt → across_check (scenario_in t) ≡ Ok tt → IsWithinLimits (scenario_in t)
walked t h across =
    let c0 : Check Refusal = refuse_as (refusal 0 0) (top_check t) in
    let c1 : Check Refusal = section_check 1 0 (link_check (nodes_of t)) (tables_at (codes "link") t) in
    let c2 : Check Refusal = section_check 2 0 (lan_check (nodes_of t)) (tables_at (codes "lan") t) in
    let c3 : Check Refusal = section_check 3 0 (route_check (nodes_of t) (routing_at t)) (tables_at (codes "route") t) in
    let c4 : Check Refusal = section_check 4 0 (app_check (nodes_of t)) (tables_at (codes "app") t) in
    let c5 : Check Refusal = section_check 5 0 (loss_check (nodes_of t)) (tables_at (codes "loss") t) in
    let r1 : (c1 >> (c2 >> (c3 >> (c4 >> c5)))) ≡ Ok tt = rest_ok c0 (c1 >> (c2 >> (c3 >> (c4 >> c5)))) h in
    let r2 : (c2 >> (c3 >> (c4 >> c5))) ≡ Ok tt = rest_ok c1 (c2 >> (c3 >> (c4 >> c5))) r1 in
    let r3 : (c3 >> (c4 >> c5)) ≡ Ok tt = rest_ok c2 (c3 >> (c4 >> c5)) r2 in
    let r4 : (c4 >> c5) ≡ Ok tt = rest_ok c3 (c4 >> c5) r3 in
    let top : top_check t ≡ Ok tt = refuse_ok (refusal 0 0) (top_check t) (first_ok c0 (c1 >> (c2 >> (c3 >> (c4 >> c5)))) h) in
    record {
      nodes = cut (number_or 0 (codes "nodes") t) (must_number (nodes_of t) 2 1 1000 (codes "nodes") t (top_field t 1 (omega arith) top));
      stop_ns = must_number (nodes_of t) 3 0 1000000000000 (codes "stop_ns") t (top_field t 2 (omega arith) top);
      seed = may_number (nodes_of t) 4 0 9007199254740992 1 (codes "seed") t (within 0 9007199254740992 1 (omega arith) (omega arith)) (top_field t 3 (omega arith) top);
      events_per_node = may_number (nodes_of t) 5 1 1000000000 1000000 (codes "events_per_node") t (within 1 1000000000 1000000 (omega arith) (omega arith)) (top_field t 4 (omega arith) top);
      groups = if_groups (nodes_of t) 8 (codes "groups") t (top_field t 7 (omega arith) top);
      few = few t (scenario_in t) (go_on (walk_check t) (scenario_in t) h);
      links = all_passed (IsLink (nodes_of t)) link_of (link_check (nodes_of t)) (a_link (nodes_of t)) 1 0 (tables_at (codes "link") t) (first_ok c1 (c2 >> (c3 >> (c4 >> c5))) r1);
      lans = all_passed (IsLan (nodes_of t)) lan_of (lan_check (nodes_of t)) (a_lan (nodes_of t)) 2 0 (tables_at (codes "lan") t) (first_ok c2 (c3 >> (c4 >> c5)) r2);
      routes = all_passed (IsRoute (nodes_of t)) route_of (route_check (nodes_of t) (routing_at t)) (a_route (nodes_of t) (routing_at t)) 3 0 (tables_at (codes "route") t) (first_ok c3 (c4 >> c5) r3);
      apps = all_passed (IsApp (nodes_of t)) app_of (app_check (nodes_of t)) (an_app (nodes_of t)) 4 0 (tables_at (codes "app") t) (first_ok c4 c5 r4);
      losses = all_passed (IsLoss (nodes_of t)) loss_of (loss_check (nodes_of t)) (a_loss (nodes_of t)) 5 0 (tables_at (codes "loss") t) (rest_ok c4 c5 r4);
      across = across;
    }

behind : {A E : Type 0} (c : Check E) (r : Result A E) (a : A) → (c >> r) ≡ Ok a → r ≡ Ok a
behind (Ok tt) r a h = h
behind (Err e) r a h = cc

before : {A E : Type 0} (c : Check E) (r : Result A E) (a : A) → (c >> r) ≡ Ok a → c ≡ Ok tt
before (Ok tt) r a h = refl
before (Err e) r a h = cc

its_value : {A E : Type 0} (c : Check E) (a b : A) → (c >> Ok a) ≡ Ok b → a ≡ b
its_value (Ok tt) a b h = cc
its_value (Err e) a b h = cc

-- the scenario of tables that passed, behind the checks over all of them
pub walked_across : (t : Members) (s : Scenario) → walk_reading t ≡ Ok s → across_check s ≡ Ok tt → IsWithinLimits s
walked_across t s h across =
    let same : scenario_in t ≡ s = its_value (walk_check t) (scenario_in t) s h in
    rw (← same) (walked t (before (walk_check t) (Ok (scenario_in t)) s h) (ap across_check same ∙ across))

-- what a document's reading says: the scenario is that of its tables, and passes all checks
record IsReadFrom (t : Members) (s : Scenario) : Type 0 where
  same : scenario_in t ≡ s
  walk : walk_check t ≡ Ok tt
  across : across_check s ≡ Ok tt
  groups : groups_check s ≡ Ok tt

read : (t : Members) (s : Scenario) → reading t ≡ Ok s → IsReadFrom t s
read t s h =
    let made = scenario_in t in
    let r1 : (across_check made >> (groups_check made >> Ok made)) ≡ Ok s = behind (walk_check t) (across_check made >> (groups_check made >> Ok made)) s h in
    let r2 : (groups_check made >> Ok made) ≡ Ok s = behind (across_check made) (groups_check made >> Ok made) s r1 in
    let same : made ≡ s = its_value (groups_check made) made s r2 in
    record {
      same = same;
      walk = before (walk_check t) (across_check made >> (groups_check made >> Ok made)) s h;
      across = ap across_check (sym same) ∙ before (across_check made) (groups_check made >> Ok made) s r1;
      groups = ap groups_check (sym same) ∙ before (groups_check made) (Ok made) s r2;
    }

of_document : (o : Option Members) (s : Scenario) → read_document o ≡ Ok s → (t : Members) × IsReadFrom t s
of_document None s h = cc
of_document (Some t) s h = (t, read t s h)

of_size : (b : Bool) (o : Option Members) (r : Refusal) (s : Scenario) → (if b then Err r else read_document o) ≡ Ok s → (t : Members) × IsReadFrom t s
of_size true o r s h = cc
of_size false o r s h = of_document o s h

of_bytes : (bytes : List ℕ) (s : Scenario) → scenario_of bytes ≡ Ok s → (t : Members) × IsReadFrom t s
unfolding scenario_of
of_bytes bytes s h = of_size (nat_lt scenario_limit (length bytes)) (document_of bytes) (TooLong (scenario_limit + 1)) s h

-- the scenario of bytes
pub accepted : (bytes : List ℕ) (s : Scenario) → scenario_of bytes ≡ Ok s → IsWithinLimits s
accepted bytes s h =
    let (t, is) = of_bytes bytes s h in
    rw (← is.same) (walked t is.walk (ap across_check is.same ∙ is.across))

pub accepted-groups : (bytes : List ℕ) (s : Scenario) → scenario_of bytes ≡ Ok s → groups_check s ≡ Ok tt
accepted-groups bytes s h = (of_bytes bytes s h).1.groups
