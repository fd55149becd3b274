-- What each table says, with its defaults, and its own checks.
use Rattle.std.specs.Prelude.{ℕ, ◌+◌, pos, Bool, true, false, not, ◌&&◌, ◌||◌, nat_le, ◌==◌, is_some, is_none, if◌then◌else◌, List, [], ◌∷◌, length, Option, Some, None, option_map, unwrap_or, Result, Ok, Err, codes}
use Rattle.std.specs.List.{list_any, filter}
use Rattle.std.specs.Str.{bytes_eq}
use Rattle.toml.specs.Data.{Members}
use Rattle.scenario_form.specs.declared.field.Code.TheVariants.{Missing, Same, Length, Subnet, Conflict, Burst}
use Rattle.scenario_form.specs.declared.field.Fault.{Fault}
use Rattle.scenario_form.specs.declared.scenario.Queue.{Queue}
use Rattle.scenario_form.specs.declared.scenario.Queue.TheVariants.{Fifo, Prio, Tbf}
use Rattle.scenario_form.specs.declared.scenario.Routing.{Routing}
use Rattle.scenario_form.specs.declared.scenario.Routing.TheVariants.{Static, Auto}
use Rattle.scenario_form.specs.declared.scenario.Kind.{Kind}
use Rattle.scenario_form.specs.declared.scenario.Kind.TheVariants.{UdpSend, UdpEchoClient, UdpSink, UdpEchoServer, TcpSink, OnOff, Ping, TcpBulk}
use Rattle.sim_base.specs.declared.key.NodeId.{NodeId}
use Rattle.sim_base.specs.declared.time.Rate.{Rate}
use Rattle.scenario_form.specs.declared.scenario.Link.{Link}
use Rattle.scenario_form.specs.declared.scenario.Lan.{Lan}
use Rattle.scenario_form.specs.declared.scenario.Loss.{Loss}
use Rattle.scenario_form.specs.declared.scenario.Route.{Route}
use Rattle.scenario_form.specs.declared.scenario.App.{App}
use Rattle.scenario_form.specs.Checks.{Check, ◌>>◌, require}
use Rattle.scenario_form.specs.Rows.{Row, fault, integer, may, link_rows, lan_rows, route_rows, app_rows, loss_rows, table_check}
use Rattle.scenario_form.specs.Values.{node_at, nodes_in, time_of, rate_of, number_at, number_or, integer_or, address_at, address_or_zero, text_or, flag_or_false, list_at, numbers_in, addresses_in}
use Rattle.scenario_form.specs.Networks.{share_network, host_part}

-- ---- texts

abbrev pub queue_of : List ℕ → Queue
queue_of text = if bytes_eq text (codes "prio") then Prio else if bytes_eq text (codes "tbf") then Tbf else Fifo

abbrev pub queue_at : Members → Queue
queue_at t = queue_of (text_or (codes "fifo") (codes "queue") t)

abbrev pub routing_of : List ℕ → Routing
routing_of text = if bytes_eq text (codes "auto") then Auto else Static

abbrev pub other_kind_of : List ℕ → Option Kind
other_kind_of text =
    if bytes_eq text (codes "tcp-sink") then Some TcpSink
    else if bytes_eq text (codes "on-off") then Some OnOff
    else if bytes_eq text (codes "ping") then Some Ping
    else if bytes_eq text (codes "tcp-bulk") then Some TcpBulk
    else None

abbrev pub kind_of : List ℕ → Option Kind
kind_of text =
    if bytes_eq text (codes "udp-send") then Some UdpSend
    else if bytes_eq text (codes "udp-echo-client") then Some UdpEchoClient
    else if bytes_eq text (codes "udp-sink") then Some UdpSink
    else if bytes_eq text (codes "udp-echo-server") then Some UdpEchoServer
    else other_kind_of text

-- ---- links

abbrev pub link_of : Members → Link
link_of t = record {
  a = node_at (codes "a") t;
  b = node_at (codes "b") t;
  a_addr = address_or_zero (codes "a_addr") t;
  b_addr = address_or_zero (codes "b_addr") t;
  prefix = number_or 24 (codes "prefix") t;
  rate_bps = rate_of (number_or 0 (codes "rate_bps") t);
  delay_ns = time_of (number_or 0 (codes "delay_ns") t);
  mtu = number_or 1500 (codes "mtu") t;
  cost = number_or 1 (codes "cost") t;
  queue = queue_at t;
  limit = number_or 100 (codes "limit") t;
  tbf_bps = option_map rate_of (number_at (codes "tbf_bps") t);
  tbf_burst = number_at (codes "tbf_burst") t;
  pcap = flag_or_false (codes "pcap") t;
}

abbrev pub subnet_check : ℕ → ℕ → List ℕ → Check Fault
subnet_check n prefix addresses = require (share_network prefix addresses) (fault n Subnet)

-- the keys of the token bucket stand where it is the queue, and nowhere else; a burst holds a whole frame
abbrev pub tbf_check : ℕ → ℕ → Queue → Option Rate → Option ℕ → ℕ → Check Fault
tbf_check at_rate at_burst Tbf rate None mtu = require (is_some rate) (fault at_rate Missing) >> Err (fault at_burst Missing)
tbf_check at_rate at_burst Tbf rate (Some burst) mtu =
    require (is_some rate) (fault at_rate Missing) >> require (nat_le (mtu + 18) burst) (fault at_burst Burst)
tbf_check at_rate at_burst Fifo rate burst mtu =
    require (is_none rate) (fault at_rate Conflict) >> require (is_none burst) (fault at_burst Conflict)
tbf_check at_rate at_burst Prio rate burst mtu =
    require (is_none rate) (fault at_rate Conflict) >> require (is_none burst) (fault at_burst Conflict)

abbrev pub link_own_check : Link → Check Fault
link_own_check l =
    require (not (l.a.0 == l.b.0)) (fault 2 Same)
    >> (subnet_check 3 l.prefix (l.a_addr ∷ l.b_addr ∷ [])
    >> tbf_check 12 13 l.queue l.tbf_bps l.tbf_burst l.mtu)

abbrev pub link_check : ℕ → Members → Check Fault
link_check nodes t = table_check nodes link_rows t >> link_own_check (link_of t)

-- the link of a table, or its first refusal
abbrev pub link_reading : ℕ → Members → Result Link Fault
link_reading nodes t = link_check nodes t >> Ok (link_of t)

-- ---- LANs

abbrev pub lan_of : Members → Lan
lan_of t = record {
  members = nodes_in (unwrap_or (list_at (codes "members") t) []);
  addrs = addresses_in (unwrap_or (list_at (codes "addrs") t) []);
  prefix = number_or 24 (codes "prefix") t;
  rate_bps = rate_of (number_or 0 (codes "rate_bps") t);
  delay_ns = time_of (number_or 0 (codes "delay_ns") t);
  mtu = number_or 1500 (codes "mtu") t;
  cost = number_or 1 (codes "cost") t;
  queue = queue_at t;
  limit = number_or 100 (codes "limit") t;
  tbf_bps = option_map rate_of (number_at (codes "tbf_bps") t);
  tbf_burst = number_at (codes "tbf_burst") t;
  pcap = flag_or_false (codes "pcap") t;
}

-- no node stands twice
abbrev pub are_distinct : List NodeId → Bool
are_distinct [] = true
are_distinct (n ∷ more) = not (list_any (λ m. m.0 == n.0) more) && are_distinct more

abbrev pub lan_own_check : Lan → Check Fault
lan_own_check l =
    require (are_distinct l.members) (fault 1 Same)
    >> (require (length l.addrs == length l.members) (fault 2 Length)
    >> (subnet_check 2 l.prefix l.addrs
    >> tbf_check 10 11 l.queue l.tbf_bps l.tbf_burst l.mtu))

abbrev pub lan_check : ℕ → Members → Check Fault
lan_check nodes t = table_check nodes lan_rows t >> lan_own_check (lan_of t)

abbrev pub lan_reading : ℕ → Members → Result Lan Fault
lan_reading nodes t = lan_check nodes t >> Ok (lan_of t)

-- ---- routes

abbrev pub route_of : Members → Route
route_of t = record {
  node = node_at (codes "node") t;
  dest = address_or_zero (codes "dest") t;
  prefix = number_or 0 (codes "prefix") t;
  via = address_or_zero (codes "via") t;
}

abbrev pub is_static : Routing → Bool
is_static Static = true
is_static Auto = false

abbrev pub route_own_check : Routing → Route → Check Fault
route_own_check routing r =
    require (is_static routing) (fault 0 Conflict) >> require (host_part r.prefix r.dest == 0) (fault 2 Subnet)

abbrev pub route_check : ℕ → Routing → Members → Check Fault
route_check nodes routing t = table_check nodes route_rows t >> route_own_check routing (route_of t)

abbrev pub route_reading : ℕ → Routing → Members → Result Route Fault
route_reading nodes routing t = route_check nodes routing t >> Ok (route_of t)

-- ---- applications

-- the fields of a kind, by number, beside `kind` and `node`
abbrev pub fields_of_kind : Kind → List ℕ
fields_of_kind UdpSend = 3 ∷ 4 ∷ 5 ∷ 6 ∷ 7 ∷ 8 ∷ 9 ∷ []
fields_of_kind UdpEchoClient = 3 ∷ 4 ∷ 5 ∷ 6 ∷ 7 ∷ 8 ∷ 9 ∷ []
fields_of_kind UdpSink = 3 ∷ []
fields_of_kind UdpEchoServer = 3 ∷ []
fields_of_kind TcpSink = 3 ∷ []
fields_of_kind OnOff = 3 ∷ 4 ∷ 5 ∷ 6 ∷ 8 ∷ 9 ∷ 10 ∷ 11 ∷ 12 ∷ []
fields_of_kind Ping = 4 ∷ 5 ∷ 6 ∷ 7 ∷ 8 ∷ 9 ∷ []
fields_of_kind TcpBulk = 3 ∷ 4 ∷ 5 ∷ 13 ∷ 14 ∷ []

-- `on-off` sends at least one byte
abbrev pub row_for : Kind → Row → Row
row_for OnOff r = if r.number == 8 then may 8 r.key (integer 1 65507) else r
row_for _ r = r

abbrev pub rows_of_kind : Option Kind → List Row
rows_of_kind None = app_rows
rows_of_kind (Some k) = rows_with k (filter (λ r. nat_le r.number 2 || list_any (λ n. n == r.number) (fields_of_kind k)) app_rows)
  where
    rows_with : Kind → List Row → List Row
    rows_with k [] = []
    rows_with k (r ∷ rows) = row_for k r ∷ rows_with k rows

abbrev pub kind_at : Members → Option Kind
kind_at t = kind_of (text_or [] (codes "kind") t)

abbrev pub app_of : Members → App
app_of t = record {
  kind = unwrap_or (kind_at t) UdpSink;
  node = node_at (codes "node") t;
  port = number_at (codes "port") t;
  dst = address_at (codes "dst") t;
  start_ns = time_of (number_or 0 (codes "start_ns") t);
  count = number_or 1 (codes "count") t;
  interval_ns = time_of (number_or 1000000000 (codes "interval_ns") t);
  size = number_or 512 (codes "size") t;
  priority = number_or 0 (codes "priority") t;
  rate_bps = option_map rate_of (number_at (codes "rate_bps") t);
  on_ns = option_map time_of (number_at (codes "on_ns") t);
  off_ns = option_map time_of (number_at (codes "off_ns") t);
  bytes = number_at (codes "bytes") t;
  mss = number_or 536 (codes "mss") t;
}

abbrev pub app_check : ℕ → Members → Check Fault
app_check nodes t = table_check nodes (rows_of_kind (kind_at t)) t

abbrev pub app_reading : ℕ → Members → Result App Fault
app_reading nodes t = app_check nodes t >> Ok (app_of t)

-- ---- losses

abbrev pub loss_of : Members → Loss
loss_of t = record {
  node = node_at (codes "node") t;
  iface = integer_or (pos 0) (codes "iface") t;
  frames = option_map numbers_in (list_at (codes "frames") t);
  millionths = number_at (codes "millionths") t;
}

-- exactly one of the two stands
abbrev pub loss_own_check : Loss → Check Fault
loss_own_check l =
    require ((is_some l.frames && is_none l.millionths) || (is_none l.frames && is_some l.millionths)) (fault 4 Conflict)

abbrev pub loss_check : ℕ → Members → Check Fault
loss_check nodes t = table_check nodes loss_rows t >> loss_own_check (loss_of t)

abbrev pub loss_reading : ℕ → Members → Result Loss Fault
loss_reading nodes t = loss_check nodes t >> Ok (loss_of t)
