-- The demo: a tree of nodes that all send to its root. Node k hangs on node (k - 1) / 2 by a network of its own, 10.x.y.0/24, where
-- x and y are the quotient and the rest of (k - 1) by 256.
use Rattle.std.specs.Prelude.{ℕ, ◌+◌, ◌-◌, ◌*◌, ◌/◌, ◌%◌, false, List, [], ◌∷◌, ◌++◌, map, Some, None}
use Rattle.std.specs.List.{range_with_len}
use Rattle.scenario_form.specs.declared.scenario.App.{App}
use Rattle.scenario_form.specs.declared.scenario.Kind.{Kind}
use Rattle.scenario_form.specs.declared.scenario.Kind.TheVariants.{UdpSend, UdpSink, TcpSink, TcpBulk}
use Rattle.scenario_form.specs.declared.scenario.Link.{Link}
use Rattle.scenario_form.specs.declared.scenario.Queue.TheVariants.{Fifo}
use Rattle.scenario_form.specs.declared.scenario.Routing.TheVariants.{Auto}
use Rattle.scenario_form.specs.declared.scenario.Scenario.{Scenario}

-- the address a.b.c.d
abbrev pub address : ℕ → ℕ → ℕ → ℕ → ℕ
address a b c d = ((a * 256 + b) * 256 + c) * 256 + d

-- the link by which node k, from 1, hangs on node (k - 1) / 2: 10 Mbit/s, and a delay of 1 ms and up to 6 µs more
abbrev pub link_of : ℕ → Link
link_of k = record {
  a = record { 0 = (k - 1) / 2 };
  b = record { 0 = k };
  a_addr = address 10 ((k - 1) / 256) ((k - 1) % 256) 1;
  b_addr = address 10 ((k - 1) / 256) ((k - 1) % 256) 2;
  prefix = 24;
  rate_bps = record { 0 = 10000000 };
  delay_ns = record { 0 = 1000000 + 1000 * (k % 7) };
  mtu = 1500;
  cost = 1;
  queue = Fifo;
  limit = 100;
  tbf_bps = None;
  tbf_burst = None;
  pcap = false;
}

-- an application with the numbers that stand where a document says nothing
abbrev pub default_app : Kind → ℕ → ℕ → App
default_app kind node port = record {
  kind = kind;
  node = record { 0 = node };
  port = Some port;
  dst = None;
  start_ns = record { 0 = 0 };
  count = 1;
  interval_ns = record { 0 = 1000000000 };
  size = 512;
  priority = 0;
  rate_bps = None;
  on_ns = None;
  off_ns = None;
  bytes = None;
  mss = 536;
}

-- node k sends ten datagrams of 500 bytes to node 0, one each 10 ms, from k ms on
abbrev pub sender : ℕ → App
sender k = record (default_app UdpSend k 9) {
  dst = Some (address 10 0 0 1);
  start_ns = record { 0 = k * 1000000 };
  count = 10;
  interval_ns = record { 0 = 10000000 };
  size = 500;
  priority = k % 16;
}

-- the last node sends a stream of 20,000 bytes to node 0, from 5 ms on
abbrev pub bulk : ℕ → App
bulk n = record (default_app TcpBulk n 80) { dst = Some (address 10 0 0 1); start_ns = record { 0 = 5000000 }; bytes = Some 20000 }

-- the sinks of node 0, the senders, and the stream
abbrev pub apps_of : ℕ → List App
apps_of n = (default_app UdpSink 0 9 ∷ default_app TcpSink 0 80 ∷ map sender (range_with_len 1 n)) ++ bulk n ∷ []

-- nodes 0 to n for 5 s, with routes that are found by cost
abbrev pub demo_of : ℕ → Scenario
demo_of n = record {
  format = 1;
  nodes = n + 1;
  stop_ns = record { 0 = 5000000000 };
  seed = 1;
  events_per_node = 1000000;
  routing = Auto;
  ascii = false;
  groups = None;
  links = map link_of (range_with_len 1 n);
  lans = [];
  routes = [];
  apps = apps_of n;
  losses = [];
}
