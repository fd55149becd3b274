-- The applications of a node, and their ports.
use Rattle.std.specs.Prelude.{ℕ, ◌+◌, ◌%◌, ◌^◌, ◌≤◌, Bool, true, false, if◌then◌else◌, List, [], ◌∷◌, Option, None, Some, unwrap_or, IfSome}
use Rattle.std.specs.Ordering.{nat_cmp}
use Rattle.std.specs.BTreeMap.{insert_entry}
use Rattle.traffic_apps.specs.declared.kind.AppKind.{AppKind}
use Rattle.traffic_apps.specs.declared.kind.AppKind.TheVariants as does
use Rattle.traffic_apps.specs.declared.kind.Schedule.{Schedule}
use Rattle.traffic_apps.specs.App.{idle, on_off}
use Rattle.tcp_flow.specs.Conns.{PlainConns, listens, no_conns}
use Rattle.udp_icmp.specs.Ports.{PlainPorts}
use Rattle.scenario_form.specs.declared.scenario.App.{App}
use Rattle.scenario_form.specs.declared.scenario.Kind.{Kind}
use Rattle.scenario_form.specs.declared.scenario.Kind.TheVariants.{UdpSend, UdpEchoClient, UdpSink, UdpEchoServer, TcpSink, OnOff, Ping, TcpBulk}
use Rattle.node_step.specs.LocalApp.{PlainLocalApp}
use Rattle.sim_world.specs.declared.apps.Listed.{Listed}
use Rattle.sim_world.specs.declared.apps.Installed.{Installed}

-- applications with their numbers in the scenario
abbrev pub listed_from : ℕ → List App → List Listed
listed_from number [] = []
listed_from number (a ∷ apps) = record { number = number; app = a } ∷ listed_from (number + 1) apps

abbrev pub node_of : Listed → ℕ
node_of l = l.app.node.0

-- ---- what an application does

abbrev pub schedule_of : App → Schedule
schedule_of a = record { size = a.size; count = a.count; interval = a.interval_ns; priority = a.priority }

abbrev pub dst_of : App → ℕ
dst_of a = unwrap_or a.dst 0

abbrev pub port_of : App → ℕ
port_of a = unwrap_or a.port 0

-- one that is on and off in turn, with the rate and the times that it names
abbrev pub on_off_of : App → AppKind
on_off_of a =
    on_off (dst_of a) (port_of a) a.size a.count a.priority (unwrap_or a.rate_bps (record { 0 = 1 })) (unwrap_or a.on_ns (record { 0 = 0 }))
    (unwrap_or a.off_ns (record { 0 = 0 }))

-- what an application of a kind does, if that is built
abbrev pub kind_of : Kind → App → Option AppKind
kind_of UdpSend a = Some (does.UdpSend (dst_of a) (port_of a) (schedule_of a))
kind_of UdpSink a = Some does.UdpSink
kind_of UdpEchoClient a = Some (does.UdpEchoClient (dst_of a) (port_of a) (schedule_of a))
kind_of UdpEchoServer a = Some does.UdpEchoServer
kind_of Ping a = Some (does.Ping (dst_of a) (schedule_of a))
kind_of TcpSink a = Some does.TcpSink
kind_of OnOff a = Some (on_off_of a)
kind_of TcpBulk a = Some (does.TcpBulk (dst_of a) (port_of a) (unwrap_or a.bytes 0) a.mss)

-- ---- ports

-- the first of the ports from which the active applications of UDP and TCP send, each from its own
abbrev pub first_port : ℕ
first_port = 49153

-- how many such ports an application takes
abbrev pub ports_taken : Kind → ℕ
ports_taken UdpSend = 1
ports_taken UdpEchoClient = 1
ports_taken OnOff = 1
ports_taken TcpBulk = 1
ports_taken UdpSink = 0
ports_taken UdpEchoServer = 0
ports_taken TcpSink = 0
ports_taken Ping = 0

-- the port that an application listens on or sends from, where those before it took so many; a `ping` has none
abbrev pub own_port : ℕ → Kind → App → ℕ
own_port taken UdpSink a = port_of a
own_port taken UdpEchoServer a = port_of a
own_port taken TcpSink a = port_of a
own_port taken UdpSend a = first_port + taken
own_port taken UdpEchoClient a = first_port + taken
own_port taken OnOff a = first_port + taken
own_port taken TcpBulk a = first_port + taken
own_port taken Ping a = 0

-- ---- the applications of a node

abbrev pub installed_as : ℕ → Listed → Option AppKind → List Installed → List Installed
installed_as taken l None more = more
installed_as taken l (Some kind) more =
    record { number = l.number; kind = kind; port = own_port taken l.app.kind l.app; start = l.app.start_ns } ∷ more

-- the applications that a node lists, where those before them took so many ports
abbrev pub installed_from : ℕ → List Listed → List Installed
installed_from taken [] = []
installed_from taken (l ∷ more) =
    installed_as taken l (kind_of l.app.kind l.app) (installed_from (taken + ports_taken l.app.kind) more)

-- an application that has sent and got nothing
abbrev pub local_app : Installed → PlainLocalApp
local_app i = record { app = idle i.number i.kind; port = i.port }

abbrev pub is_ping : AppKind → Bool
is_ping (does.Ping dst schedule) = true
is_ping (does.UdpSend dst port schedule) = false
is_ping does.UdpSink = false
is_ping (does.UdpEchoClient dst port schedule) = false
is_ping does.UdpEchoServer = false
is_ping (does.OnOff dst port schedule on off) = false
is_ping (does.TcpBulk dst port bytes mss) = false
is_ping does.TcpSink = false

abbrev pub is_udp : AppKind → Bool
is_udp (does.UdpSend dst port schedule) = true
is_udp does.UdpSink = true
is_udp (does.UdpEchoClient dst port schedule) = true
is_udp does.UdpEchoServer = true
is_udp (does.OnOff dst port schedule on off) = true
is_udp (does.TcpBulk dst port bytes mss) = false
is_udp does.TcpSink = false
is_udp (does.Ping dst schedule) = false

-- what takes connections at its port
abbrev pub is_listener : AppKind → Bool
is_listener does.TcpSink = true
is_listener other = false

-- an application is found at its port, by its place at the node; a `ping` by its number
abbrev pub with_port : List (ℕ × ℕ) → Installed → ℕ → List (ℕ × ℕ)
with_port udp i place = if is_udp i.kind then insert_entry nat_cmp udp i.port place else udp

abbrev pub with_ping : List (ℕ × ℕ) → Installed → ℕ → List (ℕ × ℕ)
with_ping pings i place = if is_ping i.kind then insert_entry nat_cmp pings (i.number % 2 ^ 16) place else pings

abbrev pub udp_from : ℕ → List (ℕ × ℕ) → List Installed → List (ℕ × ℕ)
udp_from place udp [] = udp
udp_from place udp (i ∷ more) = udp_from (place + 1) (with_port udp i place) more

abbrev pub pings_from : ℕ → List (ℕ × ℕ) → List Installed → List (ℕ × ℕ)
pings_from place pings [] = pings
pings_from place pings (i ∷ more) = pings_from (place + 1) (with_ping pings i place) more

abbrev pub ports_of : List Installed → PlainPorts
ports_of apps = record { udp = udp_from 0 [] apps; pings = pings_from 0 [] apps }

abbrev pub with_listener : PlainConns → Installed → ℕ → PlainConns
with_listener conns i place = if is_listener i.kind then listens place i.port conns else conns

abbrev pub conns_from : ℕ → PlainConns → List Installed → PlainConns
conns_from place conns [] = conns
conns_from place conns (i ∷ more) = conns_from (place + 1) (with_listener conns i place) more

-- a node has no connection at first, and applications that take connections
abbrev pub conns_of : List Installed → PlainConns
conns_of apps = conns_from 0 no_conns apps

-- `on-off` sends at least one byte
abbrev pub HasBytes : Kind → ℕ → Type 0
HasBytes OnOff size = 1 ≤ size
HasBytes _ size = Unit {0}

-- an application whose numbers are within the limits
pub record IsWithin (a : App) : Type 0 where
  pub port : IfSome a.port (λ port. port ≤ 49152)
  pub size : a.size ≤ 65507
  pub count : a.count ≤ 1000000000
  pub some_interval : 1 ≤ a.interval_ns.0
  pub interval : a.interval_ns.0 ≤ 1000000000000
  pub some_bytes : HasBytes a.kind a.size
  pub rate_bps : IfSome a.rate_bps (λ rate. (1 ≤ rate.0) × (rate.0 ≤ 1000000000000))
  pub on_ns : IfSome a.on_ns (λ on. on.0 ≤ 1000000000000)
  pub off_ns : IfSome a.off_ns (λ off. off.0 ≤ 1000000000000)
  pub bytes : IfSome a.bytes (λ bytes. bytes ≤ 1073741824)
  pub least_mss : 64 ≤ a.mss
  pub greatest_mss : a.mss ≤ 9000

abbrev pub IsListed : Listed → Type 0
IsListed l = IsWithin l.app
