-- The limits that an accepted scenario keeps.
use Rattle.std.specs.Prelude.{◌≡◌, ◌≢◌, ℕ, ◌≤◌, ◌<◌, true, List, [], ◌∷◌, length, All, IfSome, IsSome, Ok, codes}
use Rattle.toml.specs.Data.{Members}
use Rattle.sim_base.specs.declared.key.NodeId.{NodeId}
use Rattle.sim_base.specs.declared.time.Time.{Time}
use Rattle.sim_base.specs.declared.time.Rate.{Rate}
use Rattle.scenario_form.specs.declared.scenario.Link.{Link}
use Rattle.scenario_form.specs.declared.scenario.Lan.{Lan}
use Rattle.scenario_form.specs.declared.scenario.Route.{Route}
use Rattle.scenario_form.specs.declared.scenario.App.{App}
use Rattle.scenario_form.specs.declared.scenario.Kind.{Kind}
use Rattle.scenario_form.specs.declared.scenario.Kind.TheVariants.{UdpSend, UdpEchoClient, UdpSink, UdpEchoServer, TcpSink, OnOff, Ping, TcpBulk}
use Rattle.scenario_form.specs.declared.scenario.Loss.{Loss}
use Rattle.scenario_form.specs.declared.scenario.Scenario.{Scenario}
use Rattle.scenario_form.specs.Values.{tables_at}
use Rattle.scenario_form.specs.Networks.{share_network, host_part}
use Rattle.scenario_form.specs.Across.{across_check}

-- a document has no more tables than a scenario may have
pub record IsCounted (t : Members) : Type 0 where
  pub links : length (tables_at (codes "link") t) ≤ 4000
  pub lans : length (tables_at (codes "lan") t) ≤ 200
  pub routes : length (tables_at (codes "route") t) ≤ 10000
  pub apps : length (tables_at (codes "app") t) ≤ 4000
  pub losses : length (tables_at (codes "loss") t) ≤ 1000

-- the same of a scenario
pub record HasFew (s : Scenario) : Type 0 where
  pub links : length s.links ≤ 4000
  pub lans : length s.lans ≤ 200
  pub routes : length s.routes ≤ 10000
  pub apps : length s.apps ≤ 4000
  pub losses : length s.losses ≤ 1000

-- a number from the least to the most
pub record IsFromTo (least most n : ℕ) : Type 0 where
  pub from : least ≤ n
  pub to : n ≤ most

-- a rate that a scenario may have
abbrev pub IsRate : Rate → Type 0
IsRate r = IsFromTo 1 1000000000000 r.0

-- a time that a scenario may have, from so many nanoseconds on
abbrev pub IsTimeFrom : ℕ → Time → Type 0
IsTimeFrom least t = IsFromTo least 1000000000000 t.0

-- a link's numbers, where there are so many nodes: it joins two of them, and its addresses are hosts of one network
pub record IsLink (nodes : ℕ) (l : Link) : Type 0 where
  pub a : l.a.0 < nodes
  pub b : l.b.0 < nodes
  pub apart : l.a.0 ≢ l.b.0
  pub network : share_network l.prefix (l.a_addr ∷ l.b_addr ∷ []) ≡ true
  pub prefix : IsFromTo 8 30 l.prefix
  pub rate_bps : IsRate l.rate_bps
  pub delay_ns : IsTimeFrom 0 l.delay_ns
  pub mtu : IsFromTo 68 65535 l.mtu
  pub cost : IsFromTo 1 65535 l.cost
  pub limit : IsFromTo 1 100000 l.limit
  pub tbf_bps : IfSome l.tbf_bps IsRate
  pub tbf_burst : IfSome l.tbf_burst (IsFromTo 1 1000000000)

-- a LAN's members and numbers
pub record IsLan (nodes : ℕ) (l : Lan) : Type 0 where
  pub members : IsFromTo 2 200 (length l.members)
  pub below : All (λ member. member.0 < nodes) l.members
  pub addrs : length l.addrs ≡ length l.members
  pub prefix : IsFromTo 8 30 l.prefix
  pub rate_bps : IsRate l.rate_bps
  pub delay_ns : IsTimeFrom 0 l.delay_ns
  pub mtu : IsFromTo 68 65535 l.mtu
  pub cost : IsFromTo 1 65535 l.cost
  pub limit : IsFromTo 1 100000 l.limit
  pub tbf_bps : IfSome l.tbf_bps IsRate
  pub tbf_burst : IfSome l.tbf_burst (IsFromTo 1 1000000000)

-- a route's numbers; its destination has no bit beyond the prefix
pub record IsRoute (nodes : ℕ) (r : Route) : Type 0 where
  pub node : r.node.0 < nodes
  pub prefix : IsFromTo 0 30 r.prefix
  pub dest : host_part r.prefix r.dest ≡ 0

-- what a kind of application asks for and has no default; `on-off` sends at least one byte
abbrev pub HasKeys : Kind → App → Type 0
HasKeys UdpSend a = IsSome a.port × IsSome a.dst
HasKeys UdpEchoClient a = IsSome a.port × IsSome a.dst
HasKeys UdpSink a = IsSome a.port
HasKeys UdpEchoServer a = IsSome a.port
HasKeys TcpSink a = IsSome a.port
HasKeys OnOff a = IsSome a.port × IsSome a.dst × IsSome a.rate_bps × IsSome a.on_ns × IsSome a.off_ns × (1 ≤ a.size)
HasKeys Ping a = IsSome a.dst
HasKeys TcpBulk a = IsSome a.port × IsSome a.dst × IsSome a.bytes

-- an application's numbers, of which its kind may lack some, but none that it asks for
pub record IsApp (nodes : ℕ) (a : App) : Type 0 where
  pub node : a.node.0 < nodes
  pub keys : HasKeys a.kind a
  pub port : IfSome a.port (IsFromTo 1 49152)
  pub start_ns : IsTimeFrom 0 a.start_ns
  pub count : IsFromTo 1 1000000000 a.count
  pub interval_ns : IsTimeFrom 1 a.interval_ns
  pub size : IsFromTo 0 65507 a.size
  pub priority : IsFromTo 0 15 a.priority
  pub rate_bps : IfSome a.rate_bps IsRate
  pub on_ns : IfSome a.on_ns (IsTimeFrom 1)
  pub off_ns : IfSome a.off_ns (IsTimeFrom 0)
  pub bytes : IfSome a.bytes (IsFromTo 0 1073741824)
  pub mss : IsFromTo 64 9000 a.mss

-- numbers up to a most one, each above the one before
abbrev pub AreRising : ℕ → ℕ → List ℕ → Type 0
AreRising before most [] = Unit {0}
AreRising before most (n ∷ ns) = (before < n) × (n ≤ most) × AreRising n most ns

-- a loss's numbers
pub record IsLoss (nodes : ℕ) (l : Loss) : Type 0 where
  pub node : l.node.0 < nodes
  pub frames : IfSome l.frames (AreRising 0 1000000000)
  pub millionths : IfSome l.millionths (IsFromTo 0 1000000)

-- a group of nodes, at least one
pub record IsGroup (nodes : ℕ) (group : List NodeId) : Type 0 where
  pub some : 1 ≤ length group
  pub below : All (λ member. member.0 < nodes) group

-- a scenario within the limits, whose addresses, networks, routes, applications and losses fit each other
pub record IsWithinLimits (s : Scenario) : Type 0 where
  pub nodes : IsFromTo 1 1000 s.nodes
  pub stop_ns : IsTimeFrom 0 s.stop_ns
  pub seed : IsFromTo 0 9007199254740992 s.seed
  pub events_per_node : IsFromTo 1 1000000000 s.events_per_node
  pub groups : IfSome s.groups (All (IsGroup s.nodes))
  pub few : HasFew s
  pub links : All (IsLink s.nodes) s.links
  pub lans : All (IsLan s.nodes) s.lans
  pub routes : All (IsRoute s.nodes) s.routes
  pub apps : All (IsApp s.nodes) s.apps
  pub losses : All (IsLoss s.nodes) s.losses
  pub across : across_check s ≡ Ok tt
