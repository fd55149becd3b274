-- The first ticks of a node's applications.
use Rattle.std.specs.Prelude.{ℕ, ◌+◌, Bool, true, false, if◌then◌else◌, List, [], ◌∷◌, count_by}
use Rattle.sim_base.specs.declared.key.NodeId.{NodeId}
use Rattle.sim_base.specs.declared.time.Time.{Time}
use Rattle.sim_base.specs.Packet.{Packet}
use Rattle.traffic_apps.specs.declared.kind.AppKind.{AppKind}
use Rattle.traffic_apps.specs.declared.kind.AppKind.TheVariants.{UdpSend, UdpSink, UdpEchoClient, UdpEchoServer, OnOff, TcpBulk, TcpSink, Ping}
use Rattle.node_step.specs.declared.loads.Event.{Event}
use Rattle.node_step.specs.declared.loads.Load.TheVariants.{Tick}
use Rattle.sim_world.specs.declared.apps.Installed.{Installed}

-- what sends by itself
abbrev pub is_active : AppKind → Bool
is_active (UdpSend dst port schedule) = true
is_active (UdpEchoClient dst port schedule) = true
is_active (OnOff dst port schedule on off) = true
is_active (Ping dst schedule) = true
is_active UdpSink = false
is_active (TcpBulk dst port bytes mss) = true
is_active UdpEchoServer = false
is_active TcpSink = false

-- a tick that a node schedules for itself before the run: for the application at this place, at its start
abbrev pub tick : NodeId → ℕ → ℕ → Time → Event Packet
tick node place count start = record {
  key = record { time = start; node = node; sent = record { 0 = 0 }; by = node; count = count };
  load = Tick place;
}

-- one for each active application, numbered in their order; the places and the numbers go on from these
abbrev pub ticks_from : NodeId → ℕ → ℕ → List Installed → List (Event Packet)
ticks_from node place count [] = []
ticks_from node place count (i ∷ more) =
    if is_active i.kind
    then tick node place count i.start ∷ ticks_from node (place + 1) (count + 1) more
    else ticks_from node (place + 1) count more

abbrev pub ticks_of : NodeId → List Installed → List (Event Packet)
ticks_of node apps = ticks_from node 0 0 apps

-- how many they are
abbrev pub tick_count : List Installed → ℕ
tick_count apps = count_by (λ i. is_active i.kind) apps
