-- An application at work.
use Rattle.std.specs.Prelude.{ℕ, fold}
use Rattle.sim_base.specs.Packet.{Packet}
use Rattle.layer_words.specs.Acts.{Numbered}
use Rattle.ipv4_core.specs.Routes.{route, source}
use Rattle.traffic_apps.specs.declared.app.Act.{Act}
use Rattle.traffic_apps.specs.declared.app.Act.TheVariants.{UdpSend, PingSend, TickAt, Connect, Write, Close}
use Rattle.traffic_apps.specs.declared.app.In.{In}
use Rattle.udp_icmp.specs.declared.ports.In.TheVariants.{UdpSend as SendDatagram, PingSend as SendRequest}
use Rattle.tcp_flow.specs.declared.words.In.TheVariants.{Connect as OpenConnection, Write as WriteBytes, Close as CloseConnection}
use Rattle.node_step.specs.declared.loads.Load.TheVariants.{Tick}
use Rattle.node_step.specs.Asking.{conns_ask}
use Rattle.node_step.specs.Firing.{schedule}
use Rattle.node_step.specs.LocalApp.{PlainLocalApp, app_step}
use Rattle.node_step.specs.Node.{Progress, at_app, now, with_app, with_numbers, with_firing}
use Rattle.node_step.specs.Sending.{ports_send}

-- A datagram is sent from the application's port, and from the address of the interface that it leaves by; an echo request is
-- sent; a tick is scheduled; a connection is opened from the port and that address, written to, or closed
unfoldable pub carry_app : ℕ → ℕ → Progress → Act Packet → Progress
carry_app app port p (UdpSend dst to packet) =
    ports_send (SendDatagram (source (route dst p.node.ip.routes)) port dst to packet) p
carry_app app port p (PingSend dst rest packet) = ports_send (SendRequest dst rest packet) p
carry_app app port p (TickAt at) = with_firing (schedule at p.node.numbers.node (Tick app) p.firing) p
carry_app app port p (Connect dst to mss) =
    conns_ask (OpenConnection (now p) app (source (route dst p.node.ip.routes)) port dst to mss) p
carry_app app port p (Write bytes) = conns_ask (WriteBytes (now p) app bytes) p
carry_app app port p Close = conns_ask (CloseConnection (now p) app) p

-- an application after a step of its own, whose acts are carried out in order
abbrev pub stepped_app : ℕ → Numbered PlainLocalApp (Act Packet) → Progress → Progress
stepped_app app s p = fold (carry_app app s.state.port) (with_numbers s.numbers (with_app app s.state p)) s.acts

-- an application takes an input
unfoldable pub app_takes : ℕ → In Packet → Progress → Progress
app_takes app input p = at_app app (λ a. stepped_app app (app_step a p.node.numbers input) p) p

-- an application after a step that asks for nothing
abbrev pub counted_app : ℕ → Numbered PlainLocalApp (Act Packet) → Progress → Progress
counted_app app s p = with_numbers s.numbers (with_app app s.state p)

-- an application counts what it is handed of a stream, and asks for nothing then
unfoldable pub app_counts : ℕ → In Packet → Progress → Progress
app_counts app input p = at_app app (λ a. counted_app app (app_step a p.node.numbers input) p) p
