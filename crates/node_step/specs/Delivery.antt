-- A whole datagram for this node, on its way up to its protocol.
use Rattle.std.specs.Prelude.{fold, if◌then◌else◌, ◌==◌}
use Rattle.sim_base.specs.Packet.{Packet}
use Rattle.header_forms.specs.declared.ipv4.Ipv4.{Ipv4}
use Rattle.layer_words.specs.Acts.{Made}
use Rattle.ipv4_core.specs.declared.ip.In.TheVariants.{Send as SendByIp}
use Rattle.udp_icmp.specs.declared.ports.Act.{Act as PortsAct}
use Rattle.udp_icmp.specs.declared.ports.Act.TheVariants.{ToIp, ToApp, Report as ReportByPorts, Dropped}
use Rattle.udp_icmp.specs.declared.ports.In.{In as PortsIn}
use Rattle.udp_icmp.specs.declared.ports.In.TheVariants.{UdpArrive, IcmpArrive, Report}
use Rattle.udp_icmp.specs.Step.{step as ports_step}
use Rattle.traffic_apps.specs.declared.app.In.TheVariants.{Got}
use Rattle.tcp_flow.specs.declared.words.In.TheVariants.{Segment}
use Rattle.node_step.specs.Apps.{app_takes}
use Rattle.node_step.specs.Hearing.{conns_hear}
use Rattle.node_step.specs.Node.{Progress, dropped, now, with_numbers}
use Rattle.node_step.specs.Sending.{ip_sends, report}

-- what UDP and ICMP ask for when a packet has come: an answer goes down, a payload goes up, its source is told, or it is dropped
unfoldable pub carry_ports : Progress → PortsAct Packet → Progress
carry_ports p (ToIp src dst proto packet) = ip_sends (SendByIp src dst proto packet) p
carry_ports p (ToApp app src sport packet) = app_takes app (Got src sport packet) p
carry_ports p (ReportByPorts kind code head packet) = report head.src (Report kind code head packet) p
carry_ports p Dropped = dropped p

-- a step of UDP or ICMP, whose acts are carried out in order
abbrev pub stepped_ports : Made (PortsAct Packet) → Progress → Progress
stepped_ports made p = fold carry_ports (with_numbers made.numbers p) made.acts

-- UDP or ICMP takes a packet that has come
unfoldable pub ports_take : PortsIn Packet → Progress → Progress
ports_take input p = stepped_ports (ports_step p.node.ports p.node.numbers input) p

-- a whole datagram for this node goes to UDP, TCP or ICMP; where it is of another protocol, its source is told so, and it is dropped
unfoldable pub deliver_whole : Ipv4 → Packet → Progress → Progress
deliver_whole head packet p =
    if head.proto == 17 then ports_take (UdpArrive head packet) p
    else if head.proto == 6 then conns_hear (Segment (now p) (record { src = head.src; dst = head.dst; packet = packet })) p
    else if head.proto == 1 then ports_take (IcmpArrive head packet) p
    else dropped (report head.src (Report 3 2 head packet) p)
