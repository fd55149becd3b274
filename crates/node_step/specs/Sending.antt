-- What a node sends on its way down through UDP or ICMP and IPv4.
use Rattle.std.specs.Prelude.{ℕ, Option, None, Some, fold}
use Rattle.sim_base.specs.Packet.{Packet}
use Rattle.layer_words.specs.Acts.{Made}
use Rattle.ipv4_core.specs.declared.ip.Act.{Act as IpAct}
use Rattle.ipv4_core.specs.declared.ip.Act.TheVariants.{Out, Local, Report as ReportByIp, Dropped as DroppedByIp}
use Rattle.ipv4_core.specs.declared.ip.In.{In as IpIn}
use Rattle.ipv4_core.specs.declared.ip.In.TheVariants.{Send}
use Rattle.ipv4_core.specs.declared.routes.Hop.{Hop}
use Rattle.ipv4_core.specs.Ip.{step as ip_step}
use Rattle.ipv4_core.specs.Routes.{hop, route}
use Rattle.udp_icmp.specs.declared.ports.Act.{Act as PortsAct}
use Rattle.udp_icmp.specs.declared.ports.Act.TheVariants.{ToIp, ToApp, Report as ReportByPorts, Dropped}
use Rattle.udp_icmp.specs.declared.ports.In.{In as PortsIn}
use Rattle.udp_icmp.specs.Step.{step as ports_step}
use Rattle.node_step.specs.Node.{Progress, with_numbers, dropped}
use Rattle.node_step.specs.Leaving.{send_out}

-- what IPv4 asks for when it sends: a packet leaves, or is dropped
unfoldable pub carry_sent : Progress → IpAct Packet → Progress
carry_sent p (Out iface neighbour mtu packet) = send_out iface neighbour mtu packet p
carry_sent p (Local head packet) = p
carry_sent p (ReportByIp kind code head packet) = p
carry_sent p DroppedByIp = dropped p

-- a step of IPv4 that sends, whose acts are carried out in order
abbrev pub stepped_sent : Made (IpAct Packet) → Progress → Progress
stepped_sent made p = fold carry_sent (with_numbers made.numbers p) made.acts

-- IPv4 sends what is given to it
unfoldable pub ip_sends : IpIn Packet → Progress → Progress
ip_sends input p = stepped_sent (ip_step p.node.ip p.node.numbers input) p

-- what UDP and ICMP ask for when they send: a packet goes to IPv4, or is dropped
unfoldable pub carry_to_ip : Progress → PortsAct Packet → Progress
carry_to_ip p (ToIp src dst proto packet) = ip_sends (Send src dst proto packet) p
carry_to_ip p (ToApp app src sport packet) = p
carry_to_ip p (ReportByPorts kind code head packet) = p
carry_to_ip p Dropped = dropped p

-- a step of UDP or ICMP that sends, whose acts are carried out in order
abbrev pub stepped_to_ip : Made (PortsAct Packet) → Progress → Progress
stepped_to_ip made p = fold carry_to_ip (with_numbers made.numbers p) made.acts

-- UDP or ICMP sends what is given to it
unfoldable pub ports_send : PortsIn Packet → Progress → Progress
ports_send input p = stepped_to_ip (ports_step p.node.ports p.node.numbers input) p

abbrev pub report_by : PortsIn Packet → Progress → Option Hop → Progress
report_by input p None = p
report_by input p (Some way_back) = ports_send input p

-- the source of a packet is told what became of it, unless no route leads to the source
unfoldable pub report : ℕ → PortsIn Packet → Progress → Progress
report src input p = report_by input p (hop src (route src p.node.ip.routes))
