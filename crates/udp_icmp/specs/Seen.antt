-- Inputs and acts of UDP and ICMP, seen with plain packets.
use Rattle.sim_base.specs.Packet.{Packet}
use Rattle.udp_icmp.specs.declared.ports.In.{In}
use Rattle.udp_icmp.specs.declared.ports.In.TheVariants.{UdpSend, UdpArrive, PingSend, IcmpArrive, Report}
use Rattle.udp_icmp.specs.declared.ports.Act.{Act}
use Rattle.udp_icmp.specs.declared.ports.Act.TheVariants.{ToIp, ToApp, Report as ReportAct, Dropped}

abbrev pub plain_in : {P : Type 0} → (P → Packet) → In P → In Packet
plain_in plain (UdpSend src sport dst port packet) = UdpSend src sport dst port (plain packet)
plain_in plain (UdpArrive head packet) = UdpArrive head (plain packet)
plain_in plain (PingSend dst rest packet) = PingSend dst rest (plain packet)
plain_in plain (IcmpArrive head packet) = IcmpArrive head (plain packet)
plain_in plain (Report kind code head packet) = Report kind code head (plain packet)

abbrev pub plain_act : {P : Type 0} → (P → Packet) → Act P → Act Packet
plain_act plain (ToIp src dst proto packet) = ToIp src dst proto (plain packet)
plain_act plain (ToApp app src sport packet) = ToApp app src sport (plain packet)
plain_act plain (ReportAct kind code head packet) = ReportAct kind code head (plain packet)
plain_act plain Dropped = Dropped
