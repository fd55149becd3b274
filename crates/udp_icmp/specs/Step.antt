-- What UDP and ICMP do.
use Rattle.std.specs.Prelude.{◌≤◌, List, [], ◌∷◌}
use Rattle.sim_base.specs.declared.numbers.Numbers.{Numbers}
use Rattle.sim_base.specs.Packet.{Packet, len}
use Rattle.layer_words.specs.Acts.{Made}
use Rattle.udp_icmp.specs.declared.ports.In.{In}
use Rattle.udp_icmp.specs.declared.ports.In.TheVariants.{UdpSend, UdpArrive, PingSend, IcmpArrive, Report}
use Rattle.udp_icmp.specs.declared.ports.Act.{Act}
use Rattle.udp_icmp.specs.declared.ports.Act.TheVariants.{ToIp, ToApp, Report as ReportAct, Dropped}
use Rattle.udp_icmp.specs.Icmp.{ping_sent, icmp_arrived, reported}
use Rattle.udp_icmp.specs.Ports.{PlainPorts}
use Rattle.udp_icmp.specs.Udp.{udp_sent, udp_arrived}

abbrev pub with_numbers : Numbers → List (Act Packet) → Made (Act Packet)
with_numbers numbers acts = record { numbers = numbers; acts = acts }

abbrev pub step : PlainPorts → Numbers → In Packet → Made (Act Packet)
step ports numbers (UdpSend src sport dst port packet) = with_numbers numbers (udp_sent src sport dst port packet ∷ [])
step ports numbers (UdpArrive head packet) = with_numbers numbers (udp_arrived ports head packet)
step ports numbers (PingSend dst rest packet) = with_numbers numbers (ping_sent dst rest packet ∷ [])
step ports numbers (IcmpArrive head packet) = icmp_arrived ports head packet numbers
step ports numbers (Report kind code head packet) = reported kind code head packet numbers

-- payloads fit a datagram, and packets without their IPv4 header fit one too
abbrev pub CanTake : In Packet → Type 0
CanTake (UdpSend src sport dst port packet) = len packet ≤ 65507
CanTake (UdpArrive head packet) = len packet ≤ 65515
CanTake (PingSend dst rest packet) = len packet ≤ 65507
CanTake (IcmpArrive head packet) = len packet ≤ 65515
CanTake (Report kind code head packet) = Unit {0}

-- what goes to IPv4 fits a datagram, and what goes to an application fits one with its header
abbrev pub FitsDatagram : Act Packet → Type 0
FitsDatagram (ToIp src dst proto packet) = len packet ≤ 65515
FitsDatagram (ToApp app src sport packet) = len packet ≤ 65507
FitsDatagram (ReportAct kind code head packet) = len packet ≤ 65515
FitsDatagram Dropped = Unit {0}
