-- Inputs and acts of an application, seen with plain packets.
use Rattle.sim_base.specs.Packet.{Packet}
use Rattle.traffic_apps.specs.declared.app.In.{In}
use Rattle.traffic_apps.specs.declared.app.In.TheVariants.{Tick, Got, Connected, Room, End, Reset}
use Rattle.traffic_apps.specs.declared.app.Act.{Act}
use Rattle.traffic_apps.specs.declared.app.Act.TheVariants.{UdpSend, PingSend, TickAt, Connect, Write, Close}

abbrev pub plain_in : {P : Type 0} → (P → Packet) → In P → In Packet
plain_in plain (Tick now) = Tick now
plain_in plain (Got src sport packet) = Got src sport (plain packet)
plain_in plain Connected = Connected
plain_in plain (Room free) = Room free
plain_in plain End = End
plain_in plain Reset = Reset

abbrev pub plain_act : {P : Type 0} → (P → Packet) → Act P → Act Packet
plain_act plain (UdpSend dst port packet) = UdpSend dst port (plain packet)
plain_act plain (PingSend dst rest packet) = PingSend dst rest (plain packet)
plain_act plain (TickAt at) = TickAt at
plain_act plain (Connect dst port mss) = Connect dst port mss
plain_act plain (Write bytes) = Write bytes
plain_act plain Close = Close
