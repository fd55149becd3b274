-- A frame on its way up, through its interface and IPv4, to reassembly or its protocol.
use Rattle.std.specs.Prelude.{ℕ, fold, if◌then◌else◌}
use Rattle.sim_base.specs.Packet.{Packet}
use Rattle.header_forms.specs.declared.ipv4.Ipv4.{Ipv4}
use Rattle.layer_words.specs.Acts.{Made}
use Rattle.frag_core.specs.declared.words.In.TheVariants.{Piece}
use Rattle.iface_step.specs.declared.words.Act.{Act as IfaceAct}
use Rattle.iface_step.specs.declared.words.Act.TheVariants.{Schedule, Write, Up, Dropped as DroppedBelow}
use Rattle.iface_step.specs.declared.words.Happening.{Happening}
use Rattle.iface_step.specs.declared.words.In.TheVariants.{Happens}
use Rattle.ipv4_core.specs.declared.ip.Act.{Act as IpAct}
use Rattle.ipv4_core.specs.declared.ip.Act.TheVariants.{Out, Local, Report as ReportByIp, Dropped as DroppedByIp}
use Rattle.ipv4_core.specs.declared.ip.In.{In as IpIn}
use Rattle.ipv4_core.specs.declared.ip.In.TheVariants.{Arrive as ArriveAtIp}
use Rattle.ipv4_core.specs.Ip.{is_fragment, step as ip_step}
use Rattle.udp_icmp.specs.declared.ports.In.TheVariants.{Report}
use Rattle.node_step.specs.Delivery.{deliver_whole}
use Rattle.node_step.specs.Down.{IfaceStepped, carry_down, step_at}
use Rattle.node_step.specs.Leaving.{send_out}
use Rattle.node_step.specs.Node.{Progress, dropped, now, with_numbers}
use Rattle.node_step.specs.Reassembly.{frags_take}
use Rattle.node_step.specs.Sending.{report}

-- a packet for this node goes to its protocol, and a fragment to reassembly
unfoldable pub deliver : Ipv4 → Packet → Progress → Progress
deliver head packet p =
    if is_fragment head then frags_take (Piece (now p) head packet) p else deliver_whole head packet p

-- what IPv4 asks for when a packet has come: it goes on, or up, its source is told, or it is dropped
unfoldable pub carry_ip : Progress → IpAct Packet → Progress
carry_ip p (Out iface neighbour mtu packet) = send_out iface neighbour mtu packet p
carry_ip p (Local head packet) = deliver head packet p
carry_ip p (ReportByIp kind code head packet) = report head.src (Report kind code head packet) p
carry_ip p DroppedByIp = dropped p

-- a step of IPv4, whose acts are carried out in order
abbrev pub stepped_ip : Made (IpAct Packet) → Progress → Progress
stepped_ip made p = fold carry_ip (with_numbers made.numbers p) made.acts

-- IPv4 takes a packet that has come
unfoldable pub ip_takes : IpIn Packet → Progress → Progress
ip_takes input p = stepped_ip (ip_step p.node.ip p.node.numbers input) p

-- what an interface asks for when something has happened at it: a packet goes to IPv4, and the rest is as when it sends
unfoldable pub carry_up : ℕ → Progress → IfaceAct Packet → Progress
carry_up iface p (Schedule at to what) = carry_down iface p (Schedule at to what)
carry_up iface p (Write sign frame) = carry_down iface p (Write sign frame)
carry_up iface p (Up packet) = ip_takes (ArriveAtIp packet) p
carry_up iface p DroppedBelow = carry_down iface p DroppedBelow

-- an interface after a step, whose acts are carried out in order
abbrev pub stepped_up : ℕ → IfaceStepped → Progress
stepped_up iface s = fold (carry_up iface) s.progress s.acts

-- something happens at an interface
unfoldable pub iface_happens : ℕ → Happening Packet → Progress → Progress
iface_happens iface what p = stepped_up iface (step_at iface (Happens (now p) what) p)
