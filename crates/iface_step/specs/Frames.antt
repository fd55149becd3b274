-- How a packet becomes a frame: of PPP on a link (RFC 1661, section 2), of Ethernet on a LAN (IEEE 802.3, section 3.1.1).
use Rattle.std.specs.Prelude.{ℕ, ◌-◌, nat_lt, List, [], ◌∷◌, replicate, if◌then◌else◌}
use Rattle.sim_base.specs.declared.item.Kind.TheVariants.{Ppp, Ethernet as EthernetItem, Trailer, Pad, Arp as ArpItem}
use Rattle.sim_base.specs.declared.numbers.Uid.{Uid}
use Rattle.sim_base.specs.Packet.{Packet, len, from_bytes, push_back, push_front}
use Rattle.header_forms.specs.declared.arp.Arp.{Arp}
use Rattle.header_forms.specs.Arp.{arp_bytes}
use Rattle.header_forms.specs.Link.{ethernet_bytes}

-- the numbers of IPv4 on a link (RFC 1332, section 2), and of IPv4 and ARP on a LAN (RFC 894; RFC 826)
abbrev pub ip_on_link : ℕ
ip_on_link = 0x21

abbrev pub ip_on_lan : ℕ
ip_on_lan = 0x800

abbrev pub arp_on_lan : ℕ
arp_on_lan = 0x806

-- IPv4's number goes in front
abbrev pub link_frame : Packet → Packet
link_frame packet = push_front Ppp (0 ∷ 0x21 ∷ []) packet

-- A frame of a LAN has 46 bytes of data or more: zeros are put behind fewer (IEEE 802.3, section 3.2.8). They belong to the frame, and no
-- length of IPv4 counts them (RFC 894)
abbrev pub padded : Packet → Packet
padded packet = if nat_lt (len packet) 46 then push_back Pad (replicate (46 - len packet) 0) packet else packet

-- destination, source and protocol go in front, and four zeros behind stand for the frame check sequence (IEEE 802.3, section 3.2.9)
abbrev pub lan_frame : List ℕ → List ℕ → ℕ → Packet → Packet
lan_frame to from proto packet =
    push_front EthernetItem (ethernet_bytes (record { dst = to; src = from; proto = proto }))
    (push_back Trailer (0 ∷ 0 ∷ 0 ∷ 0 ∷ []) (padded packet))

-- a message of address resolution is a new packet (RFC 826, packet format)
abbrev pub message : Uid → Arp → Packet
message uid arp = push_front ArpItem (arp_bytes arp) (from_bytes uid [])
