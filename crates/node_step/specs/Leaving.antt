-- A packet that leaves a node: whole, or in fragments where it is longer than its link takes (RFC 791, section 3.2).
use Rattle.std.specs.Prelude.{ℕ, max, nat_lt, if◌then◌else◌, List, [], map, fold, Option, None, Some, slice_range}
use Rattle.sim_base.specs.Packet.{Packet, len, pop_front}
use Rattle.header_forms.specs.declared.ipv4.Ipv4.{Ipv4}
use Rattle.header_forms.specs.Ipv4.{ipv4_of}
use Rattle.frag_core.specs.Split.{fragments, with_head}
use Rattle.node_step.specs.Down.{send_packet}
use Rattle.node_step.specs.Node.{Progress}

-- each link takes packets of 68 bytes
abbrev pub least_mtu : ℕ
least_mtu = 68

-- the fragments of a packet behind its header, each with a header of its own
abbrev pub split_by : ℕ → Packet → Option Ipv4 → List Packet
split_by mtu packet None = []
split_by mtu packet (Some head) = map with_head (fragments head (pop_front 20 packet) (max mtu least_mtu))

-- the fragments of a packet that begins with a header
abbrev pub fragments_of : ℕ → Packet → List Packet
fragments_of mtu packet = split_by mtu packet (ipv4_of (slice_range packet.bytes 0 20))

-- one packet of several leaves
abbrev pub leaves : ℕ → ℕ → Progress → Packet → Progress
leaves iface hop p packet = send_packet iface hop packet p

-- packets leave by an interface for a neighbour, one after another
abbrev pub send_each : ℕ → ℕ → List Packet → Progress → Progress
send_each iface hop packets p = fold (leaves iface hop) p packets

-- a packet leaves by an interface, for a neighbour: in fragments, where it is longer than the MTU
unfoldable pub send_out : ℕ → ℕ → ℕ → Packet → Progress → Progress
send_out iface hop mtu packet p =
    if nat_lt mtu (len packet) then send_each iface hop (fragments_of mtu packet) p else send_packet iface hop packet p
