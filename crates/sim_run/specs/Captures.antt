-- The interfaces of a scenario whose packets are captured, and what lines save of them.
use Rattle.std.specs.Prelude.{ℕ, ◌≡◌, zero, suc, ◌+◌, ◌<◌, ◌^◌, Bool, true, false, ◌==◌, ◌&&◌, ◌||◌, if◌then◌else◌, List, [], ◌∷◌, ◌++◌, map, filter, codes}
use Rattle.std.specs.Fmt.{decimal}
use Rattle.std.specs.List.{AllByRecursion, list_any}
use Rattle.sim_base.specs.declared.key.NodeId.{NodeId}
use Rattle.sim_base.specs.Packet.{Packet}
use Rattle.pkt_face.specs.declared.line.Line.{Line}
use Rattle.pkt_face.specs.declared.line.Sign.{Sign}
use Rattle.pkt_face.specs.declared.line.Sign.TheVariants.{Enqueue, Dequeue, Drop, Receive, Save}
use Rattle.pcap_form.specs.Capture.{captured_packet}
use Rattle.scenario_form.specs.declared.scenario.Link.{Link}
use Rattle.scenario_form.specs.declared.scenario.Lan.{Lan}
use Rattle.scenario_form.specs.declared.scenario.Scenario.{Scenario}
use Rattle.sim_run.specs.declared.captures.Face.{Face}
use Rattle.sim_run.specs.declared.captures.Capture.{Capture}

-- ---- the captured interfaces

-- the link types of PPP and of Ethernet
abbrev pub ppp : ℕ
ppp = 9

abbrev pub ethernet : ℕ
ethernet = 1

-- whether a link has an end at a node, and whether a node is among the members of a LAN
abbrev pub ends_at : ℕ → Link → Bool
ends_at node l = (l.a.0 == node) || (l.b.0 == node)

abbrev pub is_joined : ℕ → List NodeId → Bool
is_joined node members = list_any (λ member. member.0 == node) members

abbrev pub link_face : Link → Face
link_face l = record { linktype = ppp; captured = l.pcap }

abbrev pub lan_face : Lan → Face
lan_face l = record { linktype = ethernet; captured = l.pcap }

-- the interfaces of a node, which are numbered from 0: its links in their order, then its LANs in theirs
abbrev pub faces_of : Scenario → ℕ → List Face
faces_of s node = map link_face (filter (ends_at node) s.links) ++ map lan_face (filter (λ l. is_joined node l.members) s.lans)

-- those of a node's interfaces that are captured, where the first has this number
abbrev pub captures_from : ℕ → ℕ → List Face → List Capture
captures_from node iface [] = []
captures_from node iface (f ∷ faces) =
    if f.captured
    then record { node = record { 0 = node }; iface = iface; linktype = f.linktype } ∷ captures_from node (iface + 1) faces
    else captures_from node (iface + 1) faces

-- the captured interfaces of the nodes below a number, by node and interface
abbrev pub captures_below : Scenario → ℕ → List Capture
captures_below s zero = []
captures_below s (suc node) = captures_below s node ++ captures_from node 0 (faces_of s node)

abbrev pub captures_of : Scenario → List Capture
captures_of s = captures_below s s.nodes

-- a capture whose numbers have 32 bits
pub record HasNumbers (c : Capture) : Type 0 where
  pub node : c.node.0 < 2 ^ 32
  pub iface : c.iface < 2 ^ 32

-- ---- their packets

abbrev pub capture_name : Capture → List ℕ
capture_name c = codes "trace-" ++ decimal c.node.0 ++ codes "-" ++ decimal c.iface ++ codes ".pcap"

abbrev pub is_save : Sign → Bool
is_save Enqueue = false
is_save Dequeue = false
is_save Drop = false
is_save Receive = false
is_save Save = true

-- whether a capture is that of an interface
abbrev pub is_of : ℕ → ℕ → Capture → Bool
is_of node iface c = (c.node.0 == node) && (c.iface == iface)

-- whether a line saves a packet of this interface
abbrev pub is_saved : Capture → Line Packet → Bool
is_saved c line = is_save line.sign && is_of line.node.0 line.iface c

-- a line as a captured packet, where it saves one of this interface
abbrev pub saved_packet : Capture → Line Packet → List ℕ
saved_packet c line = if is_saved c line then captured_packet line.key.time.0 line.packet.bytes else []

-- no two captures are of one interface
abbrev pub AreApart : List Capture → Type 0
AreApart [] = Unit {0}
AreApart (c ∷ captures) = AllByRecursion (λ other. is_of c.node.0 c.iface other ≡ false) captures × AreApart captures
