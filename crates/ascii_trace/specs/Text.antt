-- The text of a trace: a line for each line that isn't of a capture.
use Rattle.std.specs.Prelude.{ℕ, ◌&&◌, ◌==◌, List, [], ◌++◌, codes, if◌then◌else◌}
use Rattle.std.specs.List.{flat_map}
use Rattle.std.specs.Fmt.{decimal}
use Rattle.sim_base.specs.declared.item.Item.{Item}
use Rattle.sim_base.specs.declared.item.Kind.{Kind}
use Rattle.sim_base.specs.declared.item.Kind.TheVariants.{Ppp, Ethernet, Trailer, Arp, Ipv4, Icmp, Udp, Tcp, Payload, Pad}
use Rattle.sim_base.specs.Packet.{Packet, len}
use Rattle.pkt_face.specs.declared.line.Line.{Line}
use Rattle.pkt_face.specs.declared.line.Sign.TheVariants.{Enqueue, Dequeue, Drop, Receive, Save}
use Rattle.ascii_trace.specs.declared.entry.Entry.{Entry}
use Rattle.ascii_trace.specs.Numbers.{seconds}

-- a number behind a text
abbrev pub labelled : List ℕ → ℕ → List ℕ
labelled label number = label ++ decimal number

abbrev pub kind_name : Kind → List ℕ
kind_name Ppp = codes "ppp"
kind_name Ethernet = codes "eth"
kind_name Trailer = codes "trailer"
kind_name Arp = codes "arp"
kind_name Ipv4 = codes "ipv4"
kind_name Icmp = codes "icmp"
kind_name Udp = codes "udp"
kind_name Tcp = codes "tcp"
kind_name Payload = codes "payload"
kind_name Pad = codes "pad"

-- how many bytes were cut from an item, where some were
abbrev pub cuts : Item → List ℕ
cuts i =
    if i.cut_front == 0 && i.cut_back == 0 then []
    else labelled (codes "[") i.cut_front ++ labelled (codes ",") i.cut_back ++ codes "]"

abbrev pub item_text : Item → List ℕ
item_text i = codes " " ++ kind_name i.kind ++ labelled (codes ":") i.size ++ cuts i

abbrev pub items_text : List Item → List ℕ
items_text items = flat_map item_text items

-- when and where: the time in seconds, the node and its interface
abbrev pub place_text : Entry → List ℕ
place_text e = codes " " ++ seconds e.time.0 ++ labelled (codes " n") e.node.0 ++ labelled (codes " i") e.iface

-- which packet: the node that made it, that node's count of packets, and its length
abbrev pub packet_text : Entry → List ℕ
packet_text e = labelled (codes " p") e.uid.node.0 ++ labelled (codes ".") e.uid.count ++ labelled (codes " ") e.length

abbrev pub told : List ℕ → Entry → List Item → List ℕ
told sign e items = sign ++ place_text e ++ packet_text e ++ items_text items ++ codes "\n"

-- an entry of the trace; a saved frame stands in a capture, and not here
abbrev pub entry_text : Entry → List Item → List ℕ
entry_text e items = elim e.sign [
  | Enqueue ↦ told (codes "+") e items
  | Dequeue ↦ told (codes "-") e items
  | Drop ↦ told (codes "d") e items
  | Receive ↦ told (codes "r") e items
  | Save ↦ []
]

-- the entry of a line
abbrev pub entry_of : Line Packet → Entry
entry_of l = record { sign = l.sign; time = l.key.time; node = l.node; iface = l.iface; uid = l.packet.uid; length = len l.packet }

-- a line of the trace
abbrev pub line_text : Line Packet → List ℕ
line_text l = entry_text (entry_of l) l.packet.items
