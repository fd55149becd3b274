-- What a bridge does with a frame: it learns where its source is (IEEE 802.1D, section 7.8), and sends it on to where its destination
-- is (section 7.7).
use Rattle.std.specs.Cmp.Lexicographic.{pointwise}
use Rattle.std.specs.Prelude.{ℕ, zero, suc, ◌<◌, ◌≤◌, ◌==◌, List, [], ◌∷◌, ◌++◌, map, nat_eq, slice_range, Option, None, Some, if◌then◌else◌}
use Rattle.sim_base.specs.Packet.{Packet, len}
use Rattle.layer_words.specs.Acts.{Stepped}
use Rattle.bridge_dev.specs.declared.words.In.{In}
use Rattle.bridge_dev.specs.declared.words.In.TheVariants.{Frame}
use Rattle.bridge_dev.specs.declared.words.Act.{Act}
use Rattle.bridge_dev.specs.declared.words.Act.TheVariants.{Out, Ignored}
use Rattle.bridge_dev.specs.Table.{PlainBridge, learned, lookup}

-- the addresses in a frame's header
abbrev pub destination : Packet → List ℕ
destination frame = slice_range frame.bytes 0 6

abbrev pub source : Packet → List ℕ
source frame = slice_range frame.bytes 6 12

-- the address of everyone, ff:ff:ff:ff:ff:ff
abbrev pub everyone : List ℕ
everyone = 255 ∷ 255 ∷ 255 ∷ 255 ∷ 255 ∷ 255 ∷ []

-- the ports below a number but one, in order
unfoldable pub others : ℕ → ℕ → List ℕ
others port zero = []
others port (suc n) = if n == port then others port n else others port n ++ n ∷ []

-- the frame goes out at ports
abbrev pub outs : Packet → List ℕ → List (Act Packet)
outs frame ports = map (λ port. Out port frame) ports

-- the port at which a frame's destination is looked for; there is none for everyone
abbrev pub way : ℕ → Packet → PlainBridge → Option ℕ
way now frame b = if pointwise nat_eq (destination frame) everyone then None else lookup now (destination frame) b

-- a frame goes out at a port, unless it came in there
abbrev pub sent_on : ℕ → ℕ → Packet → Act Packet
sent_on known port frame = if known == port then Ignored else Out known frame

-- where there is no way, a frame goes out at each other port
abbrev pub forwards : Option ℕ → ℕ → ℕ → Packet → List (Act Packet)
forwards None port ports frame = outs frame (others port ports)
forwards (Some known) port ports frame = sent_on known port frame ∷ []

abbrev pub comes : ℕ → ℕ → Packet → PlainBridge → Stepped PlainBridge (Act Packet)
comes now port frame b =
    let c = learned now port (source frame) b in record { state = c; acts = forwards (way now frame c) port b.ports frame }

abbrev pub step : PlainBridge → In Packet → Stepped PlainBridge (Act Packet)
step b (Frame now port frame) = comes now.0 port frame b

-- a frame with its header, at one of so many ports
abbrev pub CanTake : ℕ → In Packet → Type 0
CanTake ports (Frame now port frame) = (port < ports) × (14 ≤ len frame)
