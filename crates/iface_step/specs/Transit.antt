-- An interface while its frames are on their way, and what is asked for so far.
use Rattle.std.specs.Prelude.{Bool, List, [], ◌∷◌, ◌++◌, if◌then◌else◌}
use Rattle.sim_base.specs.declared.numbers.Numbers.{Numbers}
use Rattle.sim_base.specs.Draws.{PlainRandom}
use Rattle.sim_base.specs.Packet.{Packet}
use Rattle.pkt_face.specs.declared.line.Sign.{Sign}
use Rattle.pkt_face.specs.declared.line.Sign.TheVariants.{Save as SaveSign}
use Rattle.queue_discs.specs.Disc.{PlainDisc}
use Rattle.csma_dev.specs.declared.bus.Bus.{Bus}
use Rattle.iface_step.specs.declared.words.Act.{Act}
use Rattle.iface_step.specs.declared.words.Act.TheVariants.{Write}
use Rattle.iface_step.specs.Attachment.{PlainAttachment}
use Rattle.iface_step.specs.Iface.{PlainIface}

-- an interface, its bus, what its node draws, and what is asked for so far, in order
pub record Transit : Type 0 where
  pub iface : PlainIface
  pub bus : Bus
  pub random : PlainRandom
  pub acts : List (Act Packet)

-- the same, with what its node numbers
pub record Progress : Type 0 where
  pub iface : PlainIface
  pub bus : Bus
  pub random : PlainRandom
  pub numbers : Numbers
  pub acts : List (Act Packet)

abbrev pub transit_of : Progress → Transit
transit_of p = record { iface = p.iface; bus = p.bus; random = p.random; acts = p.acts }

abbrev pub with_transit : Transit → Progress → Progress
with_transit t p = record { iface = t.iface; bus = t.bus; random = t.random; numbers = p.numbers; acts = t.acts }

-- a part of a step that numbers nothing
abbrev pub in_transit : (Transit → Transit) → Progress → Progress
in_transit f p = with_transit (f (transit_of p)) p

-- more is asked for
abbrev pub asking : List (Act Packet) → Transit → Transit
asking acts t = record t { acts = t.acts ++ acts }

abbrev pub asks : Act Packet → Progress → Progress
asks act p = record p { acts = p.acts ++ act ∷ [] }

abbrev pub with_disc : PlainDisc → Transit → Transit
with_disc disc t = record t { iface = record t.iface { disc = disc } }

abbrev pub with_ready_later : Bool → Transit → Transit
with_ready_later later t = record t { iface = record t.iface { ready_later = later } }

abbrev pub with_attachment : PlainAttachment → Transit → Transit
with_attachment at t = record t { iface = record t.iface { at = at } }

-- a line about a frame, where one is wanted
abbrev pub line : Bool → Sign → Packet → List (Act Packet)
line wanted sign frame = if wanted then Write sign frame ∷ [] else []

-- a line of the text trace, where it tells what the interface's frames do
abbrev pub told : PlainIface → Sign → Packet → List (Act Packet)
told i sign frame = line i.told sign frame

-- a frame of a capture, where one has the interface's frames
abbrev pub captured : PlainIface → Packet → List (Act Packet)
captured i frame = line i.captured SaveSign frame
