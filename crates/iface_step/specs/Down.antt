-- A frame on its way down: into the disc, and through the device onto the link or the bus.
use Rattle.std.specs.Prelude.{◌||◌, true, false, List, [], ◌∷◌, map, Option, None, Some, if◌then◌else◌}
use Rattle.std.specs.List.{flat_map}
use Rattle.sim_base.specs.declared.time.Time.{Time}
use Rattle.sim_base.specs.Packet.{Packet}
use Rattle.layer_words.specs.Acts.{Stepped}
use Rattle.pkt_face.specs.declared.line.Sign.TheVariants.{Enqueue, Dequeue, Drop as DropSign}
use Rattle.queue_discs.specs.declared.disc.Next.{Next}
use Rattle.queue_discs.specs.declared.disc.Next.TheVariants.{Frame, Wait as WaitUntil, Empty}
use Rattle.queue_discs.specs.Answers.{Taken, next}
use Rattle.queue_discs.specs.Disc.{is_full, with_frame}
use Rattle.iface_step.specs.declared.words.Act.{Act}
use Rattle.iface_step.specs.declared.words.Act.TheVariants.{Schedule, Write}
use Rattle.iface_step.specs.declared.words.Happening.{Happening}
use Rattle.iface_step.specs.declared.words.Happening.TheVariants.{Arrive, Sent, BusFree, BackoffOver, DiscReady}
use Rattle.iface_step.specs.declared.words.Place.{Place}
use Rattle.iface_step.specs.Attachment.{PlainAttachment, OnLink, OnLan, is_sending, neighbours}
use Rattle.iface_step.specs.declared.device.DeviceAct.{DeviceAct}
use Rattle.iface_step.specs.declared.device.DeviceAct.TheVariants.{Tell, Wait, Reach, Save, Lose, Lift}
use Rattle.iface_step.specs.Devices.{Begin, Over, Again, Turn, device_steps}
use Rattle.iface_step.specs.Iface.{PlainIface}
use Rattle.iface_step.specs.Transit.{Transit, asking, captured, told, with_disc, with_ready_later}

-- the device of a link is told that its frame has left, that of a LAN that the bus is free
abbrev pub over : PlainAttachment → Happening Packet
over (OnLink e) = Sent
over (OnLan e) = BusFree

-- a frame arrives at each of these interfaces
abbrev pub arrivals : List Place → Time → Packet → List (Act Packet)
arrivals places at frame = map (λ to. Schedule at to (Arrive frame)) places

abbrev pub reached : PlainIface → Time → Packet → List (Act Packet)
reached i at frame = arrivals (neighbours i.at) at frame

-- what a device that was given a frame, or tries again, asks for: a frame that it starts has no line but that of a capture
abbrev pub asked_down : PlainIface → DeviceAct Packet → List (Act Packet)
asked_down i (Tell at) = Schedule at i.place (over i.at) ∷ []
asked_down i (Wait at) = Schedule at i.place BackoffOver ∷ []
asked_down i (Reach at frame) = reached i at frame
asked_down i (Save frame) = captured i frame
asked_down i (Lose frame) = told i DropSign frame
asked_down i (Lift proto packet) = []

abbrev pub carried_down : Turn → Transit
carried_down turn = asking (flat_map (asked_down turn.transit.iface) turn.acts) turn.transit

-- the device starts a frame that has left the disc
unfoldable pub begins : Time → Packet → Transit → Transit
begins now frame t = carried_down (device_steps (Begin now frame) (asking (told t.iface Dequeue frame) t))

-- what the disc gives: a frame, a time at which it is to be asked again, or nothing
abbrev pub takes : Time → Next Packet → Transit → Transit
takes now (Frame frame) t = begins now frame t
takes now (WaitUntil at) t = asking (Schedule at t.iface.place DiscReady ∷ []) (with_ready_later true t)
takes now Empty t = t

abbrev pub taken : Time → Taken → Transit → Transit
taken now s t = takes now s.answer (with_disc s.disc t)

-- an idle device takes the next frame, unless the disc is to be asked again later
unfoldable pub take : Time → Transit → Transit
take now t = if is_sending t.iface.at || t.iface.ready_later then t else taken now (next now.0 t.iface.disc) t

-- the line of a frame that was kept, where one is wanted
abbrev pub line_of_kept : Option Packet → List (Act Packet)
line_of_kept None = []
line_of_kept (Some frame) = Write Enqueue frame ∷ []

-- a frame is offered to the disc, and a full disc loses it
unfoldable pub offered : Packet → PlainIface → Stepped PlainIface (Act Packet)
offered frame i =
    if is_full i.disc then record { state = i; acts = told i DropSign frame }
    else record { state = record i { disc = with_frame frame i.disc }; acts = told i Enqueue frame }

abbrev pub with_offer : Stepped PlainIface (Act Packet) → Transit → Transit
with_offer s t = asking s.acts (record t { iface = s.state })

-- a frame with its header leaves by the interface
unfoldable pub send_frame : Time → Packet → Transit → Transit
send_frame now frame t = take now (with_offer (offered frame t.iface) t)

-- the device's frame has left, or has come to the others
unfoldable pub ends : Transit → Transit
ends t = (device_steps Over t).transit

-- and the device takes the next one
unfoldable pub frees : Time → Transit → Transit
frees now t = take now (ends t)

-- the device makes another try for its frame; that of a link has none
unfoldable pub retries : Time → Transit → Transit
retries now t = carried_down (device_steps (Again now) t)

-- a wait for the bus is over: a device that has a frame tries again, and where it gives the frame up it takes the next one
unfoldable pub tries_again : Time → Transit → Transit
tries_again now t = if is_sending t.iface.at then take now (retries now t) else t

-- the disc is asked again
unfoldable pub asks_disc : Time → Transit → Transit
asks_disc now t = take now (with_ready_later false t)
