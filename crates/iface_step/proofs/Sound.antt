-- What a step of an interface asks for comes later, and is for the interface itself or for a neighbour.
use Rattle.std.proofs.Common.{◌≡◌, ℕ, zero, suc, ◌+◌, ◌-◌, ◌*◌, ◌<◌, ◌≤◌, leb, Bool, List, [], ◌∷◌, ◌++◌, inl, inr, Option, None, Some, refl, sym, subst, arith}
use Rattle.std.specs.List.{AllByRecursion, flat_map}
use Rattle.std.proofs.lemmas.Bool.{cond_both, leb-false}
use Rattle.std.proofs.lemmas.Grind.{div_ceil_times}
use Rattle.std.proofs.lemmas.List.Concat.{flat_map-cons}
use Rattle.sim_base.specs.declared.time.Time.{Time}
use Rattle.sim_base.specs.Packet.{Packet, len}
use Rattle.pkt_face.specs.declared.line.Sign.{Sign}
use Rattle.pkt_face.specs.declared.line.Sign.TheVariants.{Enqueue, Dequeue, Drop as DropSign, Receive, Save as SaveSign}
use Rattle.layer_words.specs.Acts.{Stepped}
use Rattle.queue_discs.specs.declared.bucket.Bucket.{Bucket}
use Rattle.queue_discs.specs.declared.disc.Next.{Next}
use Rattle.queue_discs.specs.declared.disc.Next.TheVariants.{Frame, Wait as WaitUntil, Empty}
use Rattle.queue_discs.specs.Answers.{Taken, given, gives, gives_bytes, gives_for, next}
use Rattle.queue_discs.specs.Bands.{front, front_len}
use Rattle.queue_discs.specs.Bucket.{cost, filled, paid, wait}
use Rattle.queue_discs.specs.Disc.{PlainDisc, is_full, with_frame}
use Rattle.queue_discs.proofs.DiscLaws.{AllHeld-next, AllHeld-with_frame, IfFrame, IfFrame-next}
use Rattle.iface_step.specs.declared.device.DeviceAct.{DeviceAct}
use Rattle.iface_step.specs.declared.device.DeviceAct.TheVariants.{Tell, Wait, Reach, Save, Lose, Lift}
use Rattle.iface_step.specs.declared.words.Act.{Act}
use Rattle.iface_step.specs.declared.words.Act.TheVariants.{Schedule, Write, Up, Dropped}
use Rattle.iface_step.specs.declared.words.Happening.{Happening}
use Rattle.iface_step.specs.declared.words.Happening.TheVariants.{Arrive, DiscReady, ArpTimer}
use Rattle.iface_step.specs.declared.words.Place.{Place}
use Rattle.iface_step.specs.Attachment.{PlainAttachment, OnLink, OnLan, least_frame, neighbours}
use Rattle.iface_step.specs.Devices.{DeviceIn, Again, Begin, Come, Over, Turn, turn_at}
use Rattle.iface_step.specs.Down.{arrivals, asked_down, begins, carried_down, ends, offered, over, retries, taken, takes, with_offer}
use Rattle.iface_step.specs.Iface.{PlainIface}
use Rattle.iface_step.specs.Law.{HasDevice, HasRate, IsAmong, IsIface, IsOwn}
use Rattle.iface_step.specs.Transit.{Progress, asking, asks, captured, in_transit, line, told, transit_of, with_disc}
use Rattle.iface_step.proofs.DeviceLaws.{AllSound, IsSound, TurnSound, again_sound, begin_sound, come_sound, over_keeps}
use Rattle.iface_step.proofs.Glue.{KeepsArp, KeepsComing, KeepsDown, KeepsOwn, arp_takes_keeps, attached}

-- a fact of acts that holds of all that comes later, for the interface itself or for a neighbour
pub record Allows (now : ℕ) (place : Place) (near : List Place) (least : ℕ) (Q : Act Packet → Type 0) : Type 0 where
  pub own : (at : Time) (what : Happening Packet) → now < at.0 → IsOwn what → Q (Schedule at place what)
  pub reach : (at : Time) (to : Place) (frame : Packet) → now < at.0 → IsAmong to near → least ≤ len frame → Q (Schedule at to (Arrive frame))
  pub writes : (sign : Sign) (frame : Packet) → Q (Write sign frame)
  pub ups : (packet : Packet) → Q (Up packet)
  pub drops : Q Dropped

-- an interface within the limits, where each act so far is so
pub record IsOn (place : Place) (near : List Place) (least : ℕ) (Q : Act Packet → Type 0) (p : Progress) : Type 0 where
  pub place_is : p.iface.place ≡ place
  pub near_is : neighbours p.iface.at ≡ near
  pub least_is : least_frame p.iface.at ≡ least
  pub fine : IsIface p.iface
  pub acts : AllByRecursion Q p.acts

pub all-append : {X : Type 0} (Q : X → Type 0) (xs ys : List X) → AllByRecursion Q xs → AllByRecursion Q ys → AllByRecursion Q (xs ++ ys)
all-append Q [] ys h hs = hs
all-append Q (x ∷ xs) ys h hs = (h.0, all-append Q xs ys h.1 hs)

pub all-line : (Q : Act Packet → Type 0) (wanted : Bool) (sign : Sign) (frame : Packet) → Q (Write sign frame) → AllByRecursion Q (line wanted sign frame)
all-line Q wanted sign frame h = cond_both wanted (Write sign frame ∷ []) [] (AllByRecursion Q) (λ _. (h, tt)) (λ _. tt)

asking_on : (place : Place) (near : List Place) (least : ℕ) (Q : Act Packet → Type 0) (p : Progress) (acts : List (Act Packet)) → IsOn place near least Q p → AllByRecursion Q acts → IsOn place near least Q (in_transit (asking acts) p)
asking_on place near least Q p acts on h =
    record { place_is = on.place_is; near_is = on.near_is; least_is = on.least_is; fine = on.fine; acts = all-append Q p.acts acts on.acts h }

asks_on : (place : Place) (near : List Place) (least : ℕ) (Q : Act Packet → Type 0) (p : Progress) (act : Act Packet) → IsOn place near least Q p → Q act → IsOn place near least Q (asks act p)
asks_on place near least Q p act on h =
    record { place_is = on.place_is; near_is = on.near_is; least_is = on.least_is; fine = on.fine; acts = all-append Q p.acts (act ∷ []) on.acts (h, tt) }

-- what a device asks for

over-own : (at : PlainAttachment) → IsOwn (over at)
over-own (OnLink e) = tt
over-own (OnLan e) = tt

all-arrivals : (Q : Act Packet → Type 0) (at : Time) (frame : Packet) (places : List Place) → ((to : Place) → IsAmong to places → Q (Schedule at to (Arrive frame))) → AllByRecursion Q (arrivals places at frame)
all-arrivals Q at frame [] h = tt
all-arrivals Q at frame (place ∷ places) h = (h place (inl refl), all-arrivals Q at frame places (λ to among. h to (inr among)))

all-asked : (now : ℕ) (i : PlainIface) (Q : Act Packet → Type 0) → Allows now i.place (neighbours i.at) (least_frame i.at) Q → (act : DeviceAct Packet) → IsSound now (least_frame i.at) act → AllByRecursion Q (asked_down i act)
all-asked now i Q allows (Tell at) h = (allows.own at (over i.at) h (over-own i.at), tt)
all-asked now i Q allows (Wait at) h = (allows.own at _ h tt, tt)
all-asked now i Q allows (Reach at frame) h = all-arrivals Q at frame (neighbours i.at) (λ to among. allows.reach at to frame h.0 among h.1)
all-asked now i Q allows (Save frame) h = all-line Q i.captured _ frame (allows.writes _ frame)
all-asked now i Q allows (Lose frame) h = all-line Q i.told _ frame (allows.writes _ frame)
all-asked now i Q allows (Lift proto packet) h = tt

all-flat : (now : ℕ) (i : PlainIface) (Q : Act Packet → Type 0) → Allows now i.place (neighbours i.at) (least_frame i.at) Q → (acts : List (DeviceAct Packet)) → AllSound now (least_frame i.at) acts → AllByRecursion Q (flat_map (asked_down i) acts)
all-flat now i Q allows [] h = tt
all-flat now i Q allows (act ∷ acts) h =
    rw (flat_map-cons (asked_down i) act acts) (all-append Q (asked_down i act) (flat_map (asked_down i) acts) (all-asked now i Q allows act h.0) (all-flat now i Q allows acts h.1))

-- what is allowed of an interface is allowed where its place and neighbours are the same
allows_at : (now : ℕ) (place : Place) (near : List Place) (least : ℕ) (Q : Act Packet → Type 0) (p : Progress) → Allows now place near least Q → IsOn place near least Q p → Allows now p.iface.place (neighbours p.iface.at) (least_frame p.iface.at) Q
allows_at now place near least Q p allows on =
    subst (λ (x : Place). Allows now x (neighbours p.iface.at) (least_frame p.iface.at) Q) (sym on.place_is)
    (subst (λ (x : List Place). Allows now place x (least_frame p.iface.at) Q) (sym on.near_is)
    (subst (λ (x : ℕ). Allows now place near x Q) (sym on.least_is) allows))

-- a step of the device, whose acts are asked for

turned_at : (now : ℕ) (place : Place) (near : List Place) (least : ℕ) (Q : Act Packet → Type 0) (at : PlainAttachment) (input : DeviceIn) (p : Progress) →
    HasDevice (turn_at at input (transit_of (attached at p))).transit.iface.at → IsOn place near least Q (attached at p) →
    IsOn place near least Q (in_transit (λ t. (turn_at at input t).transit) (attached at p))
turned_at now place near least Q (OnLink e) input p device on =
    record { place_is = on.place_is; near_is = on.near_is; least_is = on.least_is; fine = record { frames = on.fine.frames; bucket = on.fine.bucket; device = device }; acts = on.acts }
turned_at now place near least Q (OnLan e) input p device on =
    record { place_is = on.place_is; near_is = on.near_is; least_is = on.least_is; fine = record { frames = on.fine.frames; bucket = on.fine.bucket; device = device }; acts = on.acts }

-- the acts of a turn are those of the interface as it is then
sound_at : (now : ℕ) (at : PlainAttachment) (input : DeviceIn) (p : Progress) → TurnSound now at (turn_at at input (transit_of (attached at p))) →
    AllSound now (least_frame (turn_at at input (transit_of (attached at p))).transit.iface.at) (turn_at at input (transit_of (attached at p))).acts
sound_at now (OnLink e) input p sound = sound.0
sound_at now (OnLan e) input p sound = sound.0

carried_at : (now : ℕ) (place : Place) (near : List Place) (least : ℕ) (Q : Act Packet → Type 0) → Allows now place near least Q → (at : PlainAttachment) (input : DeviceIn) (p : Progress) →
    TurnSound now at (turn_at at input (transit_of (attached at p))) → IsOn place near least Q (attached at p) →
    IsOn place near least Q (in_transit (λ t. carried_down (turn_at at input t)) (attached at p))
carried_at now place near least Q allows at input p sound on =
    let next : Progress = in_transit (λ t. (turn_at at input t).transit) (attached at p) in
    let then : IsOn place near least Q next = turned_at now place near least Q at input p sound.1 on in
    let turn : Turn = turn_at at input (transit_of (attached at p)) in
    asking_on place near least Q next (flat_map (asked_down next.iface) turn.acts) then
    (all-flat now next.iface Q (allows_at now place near least Q next allows then) turn.acts (sound_at now at input p sound))

begins_on : (now : Time) (place : Place) (near : List Place) (least : ℕ) (Q : Act Packet → Type 0) → Allows now.0 place near least Q → (frame : Packet) (p : Progress) →
    least_frame p.iface.at ≤ len frame → IsOn place near least Q p → IsOn place near least Q (in_transit (begins now frame) p)
unfolding begins
begins_on now place near least Q allows frame p long on =
    let first : Progress = in_transit (asking (told p.iface Dequeue frame)) p in
    let at_first : IsOn place near least Q first = asking_on place near least Q p (told p.iface Dequeue frame) on (all-line Q p.iface.told Dequeue frame (allows.writes Dequeue frame)) in
    carried_at now.0 place near least Q allows p.iface.at (Begin now frame) first (begin_sound p.iface.at now frame (transit_of first) on.fine.device long) at_first

-- what the disc gives

positive : (c r a : ℕ) → a ≤ c * r → 1 ≤ a → 1 ≤ c
positive zero r a h some = omega (arith, h)
positive (suc c) r a h some = omega arith

abbrev IfWait : ℕ → Next Packet → Type 0
IfWait now (Frame frame) = Unit {0}
IfWait now (WaitUntil until) = now < until.0
IfWait now Empty = Unit {0}

given-waits : (now : ℕ) (frame : Option Packet) → IfWait now (given frame)
given-waits now None = tt
given-waits now (Some frame) = tt

-- the disc after the call has a bucket that gets credit, and a wait ends later
abbrev IsNext : ℕ → Taken → Type 0
IsNext now s = HasRate s.disc.bucket × IfWait now s.answer

bytes-next : (bytes now : ℕ) (b : Bucket) (d : PlainDisc) → 1 ≤ b.rate → IsNext now (gives_bytes bytes now b d)
bytes-next bytes now b d some =
    cond_both (leb (cost bytes) b.credit)
    (gives (record d { bucket = Some (paid bytes b) }))
    (record { answer = WaitUntil (record { 0 = now + wait bytes b }); disc = record d { bucket = Some b } })
    (IsNext now)
    (λ _. (some, given-waits now (front d.bands).frame))
    (λ few.
    let missing : b.credit < cost bytes = leb-false (cost bytes) b.credit few in
    let long : 1 ≤ wait bytes b = positive (wait bytes b) b.rate (cost bytes - b.credit) (div_ceil_times (cost bytes - b.credit) b.rate some).0 (omega (arith, missing)) in
    (some, omega (arith, long)))

some-next : (bytes : Option ℕ) (now : ℕ) (b : Bucket) (d : PlainDisc) → 1 ≤ b.rate → IsNext now (gives_for bytes now b d)
some-next None now b d some = (some, tt)
some-next (Some bytes) now b d some = bytes-next bytes now b d some

bucket-next : (b : Option Bucket) (now : ℕ) (d : PlainDisc) → HasRate b → IsNext now (next now (record d { bucket = b }))
bucket-next None now d some = (tt, given-waits now (front d.bands).frame)
bucket-next (Some b) now d some = some-next (front_len d.bands) now (filled now b) (record d { bucket = Some b }) some

-- the parts on a frame's way down

takes_on : (now : Time) (place : Place) (near : List Place) (least : ℕ) (Q : Act Packet → Type 0) → Allows now.0 place near least Q → (answer : Next Packet) (p : Progress) →
    IfFrame (λ frame. least_frame p.iface.at ≤ len frame) answer → IfWait now.0 answer → IsOn place near least Q p → IsOn place near least Q (in_transit (takes now answer) p)
takes_on now place near least Q allows (Frame frame) p long later on = begins_on now place near least Q allows frame p long on
takes_on now place near least Q allows (WaitUntil until) p long later on =
    let here = allows_at now.0 place near least Q p allows on in
    record {
      place_is = on.place_is;
      near_is = on.near_is;
      least_is = on.least_is;
      fine = record { frames = on.fine.frames; bucket = on.fine.bucket; device = on.fine.device };
      acts = all-append Q p.acts (Schedule until p.iface.place DiscReady ∷ []) on.acts (here.own until DiscReady later tt, tt);
    }
takes_on now place near least Q allows Empty p long later on = on

taken_on : (now : Time) (place : Place) (near : List Place) (least : ℕ) (Q : Act Packet → Type 0) → Allows now.0 place near least Q → (p : Progress) →
    IsOn place near least Q p → IsOn place near least Q (in_transit (taken now (next now.0 p.iface.disc)) p)
taken_on now place near least Q allows p on =
    let left = bucket-next p.iface.disc.bucket now.0 p.iface.disc on.fine.bucket in
    let P : Packet → Type 0 = λ frame. least_frame p.iface.at ≤ len frame in
    takes_on now place near least Q allows (next now.0 p.iface.disc).answer (in_transit (with_disc (next now.0 p.iface.disc).disc) p)
    (IfFrame-next P now.0 p.iface.disc on.fine.frames) left.1
    (record {
      place_is = on.place_is;
      near_is = on.near_is;
      least_is = on.least_is;
      acts = on.acts;
      fine = record { frames = AllHeld-next P now.0 p.iface.disc on.fine.frames; bucket = left.0; device = on.fine.device };
    })

offers_on : (now : ℕ) (place : Place) (near : List Place) (least : ℕ) (Q : Act Packet → Type 0) → Allows now place near least Q → (p : Progress) (frame : Packet) →
    least_frame p.iface.at ≤ len frame → IsOn place near least Q p → IsOn place near least Q (in_transit (with_offer (offered frame p.iface)) p)
unfolding offered
offers_on now place near least Q allows p frame long on =
    let P : Packet → Type 0 = λ f. least_frame p.iface.at ≤ len f in
    cond_both (is_full p.iface.disc)
    (record { state = p.iface; acts = told p.iface DropSign frame })
    (record { state = record p.iface { disc = with_frame frame p.iface.disc }; acts = told p.iface Enqueue frame })
    (λ (s : Stepped PlainIface (Act Packet)). IsOn place near least Q (in_transit (with_offer s) p))
    (λ _. record {
      place_is = on.place_is;
      near_is = on.near_is;
      least_is = on.least_is;
      fine = on.fine;
      acts = all-append Q p.acts (told p.iface DropSign frame) on.acts (all-line Q p.iface.told DropSign frame (allows.writes DropSign frame));
    })
    (λ _. record {
      place_is = on.place_is;
      near_is = on.near_is;
      least_is = on.least_is;
      fine = record { frames = AllHeld-with_frame P frame p.iface.disc long on.fine.frames; bucket = on.fine.bucket; device = on.fine.device };
      acts = all-append Q p.acts (told p.iface Enqueue frame) on.acts (all-line Q p.iface.told Enqueue frame (allows.writes Enqueue frame));
    })

ends_on : (now : ℕ) (place : Place) (near : List Place) (least : ℕ) (Q : Act Packet → Type 0) (p : Progress) → IsOn place near least Q p → IsOn place near least Q (in_transit ends p)
unfolding ends
ends_on now place near least Q p on = turned_at now place near least Q p.iface.at Over p (over_keeps p.iface.at (transit_of p) on.fine.device) on

retries_on : (now : Time) (place : Place) (near : List Place) (least : ℕ) (Q : Act Packet → Type 0) → Allows now.0 place near least Q → (p : Progress) → IsOn place near least Q p → IsOn place near least Q (in_transit (retries now) p)
unfolding retries
retries_on now place near least Q allows p on =
    carried_at now.0 place near least Q allows p.iface.at (Again now) p (again_sound p.iface.at now (transit_of p) on.fine.device) on

pub on_down : (now : Time) (place : Place) (near : List Place) (least : ℕ) (Q : Act Packet → Type 0) → Allows now.0 place near least Q → KeepsDown now (IsOn place near least Q)
on_down now place near least Q allows = record {
  offers = offers_on now.0 place near least Q allows;
  takes = taken_on now place near least Q allows;
  ends = ends_on now.0 place near least Q;
  retries = retries_on now place near least Q allows;
  ready = λ p on. record { place_is = on.place_is; near_is = on.near_is; least_is = on.least_is; acts = on.acts; fine = record { frames = on.fine.frames; bucket = on.fine.bucket; device = on.fine.device } };
}

on_arp : (now : Time) (place : Place) (near : List Place) (least : ℕ) (Q : Act Packet → Type 0) → Allows now.0 place near least Q → KeepsArp now (IsOn place near least Q)
on_arp now place near least Q allows = record {
  down = on_down now place near least Q allows;
  timers = λ p at addr stamp later on. asks_on place near least Q p (Schedule at p.iface.place (ArpTimer addr stamp)) on ((allows_at now.0 place near least Q p allows on).own at (ArpTimer addr stamp) later tt);
  drops = λ p on. asks_on place near least Q p Dropped on allows.drops;
  caches = λ p e cache numbers on. record { place_is = on.place_is; near_is = on.near_is; least_is = on.least_is; acts = on.acts; fine = record { frames = on.fine.frames; bucket = on.fine.bucket; device = on.fine.device } };
  numbers = λ p on. record { place_is = on.place_is; near_is = on.near_is; least_is = on.least_is; acts = on.acts; fine = on.fine };
}

pub on_own : (now : Time) (place : Place) (near : List Place) (least : ℕ) (Q : Act Packet → Type 0) → Allows now.0 place near least Q → KeepsOwn now (IsOn place near least Q)
on_own now place near least Q allows = record {
  down = on_down now place near least Q allows;
  drops = λ p on. asks_on place near least Q p Dropped on allows.drops;
  arps = λ p input later on. arp_takes_keeps now (IsOn place near least Q) (on_arp now place near least Q allows) input later p on;
}

pub on_coming : (now : Time) (place : Place) (near : List Place) (least : ℕ) (Q : Act Packet → Type 0) → Allows now.0 place near least Q → KeepsComing now (IsOn place near least Q)
on_coming now place near least Q allows = record {
  own = on_own now place near least Q allows;
  turns = λ p frame on. turned_at now.0 place near least Q p.iface.at (Come frame) p (come_sound p.iface.at now.0 frame (transit_of p) on.fine.device).1 on;
  receives = λ p frame on. asking_on place near least Q p _ on (all-append Q (told p.iface Receive frame) (captured p.iface frame) (all-line Q p.iface.told Receive frame (allows.writes Receive frame)) (all-line Q p.iface.captured SaveSign frame (allows.writes SaveSign frame)));
  loses = λ p frame on. asking_on place near least Q p _ on (all-line Q p.iface.told DropSign frame (allows.writes DropSign frame));
  ups = λ p packet on. asks_on place near least Q p (Up packet) on (allows.ups packet);
}
