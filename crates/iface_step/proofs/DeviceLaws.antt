-- What a device asks for comes later, a frame that reaches a neighbour has its header, and the device stays within the limits.
use Rattle.std.proofs.Common.{ℕ, ◌+◌, ◌<◌, ◌≤◌, leb, List, [], ◌∷◌, ◌++◌, map, arith}
use Rattle.std.proofs.lemmas.Bool.{leb-false}
use Rattle.std.specs.List.{AllByRecursion}
use Rattle.std.proofs.lemmas.Bool.{cond_both}
use Rattle.sim_base.specs.declared.time.Time.{Time}
use Rattle.sim_base.specs.Draws.{PlainRandom, after_draw}
use Rattle.sim_base.specs.Packet.{Packet, len}
use Rattle.sim_base.specs.Time.{frame_time}
use Rattle.frame_loss.specs.declared.fate.Fate.{Fate}
use Rattle.frame_loss.specs.declared.fate.Fate.TheVariants.{Lost as LostFrame, Received}
use Rattle.frame_loss.specs.Fate.{fate}
use Rattle.p2p_dev.specs.declared.Act.TheVariants.{SentAt as LinkSentAt, ArriveAt as LinkArriveAt, Save as LinkSave}
use Rattle.p2p_dev.specs.Device.{Device as LinkDevice}
use Rattle.p2p_dev.specs.Step.{arrives as link_arrives, comes_as as link_comes_as, leaves as link_leaves, lifted as link_lifted, starts as link_starts}
use Rattle.csma_dev.specs.declared.bus.Bus.{Bus}
use Rattle.csma_dev.specs.declared.device.Use.{Use}
use Rattle.csma_dev.specs.declared.device.Use.TheVariants.{Idle, Sending, Waiting}
use Rattle.csma_dev.specs.declared.words.Act.TheVariants.{Save as LanSave, ArriveAt as LanArriveAt, SentAt as LanSentAt, BackoffAt, GaveUp}
use Rattle.csma_dev.specs.Device.{Device as LanDevice, IsDevice as IsLanDevice, IsUse}
use Rattle.csma_dev.specs.Step.{Own as LanOwn, Shared, arrives as lan_arrives, backs_off, comes_as as lan_comes_as, hears, ignores, is_free, is_heard, leaves as lan_leaves, lifted as lan_lifted, on_bus, retries as lan_retries, sends as lan_sends, starts as lan_starts, tries_once, wait}
use Rattle.csma_dev.proofs.StepLaws.{frame_time-positive}
use Rattle.iface_step.specs.declared.device.DeviceAct.{DeviceAct}
use Rattle.iface_step.specs.declared.device.DeviceAct.TheVariants.{Tell, Wait, Reach, Save, Lose, Lift}
use Rattle.iface_step.specs.Attachment.{PlainAttachment, OnLink, OnLan, least_frame}
use Rattle.iface_step.specs.Devices.{Begin, Over, Again, Come, Turn, of_lan, of_link, turn_at}
use Rattle.iface_step.specs.Law.{HasDevice}
use Rattle.iface_step.specs.Transit.{Transit}

-- an act of a device asks for no time but a later one, and a frame that reaches a neighbour is so long at least
abbrev pub IsSound : ℕ → ℕ → DeviceAct Packet → Type 0
IsSound now least (Tell at) = now < at.0
IsSound now least (Wait at) = now < at.0
IsSound now least (Reach at frame) = (now < at.0) × (least ≤ len frame)
IsSound now least (Save frame) = Unit {0}
IsSound now least (Lose frame) = Unit {0}
IsSound now least (Lift proto packet) = Unit {0}

abbrev pub AllSound : ℕ → ℕ → List (DeviceAct Packet) → Type 0
AllSound now least acts = AllByRecursion (IsSound now least) acts

-- a device of a link

link-starts : (now : ℕ) (frame : Packet) (d : LinkDevice) → 1 ≤ d.rate → 2 ≤ len frame → AllSound now 2 (map of_link (link_starts now frame d))
link-starts now frame d some long =
    let time : 1 ≤ frame_time d.rate (len frame) = frame_time-positive d.rate (len frame) some (omega arith) in
    let sent : now < link_leaves d now frame = omega (arith, time) in
    let come : now < link_arrives d now frame = omega (arith, time) in
    cond_both d.traced (LinkSave frame ∷ []) []
    (λ acts. AllSound now 2 (map of_link (acts ++ LinkSentAt (record { 0 = link_leaves d now frame }) ∷ LinkArriveAt (record { 0 = link_arrives d now frame }) frame ∷ [])))
    (λ _. (tt, (sent, ((come, long), tt)))) (λ _. (sent, ((come, long), tt)))

link-comes : (now : ℕ) (d : LinkDevice) (f : Fate Packet) → AllSound now 2 (map of_link (link_comes_as d f))
link-comes now d (LostFrame frame) = (tt, tt)
link-comes now d (Received frame) =
    cond_both d.traced (LinkSave frame ∷ []) [] (λ acts. AllSound now 2 (map of_link (acts ++ link_lifted frame ∷ []))) (λ _. (tt, (tt, tt))) (λ _. (tt, tt))

-- a device of a LAN

lan-starts : (now : ℕ) (frame : Packet) (d : LanDevice) → 1 ≤ d.rate → 18 ≤ len frame → AllSound now 18 (map of_lan (lan_starts now frame d))
lan-starts now frame d some long =
    let time : 1 ≤ frame_time d.rate (len frame) = frame_time-positive d.rate (len frame) some (omega arith) in
    let come : now < lan_leaves d now frame = omega (arith, time) in
    cond_both d.traced (LanSave frame ∷ []) []
    (λ acts. AllSound now 18 (map of_lan (acts ++ LanArriveAt (record { 0 = lan_leaves d now frame }) frame ∷ LanSentAt (record { 0 = lan_leaves d now frame }) ∷ [])))
    (λ _. (tt, ((come, long), (come, tt)))) (λ _. ((come, long), (come, tt)))

-- what a step of a LAN's device leaves
abbrev LanSound : ℕ → LanOwn → Type 0
LanSound now s = IsLanDevice s.device × AllSound now 18 (map of_lan s.acts)

abbrev LanShared : ℕ → Shared → Type 0
LanShared now s = IsLanDevice s.device × AllSound now 18 (map of_lan s.acts)

lan-backs_off : (now : ℕ) (frame : Packet) (tries : ℕ) (d : LanDevice) (r : PlainRandom) → IsLanDevice d → 18 ≤ len frame → LanSound now (backs_off now frame tries d r)
lan-backs_off now frame tries d r ok long =
    cond_both (leb 1000 tries)
    (record { device = record d { does = Idle }; random = r; acts = GaveUp frame ∷ [] })
    (record { device = record d { does = Waiting frame tries }; random = after_draw r; acts = BackoffAt (record { 0 = now + wait tries r }) ∷ [] })
    (LanSound now)
    (λ _. ((ok.0, ok.1, ok.2, tt), (tt, tt)))
    (λ few. let less : tries < 1000 = leb-false 1000 tries few in ((ok.0, ok.1, ok.2, (long, less)), (omega arith, tt)))

lan-tries : (now : ℕ) (frame : Packet) (tries : ℕ) (d : LanDevice) (bus : Bus) (r : PlainRandom) → IsLanDevice d → 18 ≤ len frame → LanShared now (tries_once now frame tries d bus r)
lan-tries now frame tries d bus r ok long =
    cond_both (is_free now bus) (lan_sends now frame d r) (on_bus bus (backs_off now frame (tries + 1) d r)) (LanShared now)
    (λ _. ((ok.0, ok.1, ok.2, tt), lan-starts now frame d ok.0 long)) (λ _. lan-backs_off now frame (tries + 1) d r ok long)

lan-retries : (does : Use Packet) (now : ℕ) (d : LanDevice) (bus : Bus) (r : PlainRandom) → IsLanDevice d → IsUse does → LanShared now (lan_retries does now d bus r)
lan-retries Idle now d bus r ok waits = (ok, tt)
lan-retries Sending now d bus r ok waits = (ok, tt)
lan-retries (Waiting frame tries) now d bus r ok waits = lan-tries now frame tries d bus r ok waits.0

lan-comes : (now : ℕ) (d : LanDevice) (f : Fate Packet) → AllSound now 18 (map of_lan (lan_comes_as d f))
lan-comes now d (LostFrame frame) = (tt, tt)
lan-comes now d (Received frame) =
    cond_both d.traced (LanSave frame ∷ []) [] (λ acts. AllSound now 18 (map of_lan (acts ++ lan_lifted frame ∷ []))) (λ _. (tt, (tt, tt))) (λ _. (tt, tt))

lan-arrives : (now : ℕ) (frame : Packet) (d : LanDevice) (r : PlainRandom) → IsLanDevice d → LanSound now (lan_arrives frame d r)
lan-arrives now frame d r ok =
    cond_both (is_heard d frame) (hears frame d r) (ignores d r) (LanSound now)
    (λ _. (ok, lan-comes now d (fate r d.loss frame))) (λ _. (ok, tt))

-- a device, whatever its kind

-- what a turn at an interface leaves: acts that come later, and a device within the limits
abbrev pub TurnSound : ℕ → PlainAttachment → Turn → Type 0
TurnSound now at turn = AllSound now (least_frame at) turn.acts × HasDevice turn.transit.iface.at

pub begin_sound : (at : PlainAttachment) (now : Time) (frame : Packet) (t : Transit) → HasDevice at → least_frame at ≤ len frame → TurnSound now.0 at (turn_at at (Begin now frame) t)
begin_sound (OnLink e) now frame t ok long = (link-starts now.0 frame e.device ok.0 long, ok)
begin_sound (OnLan e) now frame t ok long = let s = lan-tries now.0 frame 0 e.device t.bus t.random ok long in (s.1, s.0)

pub over_keeps : (at : PlainAttachment) (t : Transit) → HasDevice at → HasDevice (turn_at at Over t).transit.iface.at
over_keeps (OnLink e) t ok = ok
over_keeps (OnLan e) t ok = (ok.0, ok.1, ok.2, tt)

pub again_sound : (at : PlainAttachment) (now : Time) (t : Transit) → HasDevice at → TurnSound now.0 at (turn_at at (Again now) t)
again_sound (OnLink e) now t ok = (tt, ok)
again_sound (OnLan e) now t ok = let s = lan-retries e.device.does now.0 e.device t.bus t.random ok ok.3 in (s.1, s.0)

pub come_sound : (at : PlainAttachment) (now : ℕ) (frame : Packet) (t : Transit) → HasDevice at → TurnSound now at (turn_at at (Come frame) t)
come_sound (OnLink e) now frame t ok = (link-comes now e.device (fate t.random e.device.loss frame), ok)
come_sound (OnLan e) now frame t ok = let s = lan-arrives now frame e.device t.random ok in (s.1, s.0)
