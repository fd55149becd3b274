-- What each part of an interface's step keeps, the whole step keeps.
use Rattle.std.proofs.Common.{ℕ, ◌<◌, ◌≤◌, ◌==◌, ◌||◌, false, List, [], ◌∷◌, ◌++◌, fold, Option, None, Some}
use Rattle.std.specs.List.{AllByRecursion}
use Rattle.std.proofs.lemmas.Bool.{cond_both}
use Rattle.sim_base.specs.declared.numbers.Numbers.{Numbers}
use Rattle.sim_base.specs.declared.time.Time.{Time}
use Rattle.sim_base.specs.Packet.{Packet, len}
use Rattle.pkt_face.specs.declared.line.Sign.TheVariants.{Drop as DropSign, Receive}
use Rattle.header_forms.specs.declared.arp.Arp.{Arp}
use Rattle.layer_words.specs.Counting.{new_uid, with_packet}
use Rattle.queue_discs.specs.Answers.{next}
use Rattle.csma_dev.specs.Step.{broadcast}
use Rattle.arp_core.specs.declared.words.Act.{Act as ArpAct}
use Rattle.arp_core.specs.declared.words.Act.TheVariants.{SendTo, Ask, Answer, TimerAt, Dropped as ArpDropped}
use Rattle.arp_core.specs.declared.words.In.{In as ArpIn}
use Rattle.arp_core.specs.declared.words.In.TheVariants.{Resolve, Heard, Timer}
use Rattle.arp_core.specs.Cache.{PlainCache}
use Rattle.arp_core.specs.Law.{IsLater as IsArpLater}
use Rattle.arp_core.specs.Step.{step as arp_step}
use Rattle.arp_core.proofs.StepLaws.{step_is_later as arp_is_later}
use Rattle.iface_step.specs.declared.device.DeviceAct.{DeviceAct}
use Rattle.iface_step.specs.declared.device.DeviceAct.TheVariants.{Tell, Wait, Reach, Save, Lose, Lift}
use Rattle.iface_step.specs.declared.words.Act.TheVariants.{Schedule, Up, Dropped}
use Rattle.iface_step.specs.declared.words.Happening.{Happening}
use Rattle.iface_step.specs.declared.words.Happening.TheVariants.{Arrive, Sent, BusFree, BackoffOver, DiscReady, ArpTimer}
use Rattle.iface_step.specs.Attachment.{PlainAttachment, PlainLanEnd, OnLink, OnLan, is_sending, least_frame}
use Rattle.iface_step.specs.Devices.{Come, device_steps}
use Rattle.iface_step.specs.Down.{asks_disc, ends, frees, offered, retries, send_frame, take, taken, tries_again, with_offer}
use Rattle.iface_step.specs.Frames.{arp_on_lan, ip_on_lan, ip_on_link, lan_frame, link_frame, message}
use Rattle.iface_step.specs.Law.{IsOwn}
use Rattle.iface_step.specs.Resolution.{arp_takes, arp_takes_at, carry_arp, sends_message}
use Rattle.iface_step.specs.Step.{happened, sends, sends_at}
use Rattle.iface_step.specs.Transit.{Progress, Transit, asking, asks, captured, in_transit, told, with_ready_later, with_transit}
use Rattle.iface_step.specs.Up.{carry_up, comes, hears, lifts, message_at, message_comes}
use Rattle.iface_step.proofs.Attached.{lan_frame-long, least_frame-most, link_frame-long}

-- at a time, a fact of a step under way that the parts on a frame's way down keep. A frame that is offered has its header
pub record KeepsDown (now : Time) (G : Progress → Type 0) : Type 0 where
  pub offers : (p : Progress) (frame : Packet) → least_frame p.iface.at ≤ len frame → G p → G (in_transit (with_offer (offered frame p.iface)) p)
  pub takes : (p : Progress) → G p → G (in_transit (taken now (next now.0 p.iface.disc)) p)
  pub ends : (p : Progress) → G p → G (in_transit ends p)
  pub retries : (p : Progress) → G p → G (in_transit (retries now) p)
  pub ready : (p : Progress) → G p → G (in_transit (with_ready_later false) p)

pub take_keeps : (now : Time) (G : Progress → Type 0) → KeepsDown now G → (p : Progress) → G p → G (in_transit (take now) p)
unfolding take
take_keeps now G keeps p h =
    cond_both (is_sending p.iface.at || p.iface.ready_later) (record { iface = p.iface; bus = p.bus; random = p.random; acts = p.acts })
    (taken now (next now.0 p.iface.disc) (record { iface = p.iface; bus = p.bus; random = p.random; acts = p.acts }))
    (λ (t : Transit). G (with_transit t p)) (λ _. h) (λ _. keeps.takes p h)

pub send_frame_keeps : (now : Time) (G : Progress → Type 0) → KeepsDown now G → (frame : Packet) (p : Progress) → least_frame p.iface.at ≤ len frame → G p → G (in_transit (send_frame now frame) p)
unfolding send_frame
send_frame_keeps now G keeps frame p long h = take_keeps now G keeps (in_transit (with_offer (offered frame p.iface)) p) (keeps.offers p frame long h)

pub frees_keeps : (now : Time) (G : Progress → Type 0) → KeepsDown now G → (p : Progress) → G p → G (in_transit (frees now) p)
unfolding frees
frees_keeps now G keeps p h = take_keeps now G keeps (in_transit ends p) (keeps.ends p h)

pub tries_again_keeps : (now : Time) (G : Progress → Type 0) → KeepsDown now G → (p : Progress) → G p → G (in_transit (tries_again now) p)
unfolding tries_again
tries_again_keeps now G keeps p h =
    cond_both (is_sending p.iface.at) (take now (retries now (record { iface = p.iface; bus = p.bus; random = p.random; acts = p.acts })))
    (record { iface = p.iface; bus = p.bus; random = p.random; acts = p.acts })
    (λ (t : Transit). G (with_transit t p)) (λ _. take_keeps now G keeps (in_transit (retries now) p) (keeps.retries p h)) (λ _. h)

pub asks_disc_keeps : (now : Time) (G : Progress → Type 0) → KeepsDown now G → (p : Progress) → G p → G (in_transit (asks_disc now) p)
unfolding asks_disc
asks_disc_keeps now G keeps p h = take_keeps now G keeps (in_transit (with_ready_later false) p) (keeps.ready p h)

-- a step under way, at another attachment
abbrev pub attached : PlainAttachment → Progress → Progress
attached at p = record p { iface = record p.iface { at = at } }

-- a fact that address resolution keeps too: it sets timers, drops packets, changes its cache and numbers packets and timers
pub record KeepsArp (now : Time) (G : Progress → Type 0) : Type 0 where
  pub down : KeepsDown now G
  pub timers : (p : Progress) (at : Time) (addr stamp : ℕ) → now.0 < at.0 → G p → G (asks (Schedule at p.iface.place (ArpTimer addr stamp)) p)
  pub drops : (p : Progress) → G p → G (asks Dropped p)
  pub caches : (p : Progress) (e : PlainLanEnd) (cache : PlainCache) (numbers : Numbers) → G (attached (OnLan e) p) → G (record (attached (OnLan (record e { cache = cache })) p) { numbers = numbers })
  pub numbers : (p : Progress) → G p → G (record p { numbers = with_packet p.numbers })

sends_message_keeps : (now : Time) (G : Progress → Type 0) → KeepsArp now G → (to from : List ℕ) (arp : Arp) (p : Progress) → G p → G (sends_message now to from arp p)
unfolding sends_message
sends_message_keeps now G keeps to from arp p h =
    send_frame_keeps now G keeps.down (lan_frame to from arp_on_lan (message (new_uid p.numbers) arp)) (record p { numbers = with_packet p.numbers })
    (least_frame-most p.iface.at (len (lan_frame to from arp_on_lan (message (new_uid p.numbers) arp))) (lan_frame-long to from arp_on_lan (message (new_uid p.numbers) arp)))
    (keeps.numbers p h)

carry_arp_keeps : (now : Time) (G : Progress → Type 0) → KeepsArp now G → (mac : List ℕ) (p : Progress) (act : ArpAct Packet) → IsArpLater now.0 act → G p → G (carry_arp now mac p act)
unfolding carry_arp
carry_arp_keeps now G keeps mac p (SendTo to packet) later h =
    send_frame_keeps now G keeps.down (lan_frame to mac ip_on_lan packet) p
    (least_frame-most p.iface.at (len (lan_frame to mac ip_on_lan packet)) (lan_frame-long to mac ip_on_lan packet)) h
carry_arp_keeps now G keeps mac p (Ask arp) later h = sends_message_keeps now G keeps broadcast mac arp p h
carry_arp_keeps now G keeps mac p (Answer arp) later h = sends_message_keeps now G keeps arp.target_mac mac arp p h
carry_arp_keeps now G keeps mac p (TimerAt at addr stamp) later h = keeps.timers p at addr stamp later h
carry_arp_keeps now G keeps mac p ArpDropped later h = keeps.drops p h

carry_all_arp_keeps : (now : Time) (G : Progress → Type 0) → KeepsArp now G → (mac : List ℕ) (p : Progress) (acts : List (ArpAct Packet)) → AllByRecursion (IsArpLater now.0) acts → G p → G (fold (carry_arp now mac) p acts)
carry_all_arp_keeps now G keeps mac p [] later h = h
carry_all_arp_keeps now G keeps mac p (act ∷ acts) later h =
    carry_all_arp_keeps now G keeps mac (carry_arp now mac p act) acts later.1 (carry_arp_keeps now G keeps mac p act later.0 h)

arp_at_keeps : (now : Time) (G : Progress → Type 0) → KeepsArp now G → (input : ArpIn Packet) → ((c : PlainCache) (n : Numbers) → AllByRecursion (IsArpLater now.0) (arp_step c n input).acts) →
    (at : PlainAttachment) (p : Progress) → G (attached at p) → G (arp_takes_at at now input (attached at p))
arp_at_keeps now G keeps input later (OnLink e) p h = h
arp_at_keeps now G keeps input later (OnLan e) p h =
    let s = arp_step e.cache p.numbers input in
    carry_all_arp_keeps now G keeps e.cache.mac (record (attached (OnLan (record e { cache = s.state })) p) { numbers = s.numbers }) s.acts (later e.cache p.numbers)
    (keeps.caches p e s.state s.numbers h)

pub arp_takes_keeps : (now : Time) (G : Progress → Type 0) → KeepsArp now G → (input : ArpIn Packet) → ((c : PlainCache) (n : Numbers) → AllByRecursion (IsArpLater now.0) (arp_step c n input).acts) →
    (p : Progress) → G p → G (arp_takes now input p)
unfolding arp_takes
arp_takes_keeps now G keeps input later p h = arp_at_keeps now G keeps input later p.iface.at p h

-- a fact that all steps keep in which no frame comes
pub record KeepsOwn (now : Time) (G : Progress → Type 0) : Type 0 where
  pub down : KeepsDown now G
  pub drops : (p : Progress) → G p → G (asks Dropped p)
  pub arps : (p : Progress) (input : ArpIn Packet) → ((c : PlainCache) (n : Numbers) → AllByRecursion (IsArpLater now.0) (arp_step c n input).acts) → G p → G (arp_takes now input p)

sends_at_keeps : (now : Time) (G : Progress → Type 0) → KeepsOwn now G → (at : PlainAttachment) (hop : ℕ) (packet : Packet) (p : Progress) → G (attached at p) → G (sends_at at now hop packet (attached at p))
sends_at_keeps now G keeps (OnLink e) hop packet p h =
    send_frame_keeps now G keeps.down (link_frame packet) (attached (OnLink e) p) (link_frame-long packet) h
sends_at_keeps now G keeps (OnLan e) hop packet p h =
    keeps.arps (attached (OnLan e) p) (Resolve now hop packet) (λ c n. arp_is_later c n (Resolve now hop packet)) h

pub sends_keeps : (now : Time) (G : Progress → Type 0) → KeepsOwn now G → (hop : ℕ) (packet : Packet) (p : Progress) → G p → G (sends now hop packet p)
unfolding sends
sends_keeps now G keeps hop packet p h = sends_at_keeps now G keeps p.iface.at hop packet p h

pub happened_keeps : (now : Time) (G : Progress → Type 0) → KeepsOwn now G → (what : Happening Packet) (p : Progress) → IsOwn what → G p → G (happened now what p)
unfolding happened
happened_keeps now G keeps (Arrive frame) p own h = absurd own
happened_keeps now G keeps Sent p own h = frees_keeps now G keeps.down p h
happened_keeps now G keeps BusFree p own h = frees_keeps now G keeps.down p h
happened_keeps now G keeps BackoffOver p own h = tries_again_keeps now G keeps.down p h
happened_keeps now G keeps DiscReady p own h = asks_disc_keeps now G keeps.down p h
happened_keeps now G keeps (ArpTimer addr stamp) p own h = keeps.arps p (Timer now addr stamp) (λ c n. arp_is_later c n (Timer now addr stamp)) h

-- a fact that a step keeps in which a frame comes
pub record KeepsComing (now : Time) (G : Progress → Type 0) : Type 0 where
  pub own : KeepsOwn now G
  pub turns : (p : Progress) (frame : Packet) → G p → G (in_transit (λ t. (device_steps (Come frame) t).transit) p)
  pub receives : (p : Progress) (frame : Packet) → G p → G (in_transit (asking (told p.iface Receive frame ++ captured p.iface frame)) p)
  pub loses : (p : Progress) (frame : Packet) → G p → G (in_transit (asking (told p.iface DropSign frame)) p)
  pub ups : (p : Progress) (packet : Packet) → G p → G (asks (Up packet) p)

hears_keeps : (now : Time) (G : Progress → Type 0) → KeepsOwn now G → (found : Option Arp) (p : Progress) → G p → G (hears now found p)
hears_keeps now G keeps None p h = keeps.drops p h
hears_keeps now G keeps (Some arp) p h = keeps.arps p (Heard now arp) (λ c n. arp_is_later c n (Heard now arp)) h

message_keeps : (now : Time) (G : Progress → Type 0) → KeepsOwn now G → (packet : Packet) (p : Progress) → G p → G (message_comes now packet p)
unfolding message_comes
message_keeps now G keeps packet p h = hears_keeps now G keeps (message_at p.iface.at packet) p h

lifts_keeps : (now : Time) (G : Progress → Type 0) → KeepsComing now G → (proto : ℕ) (packet : Packet) (p : Progress) → G p → G (lifts now proto packet p)
unfolding lifts
lifts_keeps now G keeps proto packet p h =
    cond_both (proto == ip_on_link || proto == ip_on_lan) (asks (Up packet) p) _ G (λ _. keeps.ups p packet h)
    (λ _. cond_both (proto == arp_on_lan) (message_comes now packet p) (asks Dropped p) G (λ _. message_keeps now G keeps.own packet p h) (λ _. keeps.own.drops p h))

carry_up_keeps : (now : Time) (G : Progress → Type 0) → KeepsComing now G → (p : Progress) (act : DeviceAct Packet) → G p → G (carry_up now p act)
unfolding carry_up
carry_up_keeps now G keeps p (Tell at) h = h
carry_up_keeps now G keeps p (Wait at) h = h
carry_up_keeps now G keeps p (Reach at frame) h = h
carry_up_keeps now G keeps p (Save frame) h = keeps.receives p frame h
carry_up_keeps now G keeps p (Lose frame) h = keeps.loses p frame h
carry_up_keeps now G keeps p (Lift proto packet) h = lifts_keeps now G keeps proto packet p h

carry_all_up_keeps : (now : Time) (G : Progress → Type 0) → KeepsComing now G → (p : Progress) (acts : List (DeviceAct Packet)) → G p → G (fold (carry_up now) p acts)
carry_all_up_keeps now G keeps p [] h = h
carry_all_up_keeps now G keeps p (act ∷ acts) h = carry_all_up_keeps now G keeps (carry_up now p act) acts (carry_up_keeps now G keeps p act h)

pub comes_keeps : (now : Time) (G : Progress → Type 0) → KeepsComing now G → (frame : Packet) (p : Progress) → G p → G (comes now frame p)
unfolding comes
comes_keeps now G keeps frame p h =
    let t : Transit = record { iface = p.iface; bus = p.bus; random = p.random; acts = p.acts } in
    carry_all_up_keeps now G keeps (with_transit (device_steps (Come frame) t).transit p) (device_steps (Come frame) t).acts (keeps.turns p frame h)
