-- Lengths of frames.
use Rattle.std.proofs.Common.{◌≡◌, ℕ, ◌-◌, ◌<◌, ◌≤◌, nat_lt, List, [], ◌∷◌, length, replicate, slice_range, None, leb, true, false, refl, ap, ◌∙◌, arith}
use Rattle.std.proofs.lemmas.Bool.{cond_both, lt-leb, lt-ltb, ltb-false}
use Rattle.header_forms.specs.Arp.{arp_of}
use Rattle.header_forms.specs.Link.{ethernet_bytes}
use Rattle.sim_base.specs.declared.item.Kind.TheVariants.{Ppp, Ethernet as EthernetItem, Trailer, Pad}
use Rattle.sim_base.specs.Packet.{Packet, len, push_back}
use Rattle.sim_base.proofs.PacketLaws.{len-push_back, len-push_front}
use Rattle.std.proofs.lemmas.List.{length-replicate, length-take}
use Rattle.iface_step.specs.Attachment.{PlainAttachment, OnLink, OnLan, least_frame}
use Rattle.iface_step.specs.Frames.{lan_frame, link_frame, padded}

-- no frame needs more than a LAN's header and trailer
pub least_frame-most : (at : PlainAttachment) (n : ℕ) → 18 ≤ n → least_frame at ≤ n
least_frame-most (OnLink e) n long = omega (arith, long)
least_frame-most (OnLan e) n long = long

pub link_frame-long : (packet : Packet) → 2 ≤ len (link_frame packet)
link_frame-long packet = omega (arith, len-push_front Ppp (0 ∷ 0x21 ∷ []) packet)

-- zeros behind a packet that has too few bytes
pub padded-is : (packet new : Packet) (zeros : List ℕ) → len packet < 46 → zeros ≡ replicate (46 - len packet) 0 → new ≡ push_back Pad zeros packet → new ≡ padded packet
padded-is packet new zeros few same is =
    let yes : nat_lt (len packet) 46 ≡ true = lt-ltb (len packet) 46 few in
    rw yes (is ∙ ap (λ (zs : List ℕ). push_back Pad zs packet) same)

padded-long : (packet : Packet) → 46 ≤ len (padded packet)
padded-long packet =
    cond_both (nat_lt (len packet) 46) (push_back Pad (replicate (46 - len packet) 0) packet) packet (λ (p : Packet). 46 ≤ len p)
    (λ _. omega (arith, len-push_back Pad (replicate (46 - len packet) 0) packet, length-replicate {A = ℕ} (46 - len packet) 0))
    (λ no. omega (arith, ltb-false (len packet) 46 no))

-- padding makes every frame of a LAN long enough
pub lan_frame-long : (to from : List ℕ) (proto : ℕ) (packet : Packet) → 18 ≤ len (lan_frame to from proto packet)
lan_frame-long to from proto packet =
    let header = ethernet_bytes (record { dst = to; src = from; proto = proto }) in
    omega (arith, padded-long packet, len-push_back Trailer (0 ∷ 0 ∷ 0 ∷ 0 ∷ []) (padded packet), len-push_front EthernetItem header (push_back Trailer (0 ∷ 0 ∷ 0 ∷ 0 ∷ []) (padded packet)))

pub link_frame-header : (packet frame : Packet) → frame ≡ link_frame packet → 2 ≤ len frame
link_frame-header packet frame is = omega (arith, ap len is, link_frame-long packet)

pub lan_frame-header : (to from : List ℕ) (proto : ℕ) (packet frame : Packet) → frame ≡ lan_frame to from proto packet → 18 ≤ len frame
lan_frame-header to from proto packet frame is = omega (arith, ap len is, lan_frame-long to from proto packet)

-- fewer bytes than a message has can't be read
pub arp_of-short : (bytes : List ℕ) → length bytes < 28 → None ≡ arp_of (slice_range bytes 0 28)
arp_of-short bytes short =
    let few : length (slice_range bytes 0 28) < 28 = omega (arith, length-take {A = ℕ} 28 bytes) in
    let no : leb 28 (length (slice_range bytes 0 28)) ≡ false = lt-leb 28 (length (slice_range bytes 0 28)) few in
    rw no refl
