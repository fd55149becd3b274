-- What UDP and ICMP hand on fits a datagram.
use Rattle.std.proofs.Common.{ℕ, ◌≡◌, ◌-◌, ◌≤◌, ◌==◌, [], ◌∷◌, All, Option, None, Some, length, drop, min, refl, arith, length-take, length-append}
use Rattle.std.specs.Prelude.{nat_lt, slice_range}
use Rattle.std.proofs.lemmas.Bool.{cond_both}
use Rattle.std.proofs.lemmas.List.Elements.{All-nil, All-cons}
use Rattle.sim_base.specs.declared.numbers.Numbers.{Numbers}
use Rattle.sim_base.specs.Packet.{Packet, len, cut, pop_front, from_bytes}
use Rattle.sim_base.proofs.PacketLaws.{len-from_bytes}
use Rattle.header_forms.specs.declared.icmp.Icmp.{Icmp}
use Rattle.header_forms.specs.declared.ipv4.Ipv4.{Ipv4}
use Rattle.header_forms.specs.declared.udp.Udp.{Udp}
use Rattle.header_forms.specs.Checksum.{checksum}
use Rattle.header_forms.specs.Icmp.{icmp_of}
use Rattle.header_forms.specs.Ipv4.{ipv4_bytes}
use Rattle.header_forms.specs.Udp.{udp_of}
use Rattle.layer_words.specs.Acts.{Made}
use Rattle.layer_words.specs.Counting.{new_uid, with_packet}
use Rattle.udp_icmp.specs.declared.ports.Act.{Act}
use Rattle.udp_icmp.specs.declared.ports.Act.TheVariants.{ToIp, ToApp, Report as ReportAct, Dropped}
use Rattle.udp_icmp.specs.declared.ports.In.{In}
use Rattle.udp_icmp.specs.declared.ports.In.TheVariants.{UdpSend, UdpArrive, PingSend, IcmpArrive, Report}
use Rattle.udp_icmp.specs.Icmp.{given, icmp_headed, is_reply, is_request, is_told, message, nothing, quoted, replied, reply_given, reported, understood}
use Rattle.udp_icmp.specs.Ports.{PlainPorts, app_at}
use Rattle.udp_icmp.specs.Step.{CanTake, FitsDatagram, step}
use Rattle.udp_icmp.specs.Udp.{checked, delivered, headed, is_intact, udp_sent}
use Rattle.udp_icmp.proofs.Lengths.{len-cut-le, len-pop_front-le, len-datagram, len-message}

one : (act : Act Packet) → FitsDatagram act → All FitsDatagram (act ∷ [])
one act fits = All-cons FitsDatagram act [] fits (All-nil FitsDatagram)

sent_fits : (src : Option ℕ) (sport dst port : ℕ) (packet : Packet) → len packet ≤ 65507 → FitsDatagram (udp_sent src sport dst port packet)
sent_fits None sport dst port packet fits = tt
sent_fits (Some src) sport dst port packet fits = omega (arith, len-datagram src dst sport port packet, fits)

delivered_fits : (head : Ipv4) (udp : Udp) (packet : Packet) (app : Option ℕ) → len packet ≤ 65515 → All FitsDatagram (delivered head udp packet app)
delivered_fits head udp packet None fits = All-cons FitsDatagram (ReportAct 3 3 head packet) (Dropped ∷ []) fits (one Dropped tt)
delivered_fits head udp packet (Some app) fits = one (ToApp app head.src udp.sport (pop_front 8 packet)) (omega (arith, len-pop_front-le packet, fits))

checked_fits : (ports : PlainPorts) (head : Ipv4) (udp : Udp) (packet : Packet) → len packet ≤ 65515 → All FitsDatagram (checked ports head udp packet)
checked_fits ports head udp packet fits =
    let app = app_at udp.dport ports.udp in
    cond_both (is_intact head udp packet) (delivered head udp packet app) (Dropped ∷ []) (All FitsDatagram)
    (λ intact. delivered_fits head udp packet app fits) (λ broken. one Dropped tt)

headed_fits : (ports : PlainPorts) (head : Ipv4) (packet : Packet) (udp : Option Udp) → len packet ≤ 65515 → All FitsDatagram (headed ports head packet udp)
headed_fits ports head packet None fits = one Dropped tt
headed_fits ports head packet (Some udp) fits =
    let shorter = cut 0 udp.length packet in
    cond_both (nat_lt (len packet) udp.length) (Dropped ∷ []) (checked ports head udp shorter) (All FitsDatagram)
    (λ short. one Dropped tt) (λ whole. checked_fits ports head udp shorter (omega (arith, len-cut-le udp.length packet, fits)))

abbrev ActsFit : Made (Act Packet) → Type 0
ActsFit made = All FitsDatagram made.acts

given_fits : (head : Ipv4) (packet : Packet) (app : Option ℕ) → len packet ≤ 65515 → All FitsDatagram (given head packet app)
given_fits head packet None fits = All-nil FitsDatagram
given_fits head packet (Some app) fits = one (ToApp app head.src 0 (pop_front 8 packet)) (omega (arith, len-pop_front-le packet, fits))

replied_fits : (head : Ipv4) (icmp : Icmp) (packet : Packet) (numbers : Numbers) → len packet ≤ 65515 → ActsFit (replied head icmp packet numbers)
replied_fits head icmp packet numbers fits =
    let payload = slice_range packet.bytes 8 (len packet) in
    let answer = from_bytes (new_uid numbers) payload in
    let size : length payload ≤ len packet - 8 = omega (arith, length-take (len packet - 8) (drop 8 packet.bytes)) in
    one (ToIp (Some head.dst) head.src 1 (message 0 0 icmp.rest answer))
    (omega (arith, len-message 0 0 icmp.rest answer, len-from_bytes (new_uid numbers) payload, size, fits))

understood_fits : (ports : PlainPorts) (head : Ipv4) (icmp : Icmp) (packet : Packet) (numbers : Numbers) → len packet ≤ 65515 → ActsFit (understood ports head icmp packet numbers)
understood_fits ports head icmp packet numbers fits =
    let reply = reply_given ports head icmp packet numbers in
    cond_both (is_request icmp) (replied head icmp packet numbers) _ ActsFit (λ request. replied_fits head icmp packet numbers fits)
    (λ other. cond_both (is_reply icmp) reply (nothing numbers) ActsFit
    (λ answer. given_fits head packet (app_at _ ports.pings) fits) (λ ignored. All-nil FitsDatagram))

icmp_headed_fits : (ports : PlainPorts) (head : Ipv4) (packet : Packet) (numbers : Numbers) (icmp : Option Icmp) → len packet ≤ 65515 → ActsFit (icmp_headed ports head packet numbers icmp)
icmp_headed_fits ports head packet numbers None fits = one Dropped tt
icmp_headed_fits ports head packet numbers (Some icmp) fits =
    cond_both (checksum packet.bytes == 0) (understood ports head icmp packet numbers) _ ActsFit
    (λ right. understood_fits ports head icmp packet numbers fits) (λ wrong. one Dropped tt)

length-ipv4_bytes : (head : Ipv4) → length (ipv4_bytes head) ≡ 20
unfolding ipv4_bytes
length-ipv4_bytes head = refl

reported_fits : (kind code : ℕ) (head : Ipv4) (packet : Packet) (numbers : Numbers) → ActsFit (reported kind code head packet numbers)
reported_fits kind code head packet numbers =
    let quote = quoted head packet in
    let about = from_bytes (new_uid numbers) quote in
    let payload = slice_range packet.bytes 0 (min (len packet) 8) in
    let size : length quote ≤ 28 =
    omega (arith, length-append (ipv4_bytes head) payload, length-ipv4_bytes head, length-take (min (len packet) 8 - 0) (drop 0 packet.bytes)) in
    let act = ToIp None head.src 1 (message kind code 0 about) in
    cond_both (is_told head packet) (record { numbers = with_packet numbers; acts = act ∷ [] }) (nothing numbers) ActsFit
    (λ told. one act (omega (arith, len-message kind code 0 about, len-from_bytes (new_uid numbers) quote, size))) (λ silent. All-nil FitsDatagram)

pub step_fits : (ports : PlainPorts) (numbers : Numbers) (input : In Packet) → CanTake input → All FitsDatagram (step ports numbers input).acts
step_fits ports numbers (UdpSend src sport dst port packet) can = one (udp_sent src sport dst port packet) (sent_fits src sport dst port packet can)
step_fits ports numbers (UdpArrive head packet) can = headed_fits ports head packet (udp_of (slice_range packet.bytes 0 8)) can
step_fits ports numbers (PingSend dst rest packet) can = one (ToIp None dst 1 (message 8 0 rest packet)) (omega (arith, len-message 8 0 rest packet, can))
step_fits ports numbers (IcmpArrive head packet) can = icmp_headed_fits ports head packet numbers (icmp_of (slice_range packet.bytes 0 8)) can
step_fits ports numbers (Report kind code head packet) can = reported_fits kind code head packet numbers
