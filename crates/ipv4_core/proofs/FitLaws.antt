-- What IPv4 hands on fits a datagram.
use Rattle.std.proofs.Common.{ℕ, ◌≡◌, ◌+◌, ◌-◌, ◌<◌, ◌≤◌, ◌^◌, ◌||◌, [], ◌∷◌, All, Option, None, Some, length, drop, refl, ap, ◌∙◌, subst, arith, length-take}
use Rattle.std.specs.Prelude.{IfSome, nat_le, nat_lt, slice_range}
use Rattle.std.proofs.lemmas.Bool.{cond_both}
use Rattle.std.proofs.lemmas.List.Elements.{All-nil, All-cons}
use Rattle.sim_base.specs.declared.numbers.Numbers.{Numbers}
use Rattle.sim_base.specs.declared.item.Kind.TheVariants.{Ipv4 as Ipv4Item}
use Rattle.sim_base.specs.Packet.{Packet, len, cut}
use Rattle.sim_base.proofs.PacketLaws.{bytes-cut, len-push_front}
use Rattle.header_forms.specs.declared.ipv4.Ipv4.{Ipv4}
use Rattle.header_forms.specs.Ipv4.{ipv4_bytes, ipv4_of}
use Rattle.ipv4_core.specs.declared.ip.Act.{Act}
use Rattle.ipv4_core.specs.declared.ip.Act.TheVariants.{Local, Report, Dropped}
use Rattle.ipv4_core.specs.declared.routes.Way.{Way}
use Rattle.ipv4_core.specs.Routes.{route}
use Rattle.ipv4_core.specs.Ip.{PlainIp, FitsDatagram, arrived, data_of, forward, forwarded, headed, input, is_fragment, is_known, is_own, is_too_long, local, most_data, new_head, out, sent, told, with_head}

length-ipv4_bytes : (head : Ipv4) → length (ipv4_bytes head) ≡ 20
unfolding ipv4_bytes
length-ipv4_bytes head = refl

len-with_head : (head : Ipv4) (packet : Packet) → len (with_head head packet) ≡ 20 + len packet
len-with_head head packet = len-push_front Ipv4Item (ipv4_bytes head) packet ∙ ap (λ n. n + len packet) (length-ipv4_bytes head)

one : (act : Act Packet) → FitsDatagram act → All FitsDatagram (act ∷ [])
one act fits = All-cons FitsDatagram act [] fits (All-nil FitsDatagram)

out_fits : (way : Way) (head : Ipv4) (packet : Packet) → len packet ≤ most_data → FitsDatagram (out way head packet)
out_fits way head packet fits = (omega (arith, len-with_head head packet), omega (arith, len-with_head head packet, fits))

told_fits : (kind code : ℕ) (head : Ipv4) (packet : Packet) → len packet ≤ most_data → All FitsDatagram (told kind code head packet)
told_fits kind code head packet fits = All-cons FitsDatagram (Report kind code head packet) (Dropped ∷ []) fits (one Dropped tt)

forwarded_fits : (head : Ipv4) (packet : Packet) (way : Option Way) → len packet ≤ most_data → All FitsDatagram (forwarded head packet way)
forwarded_fits head packet None fits = told_fits 3 0 head packet fits
forwarded_fits head packet (Some way) fits =
    let lower : Ipv4 = record head { ttl = head.ttl - 1 } in
    cond_both (is_too_long head packet way) (told 3 4 head packet) (out way lower packet ∷ []) (All FitsDatagram)
    (λ long. told_fits 3 4 head packet fits) (λ short. one (out way lower packet) (out_fits way lower packet fits))

forward_fits : (ip : PlainIp) (head : Ipv4) (packet : Packet) → len packet ≤ most_data → All FitsDatagram (forward ip head packet)
forward_fits ip head packet fits =
    let way = route head.dst ip.routes in
    cond_both (nat_le head.ttl 1) (told 11 0 head packet) (forwarded head packet way) (All FitsDatagram)
    (λ over. told_fits 11 0 head packet fits) (λ alive. forwarded_fits head packet way fits)

local_fits : (head : Ipv4) (packet : Packet) → len packet ≤ most_data → All FitsDatagram (local head packet)
local_fits head packet fits =
    cond_both (is_fragment head || is_known head.proto) (Local head packet ∷ []) (told 3 2 head packet) (All FitsDatagram)
    (λ known. one (Local head packet) fits) (λ unknown. told_fits 3 2 head packet fits)

input_fits : (ip : PlainIp) (head : Ipv4) (packet : Packet) → len packet ≤ most_data → All FitsDatagram (input ip head packet)
input_fits ip head packet fits =
    cond_both (is_own ip head.dst) (local head packet) (forward ip head packet) (All FitsDatagram)
    (λ own. local_fits head packet fits) (λ other. forward_fits ip head packet fits)

data_fits : (head : Ipv4) (packet : Packet) → head.total < 2 ^ 16 → len (data_of head packet) ≤ most_data
data_fits head packet small =
    let whole = cut 0 head.total packet in
    let short : len whole ≤ head.total = omega (arith, ap length (bytes-cut 0 head.total packet), length-take (head.total - 0) (drop 0 packet.bytes)) in
    omega (arith, ap length (bytes-cut 20 (len whole) whole), length-take (len whole - 20) (drop 20 whole.bytes), short)

headed_fits : (ip : PlainIp) (packet : Packet) (head : Option Ipv4) → IfSome head (λ h. (20 ≤ h.total) × (h.total < 2 ^ 16)) → All FitsDatagram (headed ip packet head)
headed_fits ip packet None small = one Dropped tt
headed_fits ip packet (Some head) small =
    cond_both (nat_lt (len packet) head.total) (Dropped ∷ []) (input ip head (data_of head packet)) (All FitsDatagram)
    (λ short. one Dropped tt) (λ whole. input_fits ip head (data_of head packet) (data_fits head packet small.1))

-- a header that was read from bytes has a total of 16 bits
pub arrived_fits : (ip : PlainIp) (packet : Packet) (read : Option Ipv4) → read ≡ ipv4_of (slice_range packet.bytes 0 20) → IfSome read (λ h. (20 ≤ h.total) × (h.total < 2 ^ 16)) → All FitsDatagram (arrived ip packet)
arrived_fits ip packet read e small = subst (λ head. All FitsDatagram (headed ip packet head)) e (headed_fits ip packet read small)

pub sent_fits : (numbers : Numbers) (src : Option ℕ) (dst proto : ℕ) (packet : Packet) (way : Option Way) → len packet ≤ most_data → All FitsDatagram (sent numbers src dst proto packet way).acts
sent_fits numbers src dst proto packet None fits = one Dropped tt
sent_fits numbers src dst proto packet (Some way) fits =
    let head = new_head numbers src dst proto packet way in
    one (out way head packet) (out_fits way head packet fits)
