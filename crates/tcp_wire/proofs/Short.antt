-- The bytes of a segment that comes in a datagram are few.
use Rattle.std.proofs.Common.{◌≡◌, ℕ, ◌^◌, ◌<◌, ◌≤◌, Option, None, Some, length, length-drop, min, sym, ap, arith}
use Rattle.std.specs.List.{slice_range}
use Rattle.std.proofs.lemmas.List.{length-take}
use Rattle.std.proofs.lemmas.Option.{none-some, cond_some}
use Rattle.sim_base.specs.Packet.{Packet, len}
use Rattle.header_forms.specs.declared.tcp.Tcp.{Tcp}
use Rattle.header_forms.specs.Tcp.{tcp_of}
use Rattle.tcp_wire.specs.declared.words.Arrived.{Arrived}
use Rattle.tcp_wire.specs.Segment.{arrived, headed, is_intact, with_head}

headed-short : (src dst : ℕ) (p : Packet) (o : Option Tcp) (a : Arrived) → headed src dst p o ≡ Some a → length a.bytes ≤ len p
headed-short src dst p None a e = absurd (none-some a e)
headed-short src dst p (Some h) a e =
    let found = cond_some (is_intact src dst p) (with_head p h) a e in
    let same : length (slice_range p.bytes h.size (len p)) ≡ length a.bytes = ap (λ (x : Arrived). length x.bytes) found.1 in
    omega (arith, same, length-take {A = ℕ}, length-drop {A = ℕ})

pub arrived-short : (src dst : ℕ) (p : Packet) (a : Arrived) → arrived src dst p ≡ Some a → len p ≤ 65515 → length a.bytes < 2 ^ 32
unfolding arrived
arrived-short src dst p a e low =
    let few = headed-short src dst p (tcp_of (slice_range p.bytes 0 (min (len p) 60))) a e in omega arith
