-- Nothing is reported about a report.
use Rattle.std.proofs.Common.{ℕ, ◌≡◌, ◌≢◌, ◌<◌, ◌==◌, ◌&&◌, Bool, true, false, refl, sym, ap, ◌∙◌, arith}
use Rattle.std.specs.Prelude.{slice_index}
use Rattle.std.proofs.lemmas.Bool.{cond-false, eq-eqb, ne_eqb}
use Rattle.std.proofs.Math.Nat.{mod-eq_of_lt}
use Rattle.sim_base.specs.Packet.{Packet, push_front}
use Rattle.header_forms.specs.declared.ipv4.Ipv4.{Ipv4}
use Rattle.header_forms.specs.Icmp.{icmp_bytes}
use Rattle.layer_words.specs.Acts.{Made}
use Rattle.udp_icmp.specs.declared.ports.Act.{Act}
use Rattle.udp_icmp.specs.Icmp.{is_told, message, nothing}
use Rattle.udp_icmp.specs.Reports.{IsErrorKind, IsSilentAbout}

-- the first byte of a message tells its kind
first_byte : (kind code rest : ℕ) (about : Packet) → kind < 256 → slice_index (message kind code rest about).bytes 0 ≡ kind
unfolding push_front icmp_bytes
first_byte kind code rest about small = mod-eq_of_lt small

never : (b : Bool) → (b && false) ≡ false
never true = refl
never false = refl

untold : (head : Ipv4) (packet : Packet) → head.proto ≡ 1 → slice_index packet.bytes 0 ≢ 0 → slice_index packet.bytes 0 ≢ 8 → is_told head packet ≡ false
untold head packet icmp reply request =
    let proto = eq-eqb head.proto 1 icmp in
    let no_reply = ne_eqb (slice_index packet.bytes 0) 0 reply in
    let no_request = ne_eqb (slice_index packet.bytes 0) 8 request in
    rw (proto, no_reply, no_request) (never (head.offset == 0))

pub nothing_about_reports : (kind code rest : ℕ) (about : Packet) → IsErrorKind kind → IsSilentAbout kind code rest about
nothing_about_reports kind code rest about is ports numbers head why which icmp =
    let packet = message kind code rest about in
    let first = first_byte kind code rest about (omega (arith, is.0)) in
    let silent = untold head packet icmp (λ e. is.1 (sym first ∙ e)) (λ e. is.2 (sym first ∙ e)) in
    ap (λ (made : Made (Act Packet)). made.acts) (cond-false (is_told head packet) _ (nothing numbers) silent)
