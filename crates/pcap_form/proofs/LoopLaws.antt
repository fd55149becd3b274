-- Reading packet by packet: what was read so far, and then what is read of the rest, is what is read of the whole.
use Rattle.std.proofs.Common.{ℕ, zero, suc, ◌≡◌, ◌+◌, ◌-◌, ◌<◌, ◌≤◌, List, [], ◌∷◌, ◌++◌, length, take, drop, refl, sym, ap, ◌∙◌, arith}
use Rattle.std.specs.Prelude.{Result, Ok, Err}
use Rattle.std.proofs.lemmas.List.{append-nil, append_assoc, drop-drop, drop_all, length-drop, take_all}
use Rattle.pcap_form.specs.declared.capture.Captured.{Captured}
use Rattle.pcap_form.specs.declared.reader.Form.{Form}
use Rattle.pcap_form.specs.Reading.{behind, packet_of, packets_of, with_first}

pub record HasRead (form : Form) (bytes : List ℕ) (at : ℕ) (packets : List Captured) : Type 0 where
  pub fuel : ℕ
  pub inside : at ≤ length bytes
  pub enough : length bytes ≤ at + fuel
  pub is : packets_of (length bytes) form 24 (drop 24 bytes) ≡ behind packets (packets_of fuel form at (drop at bytes))

behind-nil : (r : Result (List Captured) ℕ) → behind [] r ≡ r
behind-nil (Err place) = refl
behind-nil (Ok packets) = refl

pub behind-behind : (ps : List Captured) (p : Captured) (r : Result (List Captured) ℕ) → behind ps (behind (p ∷ []) r) ≡ behind (ps ++ p ∷ []) r
behind-behind ps p (Err place) = refl
behind-behind ps p (Ok more) = ap (λ (qs : List Captured). Ok qs) (sym (append_assoc ps (p ∷ []) more))

pub packets_of-nil : (k : ℕ) (form : Form) (at : ℕ) → packets_of k form at [] ≡ Ok []
unfolding packets_of
packets_of-nil zero form at = refl
packets_of-nil (suc k) form at = refl

pub packets_of-next : (k : ℕ) (form : Form) (at : ℕ) (bytes : List ℕ) (p : Captured) → 0 < length bytes → packet_of form at bytes ≡ Ok p → packets_of (suc k) form at bytes ≡ behind (p ∷ []) (packets_of k form (at + 16 + p.captured) (drop (16 + p.captured) bytes))
unfolding packets_of
packets_of-next k form at [] p some read = absurd (omega arith)
packets_of-next k form at (b ∷ bs) p some read =
    ap (λ r. with_first r (λ (q : Captured). packets_of k form (at + 16 + q.captured) (drop (16 + q.captured) (b ∷ bs)))) read

pub packets_of-stop : (k : ℕ) (form : Form) (at : ℕ) (bytes : List ℕ) (place : ℕ) → 0 < length bytes → packet_of form at bytes ≡ Err place → packets_of (suc k) form at bytes ≡ Err place
unfolding packets_of
packets_of-stop k form at [] place some read = absurd (omega arith)
packets_of-stop k form at (b ∷ bs) place some read =
    ap (λ r. with_first r (λ (q : Captured). packets_of k form (at + 16 + q.captured) (drop (16 + q.captured) (b ∷ bs)))) read

pub nothing_read : (form : Form) (bytes : List ℕ) → 24 ≤ length bytes → HasRead form bytes 24 []
nothing_read form bytes long =
    record { fuel = length bytes; inside = long; enough = omega arith; is = sym (behind-nil (packets_of (length bytes) form 24 (drop 24 bytes))) }

left : (at : ℕ) (bytes : List ℕ) → at < length bytes → 0 < length (drop at bytes)
left at bytes more = omega (arith, length-drop at bytes)

one_more : (fuel : ℕ) (form : Form) (bytes : List ℕ) (at : ℕ) (packets : List Captured) (p : Captured) → at < length bytes → length bytes ≤ at + fuel → packet_of form at (drop at bytes) ≡ Ok p → 16 + p.captured ≤ length (drop at bytes) → packets_of (length bytes) form 24 (drop 24 bytes) ≡ behind packets (packets_of fuel form at (drop at bytes)) → HasRead form bytes (at + (16 + p.captured)) (packets ++ p ∷ [])
one_more zero form bytes at packets p more enough read whole is = absurd (omega arith)
one_more (suc k) form bytes at packets p more enough read whole is =
    let next : at + 16 + p.captured ≡ at + (16 + p.captured) = omega arith in
    record {
      fuel = k;
      inside = omega (arith, length-drop at bytes);
      enough = omega arith;
      is =
          is
          ∙ ap (behind packets) (packets_of-next k form at (drop at bytes) p (left at bytes more) read ∙ ap (λ n. behind (p ∷ []) (packets_of k form n (drop (16 + p.captured) (drop at bytes)))) next ∙ ap (λ bs. behind (p ∷ []) (packets_of k form (at + (16 + p.captured)) bs)) (drop-drop (16 + p.captured) at bytes))
          ∙ behind-behind packets p (packets_of k form (at + (16 + p.captured)) (drop (at + (16 + p.captured)) bytes));
    }

-- the bytes from a place to the end, as a slice has them
tail_is : (at : ℕ) (bytes : List ℕ) → take (length bytes - at) (drop at bytes) ≡ drop at bytes
tail_is at bytes = take_all (length bytes - at) (drop at bytes) (omega (arith, length-drop at bytes))

pub one_read : (form : Form) (bytes : List ℕ) (at : ℕ) (packets : List Captured) (p : Captured) → HasRead form bytes at packets → at < length bytes → packet_of form at (take (length bytes - at) (drop at bytes)) ≡ Ok p → 16 + p.captured ≤ length (take (length bytes - at) (drop at bytes)) → HasRead form bytes (at + (16 + p.captured)) (packets ++ p ∷ [])
one_read form bytes at packets p h more read whole =
    let tail = tail_is at bytes in
    one_more h.fuel form bytes at packets p more h.enough (ap (packet_of form at) (sym tail) ∙ read) (omega (arith, ap length tail, whole)) h.is

stopped : (fuel : ℕ) (form : Form) (bytes : List ℕ) (at place : ℕ) (packets : List Captured) → at < length bytes → length bytes ≤ at + fuel → packet_of form at (drop at bytes) ≡ Err place → packets_of (length bytes) form 24 (drop 24 bytes) ≡ behind packets (packets_of fuel form at (drop at bytes)) → packets_of (length bytes) form 24 (drop 24 bytes) ≡ Err place
stopped zero form bytes at place packets more enough read is = absurd (omega arith)
stopped (suc k) form bytes at place packets more enough read is =
    is ∙ ap (behind packets) (packets_of-stop k form at (drop at bytes) place (left at bytes more) read)

pub one_broken : (form : Form) (bytes : List ℕ) (at place : ℕ) (packets : List Captured) → HasRead form bytes at packets → at < length bytes → packet_of form at (take (length bytes - at) (drop at bytes)) ≡ Err place → packets_of (length bytes) form 24 (drop 24 bytes) ≡ Err place
one_broken form bytes at place packets h more read =
    stopped h.fuel form bytes at place packets more h.enough (ap (packet_of form at) (sym (tail_is at bytes)) ∙ read) h.is

pub all_read : (form : Form) (bytes : List ℕ) (at : ℕ) (packets : List Captured) → HasRead form bytes at packets → length bytes ≤ at → packets_of (length bytes) form 24 (drop 24 bytes) ≡ Ok packets
all_read form bytes at packets h past =
    h.is
    ∙ ap (λ bs. behind packets (packets_of h.fuel form at bs)) (drop_all at bytes past)
    ∙ ap (behind packets) (packets_of-nil h.fuel form at)
    ∙ ap (λ (qs : List Captured). Ok qs) (append-nil packets)
