-- A packet is read exactly where the bytes begin with one.
use Rattle.std.proofs.Common.{inl, inr, ℕ, ◌≡◌, ◌+◌, ◌^◌, ◌<◌, ◌≤◌, Bool, true, false, List, ◌++◌, length, take, drop, get_or, refl, sym, ap, ◌∙◌, arith, subst}
use Rattle.std.specs.Prelude.{Ok, Err, ◌&&◌, nat_le, nat_lt, if◌then◌else◌}
use Rattle.std.proofs.lemmas.Bool.{le-ltb, ltb-false, leb-false, lt-leb, and_right, and_cases}
use Rattle.std.proofs.lemmas.List.{drop-drop, length-append, length-drop, length-take-le, take-append-drop, drop_at}
use Rattle.pcap_form.specs.declared.capture.Captured.{Captured}
use Rattle.pcap_form.specs.declared.reader.Form.{Form}
use Rattle.pcap_form.specs.CaptureFile.{frame_limit, HasPacket}
use Rattle.pcap_form.specs.CaptureHead.{word, number, fractions}
use Rattle.pcap_form.specs.Reading.{packet_fields, packet_of}
use Rattle.pcap_form.proofs.FieldLaws.{number-word, drop-word, length-word, word-number, number-lt}
use Rattle.pcap_form.proofs.HeadLaws.{fits_behind, passed, word_at, behind_word}

fields_spelled : (form : Form) (at : ℕ) (bytes : List ℕ) → ((i : ℕ) → get_or bytes i 0 < 256) → number form.big (drop 4 bytes) < fractions form.nano → number form.big (drop 8 bytes) ≤ frame_limit → 16 + number form.big (drop 8 bytes) ≤ length bytes → HasPacket form.big form.nano at (packet_fields form at bytes) bytes (drop (16 + number form.big (drop 8 bytes)) bytes)
fields_spelled form at bytes fits small short whole =
    let big = form.big in
    let size = number big (drop 8 bytes) in
    record {
      frame = take size (drop 16 bytes);
      is =
          word-number big bytes fits (omega arith)
          ∙ ap (λ bs. word big (number big bytes) ++ bs)
          (word_at big bytes 4 fits (omega arith)
          ∙ ap (λ bs. word big (number big (drop 4 bytes)) ++ bs)
          (word_at big bytes 8 fits (omega arith)
          ∙ ap (λ bs. word big size ++ bs)
          (word_at big bytes 12 fits (omega arith)
          ∙ ap (λ bs. word big (number big (drop 12 bytes)) ++ bs)
          (sym (take-append-drop size (drop 16 bytes)) ∙ ap (λ bs. take size (drop 16 bytes) ++ bs) (drop-drop size 16 bytes)))));
      place = refl;
      fraction_small = small;
      frame_short = short;
      frame_whole = length-take-le size (drop 16 bytes) (omega (arith, length-drop 16 bytes));
      seconds_fit = number-lt big bytes fits;
      original_fits = number-lt big (drop 12 bytes) (fits_behind 12 bytes fits);
    }

-- a bound that is tested where the bytes are long enough
within : (n size : ℕ) (t : Bool) → n ≤ size → (nat_le n size && t) ≡ false → t ≡ false
within n size t long e = elim (and_cases (nat_le n size) t e) [
  | inl short ↦ absurd (omega (arith, leb-false n size short))
  | inr bound ↦ bound
]

pub packet_spelled : (form : Form) (at : ℕ) (bytes : List ℕ) (p : Captured) → ((i : ℕ) → get_or bytes i 0 < 256) → packet_of form at bytes ≡ Ok p → HasPacket form.big form.nano at p bytes (drop (16 + p.captured) bytes)
unfolding packet_of
packet_spelled form at bytes p fits e =
    let size = length bytes in
    let fraction = number form.big (drop 4 bytes) in
    let captured = number form.big (drop 8 bytes) in
    let c = if nat_lt size (16 + captured) then Err (at + size) else Ok (packet_fields form at bytes) in
    let b = if nat_le 12 size && nat_lt frame_limit captured then Err (at + 8) else c in
    let e1 = passed (nat_le 8 size && nat_le (fractions form.nano) fraction) (at + 4) b p e in
    let e2 = passed (nat_le 12 size && nat_lt frame_limit captured) (at + 8) c p e1.1 in
    let e3 = passed (nat_lt size (16 + captured)) (at + size) (Ok (packet_fields form at bytes)) p e2.1 in
    let whole : 16 + captured ≤ size = ltb-false size (16 + captured) e3.0 in
    let small : fraction < fractions form.nano = leb-false (fractions form.nano) fraction (within 8 size (nat_le (fractions form.nano) fraction) (omega arith) e1.0) in
    let short : captured ≤ frame_limit = ltb-false frame_limit captured (within 12 size (nat_lt frame_limit captured) (omega arith) e2.0) in
    let is : packet_fields form at bytes ≡ p = cc (e3.1) in
    subst (λ (q : Captured). HasPacket form.big form.nano at q bytes (drop (16 + q.captured) bytes)) is (fields_spelled form at bytes fits small short whole)

fraction-lt : (nano : Bool) (n : ℕ) → n < fractions nano → n < 2 ^ 32
fraction-lt true n small = omega arith
fraction-lt false n small = omega arith

pub record IsPacketRead (form : Form) (at : ℕ) (p : Captured) (bytes rest : List ℕ) : Type 0 where
  pub read : packet_of form at bytes ≡ Ok p
  pub rest_is : drop (16 + p.captured) bytes ≡ rest
  pub size : length bytes ≡ 16 + p.captured + length rest

pub packet_read : (form : Form) (at : ℕ) (p : Captured) (bytes rest : List ℕ) → HasPacket form.big form.nano at p bytes rest → IsPacketRead form at p bytes rest
unfolding packet_of
packet_read form at p bytes rest h =
    let big = form.big in
    let s4 = h.frame ++ rest in
    let s3 = word big p.original ++ s4 in
    let s2 = word big p.captured ++ s3 in
    let s1 = word big p.fraction ++ s2 in
    let d4 : drop 4 bytes ≡ s1 = ap (drop 4) h.is ∙ drop-word big p.seconds s1 in
    let d8 : drop 8 bytes ≡ s2 = behind_word big p.fraction 4 bytes s2 d4 in
    let d12 : drop 12 bytes ≡ s3 = behind_word big p.captured 8 bytes s3 d8 in
    let d16 : drop 16 bytes ≡ s4 = behind_word big p.original 12 bytes s4 d12 in
    let after : drop (16 + p.captured) bytes ≡ rest = sym (drop-drop p.captured 16 bytes) ∙ ap (drop p.captured) d16 ∙ drop_at h.frame rest p.captured h.frame_whole in
    let l12 : length (drop 12 bytes) ≡ 4 + length s4 = ap length d12 ∙ length-word big p.original s4 in
    let size : length bytes ≡ 16 + p.captured + length rest = omega (arith, length-drop 12 bytes, length-append h.frame rest, h.frame_whole) in
    let short = h.frame_short in
    let n0 : number big bytes ≡ p.seconds = ap (number big) h.is ∙ number-word big p.seconds s1 h.seconds_fit in
    let n4 : number big (drop 4 bytes) ≡ p.fraction = ap (number big) d4 ∙ number-word big p.fraction s2 (fraction-lt form.nano p.fraction h.fraction_small) in
    let n8 : number big (drop 8 bytes) ≡ p.captured = ap (number big) d8 ∙ number-word big p.captured s3 (omega arith) in
    let n12 : number big (drop 12 bytes) ≡ p.original = ap (number big) d12 ∙ number-word big p.original s4 h.original_fits in
    let t1 : (nat_le 8 (length bytes) && nat_le (fractions form.nano) p.fraction) ≡ false = and_right _ _ (lt-leb (fractions form.nano) p.fraction h.fraction_small) in
    let t2 : (nat_le 12 (length bytes) && nat_lt frame_limit p.captured) ≡ false = and_right _ _ (le-ltb frame_limit p.captured h.frame_short) in
    let t3 : nat_lt (length bytes) (16 + p.captured) ≡ false = le-ltb (length bytes) (16 + p.captured) (omega arith) in
    record { read = rw (n0, n4, n8, n12, t1, t2, t3, sym h.place); rest_is = after; size = size }
