-- A capture is read exactly where the bytes are one.
use Rattle.std.proofs.Common.{ℕ, zero, suc, ◌≡◌, ◌+◌, ◌<◌, ◌≤◌, ◌⊎◌, Bool, true, false, List, [], ◌∷◌, length, drop, get_or, refl, sym, ap, ◌∙◌, arith, subst, inl, inr, Fits, w8}
use Rattle.std.specs.Prelude.{Result, Ok, Err, IfOk, nat_lt, if◌then◌else◌}
use Rattle.std.proofs.lemmas.Bool.{le-ltb, ltb-false}
use Rattle.std.proofs.lemmas.List.{length-drop}
use Rattle.pcap_form.specs.declared.capture.Capture.{Capture}
use Rattle.pcap_form.specs.declared.capture.Captured.{Captured}
use Rattle.pcap_form.specs.declared.capture.CaptureStop.{CaptureStop}
use Rattle.pcap_form.specs.declared.capture.CaptureStop.TheVariants.{Bad, NoMemory}
use Rattle.pcap_form.specs.declared.reader.FileHead.{FileHead}
use Rattle.pcap_form.specs.declared.reader.Form.{Form}
use Rattle.pcap_form.specs.CaptureFile.{file_limit, ArePackets, IsCapture}
use Rattle.pcap_form.specs.CaptureHead.{HasHead}
use Rattle.pcap_form.specs.Reading.{behind, capture_of, head_of, headed, limited, packet_of, packets_of, with_packets, IsReading}
use Rattle.pcap_form.proofs.HeadLaws.{fits_behind, head_spelled, head_read}
use Rattle.pcap_form.proofs.LoopLaws.{packets_of-nil, packets_of-next, packets_of-stop}
use Rattle.pcap_form.proofs.PacketLaws.{packet_spelled, packet_read}

-- packets are spelled where at most so many are read
record AreSpelled (k : ℕ) (form : Form) : Type 0 where
  all : (at : ℕ) (bytes : List ℕ) (ps : List Captured) → ((i : ℕ) → get_or bytes i 0 < 256) → length bytes ≤ k → packets_of k form at bytes ≡ Ok ps → ArePackets form.big form.nano at bytes ps

none_spelled : (form : Form) (at : ℕ) (bytes : List ℕ) (ps : List Captured) → bytes ≡ [] → ◌≡◌ {A = Result (List Captured) ℕ} (Ok []) (Ok ps) → ArePackets form.big form.nano at bytes ps
none_spelled form at bytes ps none e =
    let is : [] ≡ ps = cc in
    subst (λ (qs : List Captured). ArePackets form.big form.nano at bytes qs) is none

empty_list : (bytes : List ℕ) → length bytes ≤ 0 → bytes ≡ []
empty_list [] small = refl
empty_list (b ∷ bs) small = absurd (omega arith)

more_spelled : (k : ℕ) (form : Form) (at : ℕ) (bytes : List ℕ) (p : Captured) (r : Result (List Captured) ℕ) (ps : List Captured) → ((i : ℕ) → get_or bytes i 0 < 256) → length bytes ≤ suc k → AreSpelled k form → packet_of form at bytes ≡ Ok p → packets_of k form (at + 16 + p.captured) (drop (16 + p.captured) bytes) ≡ r → behind (p ∷ []) r ≡ Ok ps → ArePackets form.big form.nano at bytes ps
more_spelled k form at bytes p (Err place) ps fits few later first rest e = cc
more_spelled k form at bytes p (Ok more) ps fits few later first rest e =
    let is : (p ∷ more) ≡ ps = let g : ◌≡◌ {A = Result (List Captured) ℕ} (Ok (p ∷ more)) (Ok ps) = e in cc in
    let behind_it = drop (16 + p.captured) bytes in
    subst (λ (qs : List Captured). ArePackets form.big form.nano at bytes qs) is
    (behind_it, packet_spelled form at bytes p fits first, later.all (at + 16 + p.captured) behind_it more (fits_behind (16 + p.captured) bytes fits) (omega (arith, length-drop (16 + p.captured) bytes)) rest)

one_spelled : (k : ℕ) (form : Form) (at : ℕ) (bytes : List ℕ) (r : Result Captured ℕ) (ps : List Captured) → ((i : ℕ) → get_or bytes i 0 < 256) → 0 < length bytes → length bytes ≤ suc k → AreSpelled k form → packet_of form at bytes ≡ r → packets_of (suc k) form at bytes ≡ Ok ps → ArePackets form.big form.nano at bytes ps
one_spelled k form at bytes (Err place) ps fits some few later first e =
    let stop = packets_of-stop k form at bytes place some first in cc
one_spelled k form at bytes (Ok p) ps fits some few later first e =
    more_spelled k form at bytes p (packets_of k form (at + 16 + p.captured) (drop (16 + p.captured) bytes)) ps fits few later first refl
    (sym (packets_of-next k form at bytes p some first) ∙ e)

some_spelled : (k : ℕ) (form : Form) (at : ℕ) (bytes : List ℕ) (ps : List Captured) → ((i : ℕ) → get_or bytes i 0 < 256) → length bytes ≤ suc k → AreSpelled k form → packets_of (suc k) form at bytes ≡ Ok ps → ArePackets form.big form.nano at bytes ps
some_spelled k form at [] ps fits few later e = none_spelled form at [] ps refl (sym (packets_of-nil (suc k) form at) ∙ e)
some_spelled k form at (b ∷ bs) ps fits few later e =
    one_spelled k form at (b ∷ bs) (packet_of form at (b ∷ bs)) ps fits (omega arith) few later refl e

no_more_spelled : (form : Form) (at : ℕ) (bytes : List ℕ) (ps : List Captured) → length bytes ≤ 0 → packets_of 0 form at bytes ≡ Ok ps → ArePackets form.big form.nano at bytes ps
unfolding packets_of
no_more_spelled form at bytes ps small e = none_spelled form at bytes ps (empty_list bytes small) e

packets_spelled : (k : ℕ) (form : Form) → AreSpelled k form
packets_spelled zero form = record { all = λ at bytes ps fits few e. no_more_spelled form at bytes ps few e }
packets_spelled (suc k) form =
    let later = packets_spelled k form in
    record { all = λ at bytes ps fits few e. some_spelled k form at bytes ps fits few later e }

packets_read : (ps : List Captured) (k : ℕ) (form : Form) (at : ℕ) (bytes : List ℕ) → length bytes ≤ k → ArePackets form.big form.nano at bytes ps → packets_of k form at bytes ≡ Ok ps
packets_read [] k form at bytes few are = ap (packets_of k form at) are ∙ packets_of-nil k form at
packets_read (p ∷ ps) zero form at bytes few (rest, first, later) =
    let read = packet_read form at p bytes rest first in
    absurd (omega (arith, read.size))
packets_read (p ∷ ps) (suc k) form at bytes few (rest, first, later) =
    let read = packet_read form at p bytes rest first in
    let size = read.size in
    packets_of-next k form at bytes p (omega arith) read.read
    ∙ ap (λ bs. behind (p ∷ []) (packets_of k form (at + 16 + p.captured) bs)) read.rest_is
    ∙ ap (behind (p ∷ [])) (packets_read ps k form (at + 16 + p.captured) rest (omega arith) later)

with_spelled : (bytes : List ℕ) (head : FileHead) (r : Result (List Captured) ℕ) (c : Capture) → ((i : ℕ) → get_or bytes i 0 < 256) → length bytes ≤ file_limit → HasHead head.form.big head.form.nano head.snaplen head.linktype bytes (drop 24 bytes) → packets_of (length bytes) head.form 24 (drop 24 bytes) ≡ r → with_packets head r ≡ Ok c → IsCapture bytes c
with_spelled bytes head (Err place) c fits short first rest e = cc
with_spelled bytes head (Ok ps) c fits short first rest e =
    let made : Capture = record { big = head.form.big; nano = head.form.nano; snaplen = head.snaplen; linktype = head.linktype; packets = ps } in
    let is : made ≡ c = let g : ◌≡◌ {A = Result Capture ℕ} (Ok made) (Ok c) = e in cc in
    let spelled = packets_spelled (length bytes) head.form in
    subst (IsCapture bytes) is
    (record {
      behind = drop 24 bytes;
      head = first;
      packets = spelled.all 24 (drop 24 bytes) ps (fits_behind 24 bytes fits) (omega (arith, length-drop 24 bytes)) rest;
      short = short;
    })

headed_spelled : (bytes : List ℕ) (r : Result FileHead ℕ) (c : Capture) → ((i : ℕ) → get_or bytes i 0 < 256) → length bytes ≤ file_limit → head_of bytes ≡ r → headed r bytes ≡ Ok c → IsCapture bytes c
headed_spelled bytes (Err place) c fits short first e = cc
headed_spelled bytes (Ok head) c fits short first e =
    with_spelled bytes head (packets_of (length bytes) head.form 24 (drop 24 bytes)) c fits short (head_spelled bytes head fits first) refl e

-- no capture is read of too many bytes
never : (r : Result Capture ℕ) (c : Capture) → limited r ≡ Ok c → ⊥
never (Err place) c e = cc
never (Ok d) c e = cc

chosen : (t : Bool) (r : Result Capture ℕ) (c : Capture) → (if t then limited r else r) ≡ Ok c → (t ≡ false) × (r ≡ Ok c)
chosen true r c e = absurd (never r c e)
chosen false r c e = (refl, e)

pub capture_spelled : (bytes : List ℕ) (c : Capture) → ((i : ℕ) → get_or bytes i 0 < 256) → capture_of bytes ≡ Ok c → IsCapture bytes c
unfolding capture_of
capture_spelled bytes c fits e =
    let a = chosen (nat_lt file_limit (length bytes)) (headed (head_of bytes) bytes) c e in
    headed_spelled bytes (head_of bytes) c fits (ltb-false file_limit (length bytes) a.0) refl a.1

pub capture_read : (bytes : List ℕ) (c : Capture) → IsCapture bytes c → capture_of bytes ≡ Ok c
unfolding capture_of
capture_read bytes c h =
    let first = head_read c.big c.nano c.snaplen c.linktype bytes h.behind h.head in
    let t1 : nat_lt file_limit (length bytes) ≡ false = le-ltb file_limit (length bytes) h.short in
    let form : Form = record { big = c.big; nano = c.nano } in
    let packets : packets_of (length bytes) form 24 (drop 24 bytes) ≡ Ok c.packets =
    ap (packets_of (length bytes) form 24) first.rest_is
    ∙ packets_read c.packets (length bytes) form 24 h.behind (omega (arith, ap length first.rest_is, length-drop 24 bytes)) h.packets in
    rw (t1, first.read, packets)

-- what is read, as the reader answers it
pub every_read : (expected : Result Capture ℕ) (result : Result Capture CaptureStop) (c : Capture) → IsReading expected result → expected ≡ Ok c → (result ≡ Ok c) ⊎ (result ≡ Err NoMemory)
every_read expected (Ok d) c reading e = inl (ap (λ (x : Capture). Ok x) (let is : ◌≡◌ {A = Result Capture ℕ} (Ok d) (Ok c) = sym reading ∙ e in cc))
every_read expected (Err (Bad place)) c reading e = cc
every_read expected (Err NoMemory) c reading e = inr refl

below_256 : {x : ℕ} → Fits w8 x → x < 256
below_256 fits = omega (arith, fits)

pub read_spelled : (bytes : List ℕ) (result : Result Capture CaptureStop) → ((i : ℕ) → Fits w8 (get_or bytes i 0)) → IsReading (capture_of bytes) result → IfOk result (IsCapture bytes)
read_spelled bytes (Ok c) fits reading = capture_spelled bytes c (λ i. below_256 (fits i)) reading
read_spelled bytes (Err stop) fits reading = tt

pub none_has : (bytes : List ℕ) (result : Result Capture CaptureStop) (place : ℕ) → IsReading (capture_of bytes) result → result ≡ Err (Bad place) → (c : Capture) → IsCapture bytes c → ⊥
none_has bytes result place reading e c h =
    let at_place : capture_of bytes ≡ Err place = subst (IsReading (capture_of bytes)) e reading in
    let read = capture_read bytes c h in
    cc
