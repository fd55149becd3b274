-- The capture of bytes, or where they leave the format. A broken field's place is its first byte, and a field that doesn't stand whole
-- isn't broken. Bytes that end inside a head or a packet leave the format at their end.
use Rattle.std.specs.Prelude.{ℕ, ◌≡◌, zero, suc, ◌+◌, ◌==◌, ◌&&◌, nat_le, nat_lt, min, if◌then◌else◌, true, false, List, [], ◌∷◌, ◌++◌, length, drop, Option, Some, None, Result, Ok, Err}
use Rattle.pcap_form.specs.declared.capture.Capture.{Capture}
use Rattle.pcap_form.specs.declared.capture.Captured.{Captured}
use Rattle.pcap_form.specs.declared.capture.CaptureStop.{CaptureStop}
use Rattle.pcap_form.specs.declared.capture.CaptureStop.TheVariants.{Bad, NoMemory}
use Rattle.pcap_form.specs.declared.reader.FileHead.{FileHead}
use Rattle.pcap_form.specs.declared.reader.Form.{Form}
use Rattle.pcap_form.specs.CaptureFile.{file_limit, frame_limit}
use Rattle.pcap_form.specs.CaptureHead.{number, short_number, fractions}

-- the form of a file by its first four bytes, read as a number with the highest first
unfoldable pub form_named : ℕ → Option Form
form_named n =
    if n == 0xa1b23c4d then Some (record { big = true; nano = true })
    else if n == 0xa1b2c3d4 then Some (record { big = true; nano = false })
    else if n == 0x4d3cb2a1 then Some (record { big = false; nano = true })
    else if n == 0xd4c3b2a1 then Some (record { big = false; nano = false })
    else None

abbrev pub head_fields : Form → List ℕ → FileHead
head_fields form bytes = record { form = form; snaplen = number form.big (drop 16 bytes); linktype = number form.big (drop 20 bytes) }

-- behind the head's version stand fields of any value
abbrev pub fields_read : Form → List ℕ → Result FileHead ℕ
fields_read form bytes = if nat_lt (length bytes) 24 then Err (length bytes) else Ok (head_fields form bytes)

abbrev pub minor_read : Form → List ℕ → Result FileHead ℕ
minor_read form bytes =
    if nat_lt (length bytes) 8 then Err (length bytes)
    else if short_number form.big (drop 6 bytes) == 4 then fields_read form bytes
    else Err 6

-- behind the magic number stands the version, 2.4
abbrev pub major_read : Form → List ℕ → Result FileHead ℕ
major_read form bytes =
    if nat_lt (length bytes) 6 then Err (length bytes)
    else if short_number form.big (drop 4 bytes) == 2 then minor_read form bytes
    else Err 4

abbrev pub formed : Option Form → List ℕ → Result FileHead ℕ
formed None bytes = Err 0
formed (Some form) bytes = major_read form bytes

-- the head that bytes begin with
unfoldable pub head_of : List ℕ → Result FileHead ℕ
head_of bytes = if nat_lt (length bytes) 4 then Err (length bytes) else formed (form_named (number true bytes)) bytes

abbrev pub packet_fields : Form → ℕ → List ℕ → Captured
packet_fields form at bytes =
    record {
      seconds = number form.big bytes;
      fraction = number form.big (drop 4 bytes);
      captured = number form.big (drop 8 bytes);
      original = number form.big (drop 12 bytes);
      at = at + 16;
    }

-- the packet that bytes begin with, which stand at this place in the file
unfoldable pub packet_of : Form → ℕ → List ℕ → Result Captured ℕ
packet_of form at bytes =
    if nat_le 8 (length bytes) && nat_le (fractions form.nano) (number form.big (drop 4 bytes)) then Err (at + 4)
    else if nat_le 12 (length bytes) && nat_lt frame_limit (number form.big (drop 8 bytes)) then Err (at + 8)
    else if nat_lt (length bytes) (16 + number form.big (drop 8 bytes)) then Err (at + length bytes)
    else Ok (packet_fields form at bytes)

-- packets in front of those that are read
abbrev pub behind : List Captured → Result (List Captured) ℕ → Result (List Captured) ℕ
behind packets (Err place) = Err place
behind packets (Ok more) = Ok (packets ++ more)

abbrev pub with_first : Result Captured ℕ → (Captured → Result (List Captured) ℕ) → Result (List Captured) ℕ
with_first (Err place) more = Err place
with_first (Ok p) more = behind (p ∷ []) (more p)

-- the packets of bytes, which stand at this place in the file; there are at most so many
unfoldable pub packets_of : ℕ → Form → ℕ → List ℕ → Result (List Captured) ℕ
packets_of zero form at bytes = Ok []
packets_of (suc k) form at [] = Ok []
packets_of (suc k) form at (b ∷ bs) =
    with_first (packet_of form at (b ∷ bs)) (λ p. packets_of k form (at + 16 + p.captured) (drop (16 + p.captured) (b ∷ bs)))

abbrev pub with_packets : FileHead → Result (List Captured) ℕ → Result Capture ℕ
with_packets head (Err place) = Err place
with_packets head (Ok packets) = Ok (record { big = head.form.big; nano = head.form.nano; snaplen = head.snaplen; linktype = head.linktype; packets = packets })

-- a packet takes some bytes, so that there are no more packets than bytes
abbrev pub headed : Result FileHead ℕ → List ℕ → Result Capture ℕ
headed (Err place) bytes = Err place
headed (Ok head) bytes = with_packets head (packets_of (length bytes) head.form 24 (drop 24 bytes))

-- bytes that are too many leave the format at the limit, where they don't before
abbrev pub limited : Result Capture ℕ → Result Capture ℕ
limited (Err place) = Err (min place file_limit)
limited (Ok c) = Err file_limit

-- the capture of bytes, or the least place where they leave the format
unfoldable pub capture_of : List ℕ → Result Capture ℕ
capture_of bytes =
    if nat_lt file_limit (length bytes) then limited (headed (head_of bytes) bytes)
    else headed (head_of bytes) bytes

-- an answer is the capture or the place, or memory ran out
abbrev pub IsReading : Result Capture ℕ → Result Capture CaptureStop → Type 0
IsReading expected (Ok c) = expected ≡ Ok c
IsReading expected (Err (Bad place)) = expected ≡ Err place
IsReading expected (Err NoMemory) = Unit {0}

abbrev pub ArePacketsOf : Result (List Captured) ℕ → Result (List Captured) CaptureStop → Type 0
ArePacketsOf expected (Ok packets) = expected ≡ Ok packets
ArePacketsOf expected (Err (Bad place)) = expected ≡ Err place
ArePacketsOf expected (Err NoMemory) = Unit {0}
