-- What a file that was written says, packet by packet.
use Rattle.std.specs.Prelude.{ℕ, ◌+◌, ◌*◌, ◌/◌, ◌%◌, ◌^◌, ◌<◌, ◌≤◌, true, false, List, [], ◌∷◌, ◌++◌, length, min}
use Rattle.std.specs.List.{flat_map}
use Rattle.pcap_form.specs.declared.capture.Capture.{Capture}
use Rattle.pcap_form.specs.declared.capture.Captured.{Captured}
use Rattle.pcap_form.specs.Capture.{capture_head, captured_packet, snap_length}

-- a packet, and when it was captured
pub record Saved : Type 0 where
  pub time : ℕ
  pub bytes : List ℕ

-- what the writer takes: a time below 2^32 seconds, and a packet's bytes
pub record IsWritable (s : Saved) : Type 0 where
  pub time : s.time < 2 ^ 32 * 10 ^ 9
  pub size : length s.bytes ≤ 131072

abbrev pub saved_bytes : Saved → List ℕ
saved_bytes s = captured_packet s.time s.bytes

-- a head, and then each packet in turn
abbrev pub file_bytes : ℕ → List Saved → List ℕ
file_bytes linktype packets = capture_head linktype ++ flat_map saved_bytes packets

-- the packets from a place of the file on
abbrev pub captured_from : ℕ → List Saved → List Captured
captured_from at [] = []
captured_from at (s ∷ more) =
    record { seconds = s.time / 10 ^ 9; fraction = s.time % 10 ^ 9; captured = min (length s.bytes) snap_length; original = length s.bytes; at = at + 16 }
    ∷ captured_from (at + 16 + min (length s.bytes) snap_length) more

abbrev pub capture_written : ℕ → List Saved → Capture
capture_written linktype packets =
    record { big = false; nano = true; snaplen = snap_length; linktype = linktype; packets = captured_from 24 packets }
