-- What was written is a capture file.
use Rattle.std.proofs.Common.{ℕ, ◌+◌, ◌/◌, ◌%◌, ◌^◌, ◌<◌, ◌≤◌, true, false, List, [], ◌∷◌, ◌++◌, length, take, refl, arith}
use Rattle.std.specs.Prelude.{All, min}
use Rattle.std.specs.List.{flat_map}
use Rattle.std.proofs.lemmas.List.{length-take}
use Rattle.std.proofs.lemmas.List.Elements.{All-head, All-tail}
use Rattle.pcap_form.specs.Capture.{capture_head, packet_head, snap_length}
use Rattle.pcap_form.specs.CaptureFile.{file_limit, ArePackets, HasPacket, IsCapture}
use Rattle.pcap_form.specs.CaptureHead.{word, half, HasHead}
use Rattle.pcap_form.specs.Written.{Saved, IsWritable, saved_bytes, file_bytes, captured_from, capture_written}

head_written : (linktype : ℕ) (rest : List ℕ) → linktype < 2 ^ 32 → HasHead false true snap_length linktype (capture_head linktype ++ rest) rest
unfolding capture_head word half
head_written linktype rest small = record { zone = 0; accuracy = 0; is = refl; snaplen_fits = omega arith; linktype_fits = small }

packet_written : (at : ℕ) (s : Saved) (rest : List ℕ) → IsWritable s → HasPacket false true at (record { seconds = s.time / 10 ^ 9; fraction = s.time % 10 ^ 9; captured = min (length s.bytes) snap_length; original = length s.bytes; at = at + 16 }) (saved_bytes s ++ rest) rest
unfolding packet_head word
packet_written at s rest h =
    let time = h.time in
    let size = h.size in
    record {
      frame = take snap_length s.bytes;
      is = refl;
      place = refl;
      fraction_small = omega arith;
      frame_short = omega arith;
      frame_whole = omega (arith, length-take snap_length s.bytes);
      seconds_fit = omega arith;
      original_fits = omega arith;
    }

packets_written : (at : ℕ) (packets : List Saved) → All IsWritable packets → ArePackets false true at (flat_map saved_bytes packets) (captured_from at packets)
packets_written at [] all = refl
packets_written at (s ∷ more) all =
    (flat_map saved_bytes more, packet_written at s (flat_map saved_bytes more) (All-head IsWritable s more all), packets_written (at + 16 + min (length s.bytes) snap_length) more (All-tail IsWritable s more all))

pub capture_written-is : (linktype : ℕ) (packets : List Saved) → linktype < 2 ^ 32 → All IsWritable packets → length (file_bytes linktype packets) ≤ file_limit → IsCapture (file_bytes linktype packets) (capture_written linktype packets)
capture_written-is linktype packets small all short =
    record {
      behind = flat_map saved_bytes packets;
      head = head_written linktype (flat_map saved_bytes packets) small;
      packets = packets_written 24 packets all;
      short = short;
    }
