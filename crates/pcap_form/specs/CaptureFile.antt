-- What a capture file is: a head, and then packets, each with a head of its own.
use Rattle.std.specs.Prelude.{ℕ, ◌≡◌, ◌+◌, ◌^◌, ◌<◌, ◌≤◌, Bool, List, [], ◌∷◌, ◌++◌, length}
use Rattle.pcap_form.specs.declared.capture.Capture.{Capture}
use Rattle.pcap_form.specs.declared.capture.Captured.{Captured}
use Rattle.pcap_form.specs.CaptureHead.{word, fractions, HasHead}

-- no file has more bytes
abbrev pub file_limit : ℕ
file_limit = 268435456

-- no file holds more bytes of a packet
abbrev pub frame_limit : ℕ
frame_limit = 262144

-- the file goes on with a packet: its head, of 16 bytes, and what was captured of it
pub record HasPacket (big nano : Bool) (at : ℕ) (p : Captured) (bytes rest : List ℕ) : Type 0 where
  pub frame : List ℕ
  pub is : bytes ≡ word big p.seconds ++ (word big p.fraction ++ (word big p.captured ++ (word big p.original ++ (frame ++ rest))))
  pub place : p.at ≡ at + 16
  pub fraction_small : p.fraction < fractions nano
  pub frame_short : p.captured ≤ frame_limit
  pub frame_whole : length frame ≡ p.captured
  pub seconds_fit : p.seconds < 2 ^ 32
  pub original_fits : p.original < 2 ^ 32

-- the bytes from a place on are these packets
abbrev pub ArePackets : Bool → Bool → ℕ → List ℕ → List Captured → Type 0
ArePackets big nano at bytes [] = bytes ≡ []
ArePackets big nano at bytes (p ∷ packets) = (rest : List ℕ) × HasPacket big nano at p bytes rest × ArePackets big nano (at + 16 + p.captured) rest packets

-- the bytes are a file that says this
pub record IsCapture (bytes : List ℕ) (c : Capture) : Type 0 where
  pub behind : List ℕ
  pub head : HasHead c.big c.nano c.snaplen c.linktype bytes behind
  pub packets : ArePackets c.big c.nano 24 behind c.packets
  pub short : length bytes ≤ file_limit
