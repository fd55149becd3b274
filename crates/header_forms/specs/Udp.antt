-- The header of UDP: two ports, the length of header and data, and the checksum.
use Rattle.std.specs.Prelude.{ℕ, ◌≡◌, ◌^◌, ◌<◌, ◌≤◌, ◌++◌, List, [], ◌∷◌, length, nat_le, if◌then◌else◌, Option, None, Some, ◌&&◌}
use Rattle.std.specs.List.{concat}
use Rattle.byteorder.specs.Endian.{big_bytes}
use Rattle.header_forms.specs.declared.bad.Bad.{Bad}
use Rattle.header_forms.specs.declared.bad.Bad.TheVariants.{Short, Version, Length, Checksum}
use Rattle.header_forms.specs.declared.udp.Udp.{Udp}
use Rattle.header_forms.specs.Fields.{field}

-- the one spelling
unfoldable pub udp_bytes : Udp → List ℕ
udp_bytes h = concat (big_bytes 2 h.sport ∷ big_bytes 2 h.dport ∷ big_bytes 2 h.length ∷ big_bytes 2 h.checksum ∷ [])

-- the bytes are this header and the rest
pub record IsUdp (h : Udp) (bytes rest : List ℕ) : Type 0 where
  pub spelled : bytes ≡ udp_bytes h ++ rest
  pub long_enough : 8 ≤ h.length

-- the first thing that is wrong with the bytes
abbrev pub BreaksUdp : Bad → List ℕ → Type 0
BreaksUdp (Short have) bytes = (have ≡ length bytes) × (length bytes < 8)
BreaksUdp (Version byte) bytes = ⊥
BreaksUdp (Length found) bytes = (8 ≤ length bytes) × (found ≡ field 4 2 bytes) × (found < 8)
BreaksUdp (Checksum found right) bytes = ⊥

-- each field is a number of its size
pub record FitsUdp (h : Udp) : Type 0 where
  pub sport : h.sport < 2 ^ 16
  pub dport : h.dport < 2 ^ 16
  pub length : h.length < 2 ^ 16
  pub checksum : h.checksum < 2 ^ 16

-- the fields of bytes that may be no header
abbrev pub udp_fields : List ℕ → Udp
udp_fields bytes = record { sport = field 0 2 bytes; dport = field 2 2 bytes; length = field 4 2 bytes; checksum = field 6 2 bytes }

-- the header that bytes begin with
abbrev pub udp_of : List ℕ → Option Udp
udp_of bytes = if nat_le 8 (length bytes) && nat_le 8 (field 4 2 bytes) then Some (udp_fields bytes) else None
