-- The header of IPv4, without options.
use Rattle.std.specs.Prelude.{ℕ, ◌≡◌, ◌≢◌, ◌+◌, ◌*◌, ◌/◌, ◌%◌, ◌^◌, ◌<◌, ◌≤◌, ◌++◌, ◌&&◌, ◌==◌, nat_le, Bool, if◌then◌else◌, Option, None, Some, List, [], ◌∷◌, length}
use Rattle.std.specs.List.{concat}
use Rattle.byteorder.specs.Endian.{big_bytes}
use Rattle.header_forms.specs.declared.bad.Bad.{Bad}
use Rattle.header_forms.specs.declared.bad.Bad.TheVariants.{Short, Version, Length, Checksum}
use Rattle.header_forms.specs.declared.ipv4.Ipv4.{Ipv4}
use Rattle.header_forms.specs.Checksum.{checksum}
use Rattle.header_forms.specs.Fields.{field}
use Rattle.header_forms.specs.Ipv4Fields.{without_checksum}

-- three bits of flags, and thirteen of the offset
abbrev pub flags_and_offset : Ipv4 → ℕ
flags_and_offset h = h.flags % 8 * 8192 + h.offset % 8192

-- the header with this checksum; 69 is version 4 and five words of four bytes
abbrev pub ipv4_with : ℕ → Ipv4 → List ℕ
ipv4_with sum h =
    concat (
    big_bytes 1 69 ∷ big_bytes 1 h.tos ∷ big_bytes 2 h.total ∷ big_bytes 2 h.id ∷ big_bytes 2 (flags_and_offset h)
    ∷ big_bytes 1 h.ttl ∷ big_bytes 1 h.proto ∷ big_bytes 2 sum ∷ big_bytes 4 h.src ∷ big_bytes 4 h.dst ∷ []
    )

-- the one spelling: the checksum is that of the header with 0 in its place
unfoldable pub ipv4_bytes : Ipv4 → List ℕ
ipv4_bytes h = ipv4_with (checksum (ipv4_with 0 h)) h

-- the bytes are this header and the rest
pub record IsIpv4 (h : Ipv4) (bytes rest : List ℕ) : Type 0 where
  pub spelled : bytes ≡ ipv4_bytes h ++ rest
  pub long_enough : 20 ≤ h.total
  pub flags : h.flags < 8
  pub offset : h.offset < 8192

-- the first thing that is wrong with the bytes
abbrev pub BreaksIpv4 : Bad → List ℕ → Type 0
BreaksIpv4 (Short have) bytes = (have ≡ length bytes) × (length bytes < 20)
BreaksIpv4 (Version byte) bytes = (20 ≤ length bytes) × (byte ≡ field 0 1 bytes) × (byte ≢ 69)
BreaksIpv4 (Length found) bytes = (20 ≤ length bytes) × (field 0 1 bytes ≡ 69) × (found ≡ field 2 2 bytes) × (found < 20)
BreaksIpv4 (Checksum found right) bytes =
    (20 ≤ length bytes) × (field 0 1 bytes ≡ 69) × (20 ≤ field 2 2 bytes) × (found ≡ field 10 2 bytes)
    × (right ≡ checksum (without_checksum bytes)) × (found ≢ right)

-- each field is a number of its size
pub record FitsIpv4 (h : Ipv4) : Type 0 where
  pub tos : h.tos < 2 ^ 8
  pub total : h.total < 2 ^ 16
  pub id : h.id < 2 ^ 16
  pub ttl : h.ttl < 2 ^ 8
  pub proto : h.proto < 2 ^ 8
  pub src : h.src < 2 ^ 32
  pub dst : h.dst < 2 ^ 32

-- the fields stand at their places, whatever the first byte and the checksum are
pub record HasIpv4Fields (h : Ipv4) (bytes : List ℕ) : Type 0 where
  pub tos : h.tos ≡ field 1 1 bytes
  pub total : h.total ≡ field 2 2 bytes
  pub id : h.id ≡ field 4 2 bytes
  pub flags : h.flags ≡ field 6 2 bytes / 8192
  pub offset : h.offset ≡ field 6 2 bytes % 8192
  pub ttl : h.ttl ≡ field 8 1 bytes
  pub proto : h.proto ≡ field 9 1 bytes
  pub src : h.src ≡ field 12 4 bytes
  pub dst : h.dst ≡ field 16 4 bytes

-- the fields of bytes that may be no header
abbrev pub ipv4_fields : List ℕ → Ipv4
ipv4_fields bytes = record {
  tos = field 1 1 bytes;
  total = field 2 2 bytes;
  id = field 4 2 bytes;
  flags = field 6 2 bytes / 8192;
  offset = field 6 2 bytes % 8192;
  ttl = field 8 1 bytes;
  proto = field 9 1 bytes;
  src = field 12 4 bytes;
  dst = field 16 4 bytes;
}

-- bytes begin with a header whose checksum is right
abbrev pub begins_with_ipv4 : List ℕ → Bool
begins_with_ipv4 bytes =
    nat_le 20 (length bytes) && (field 0 1 bytes == 69 && (nat_le 20 (field 2 2 bytes) && field 10 2 bytes == checksum (without_checksum bytes)))

-- the header that bytes begin with
abbrev pub ipv4_of : List ℕ → Option Ipv4
ipv4_of bytes = if begins_with_ipv4 bytes then Some (ipv4_fields bytes) else None
