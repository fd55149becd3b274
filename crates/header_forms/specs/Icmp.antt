-- The header of ICMP: what kind of message it is, the checksum, and four bytes that depend on the kind.
use Rattle.std.specs.Prelude.{ℕ, ◌≡◌, ◌^◌, ◌<◌, ◌++◌, List, [], ◌∷◌, length, nat_le, if◌then◌else◌, Option, None, Some}
use Rattle.std.specs.List.{concat}
use Rattle.byteorder.specs.Endian.{big_bytes}
use Rattle.header_forms.specs.declared.bad.Bad.{Bad}
use Rattle.header_forms.specs.declared.bad.Bad.TheVariants.{Short, Version, Length, Checksum}
use Rattle.header_forms.specs.declared.icmp.Icmp.{Icmp}
use Rattle.header_forms.specs.Fields.{field}

-- the one spelling
unfoldable pub icmp_bytes : Icmp → List ℕ
icmp_bytes h = concat (big_bytes 1 h.kind ∷ big_bytes 1 h.code ∷ big_bytes 2 h.checksum ∷ big_bytes 4 h.rest ∷ [])

-- the bytes are this header and the rest
pub record IsIcmp (h : Icmp) (bytes rest : List ℕ) : Type 0 where
  pub spelled : bytes ≡ icmp_bytes h ++ rest

-- the first thing that is wrong with the bytes
abbrev pub BreaksIcmp : Bad → List ℕ → Type 0
BreaksIcmp (Short have) bytes = (have ≡ length bytes) × (length bytes < 8)
BreaksIcmp (Version byte) bytes = ⊥
BreaksIcmp (Length found) bytes = ⊥
BreaksIcmp (Checksum found right) bytes = ⊥

-- each field is a number of its size
pub record FitsIcmp (h : Icmp) : Type 0 where
  pub kind : h.kind < 2 ^ 8
  pub code : h.code < 2 ^ 8
  pub checksum : h.checksum < 2 ^ 16
  pub rest : h.rest < 2 ^ 32

-- the fields of bytes that may be no header
abbrev pub icmp_fields : List ℕ → Icmp
icmp_fields bytes = record { kind = field 0 1 bytes; code = field 1 1 bytes; checksum = field 2 2 bytes; rest = field 4 4 bytes }

-- the header that bytes begin with
abbrev pub icmp_of : List ℕ → Option Icmp
icmp_of bytes = if nat_le 8 (length bytes) then Some (icmp_fields bytes) else None
