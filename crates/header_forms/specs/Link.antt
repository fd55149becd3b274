-- The headers of PPP and Ethernet.
use Rattle.std.specs.Prelude.{ℕ, ◌≡◌, ◌^◌, ◌<◌, ◌++◌, List, [], ◌∷◌, length, nat_le, if◌then◌else◌, Option, None, Some, take, drop}
use Rattle.std.specs.List.{concat}
use Rattle.byteorder.specs.Endian.{big_bytes}
use Rattle.header_forms.specs.declared.bad.Bad.{Bad}
use Rattle.header_forms.specs.declared.bad.Bad.TheVariants.{Short, Version, Length, Checksum}
use Rattle.header_forms.specs.declared.link.Ppp.{Ppp}
use Rattle.header_forms.specs.declared.link.Ethernet.{Ethernet}
use Rattle.header_forms.specs.Fields.{field}

-- the one spelling
unfoldable pub ppp_bytes : Ppp → List ℕ
ppp_bytes h = big_bytes 2 h.proto

unfoldable pub ethernet_bytes : Ethernet → List ℕ
ethernet_bytes h = concat (h.dst ∷ h.src ∷ big_bytes 2 h.proto ∷ [])

-- the bytes are this header and the rest
pub record IsPpp (h : Ppp) (bytes rest : List ℕ) : Type 0 where
  pub spelled : bytes ≡ ppp_bytes h ++ rest

pub record IsEthernet (h : Ethernet) (bytes rest : List ℕ) : Type 0 where
  pub spelled : bytes ≡ ethernet_bytes h ++ rest

-- the first thing that is wrong with the bytes
abbrev pub BreaksPpp : Bad → List ℕ → Type 0
BreaksPpp (Short have) bytes = (have ≡ length bytes) × (length bytes < 2)
BreaksPpp (Version byte) bytes = ⊥
BreaksPpp (Length found) bytes = ⊥
BreaksPpp (Checksum found right) bytes = ⊥

abbrev pub BreaksEthernet : Bad → List ℕ → Type 0
BreaksEthernet (Short have) bytes = (have ≡ length bytes) × (length bytes < 14)
BreaksEthernet (Version byte) bytes = ⊥
BreaksEthernet (Length found) bytes = ⊥
BreaksEthernet (Checksum found right) bytes = ⊥

-- each field is a number of its size
pub record FitsPpp (h : Ppp) : Type 0 where
  pub proto : h.proto < 2 ^ 16

pub record FitsEthernet (h : Ethernet) : Type 0 where
  pub dst : length h.dst ≡ 6
  pub src : length h.src ≡ 6
  pub proto : h.proto < 2 ^ 16

-- the header that bytes begin with
abbrev pub ppp_of : List ℕ → Option Ppp
ppp_of bytes = if nat_le 2 (length bytes) then Some (record { proto = field 0 2 bytes }) else None

-- the fields of bytes that may be no header
abbrev pub ethernet_fields : List ℕ → Ethernet
ethernet_fields bytes = record { dst = take 6 (drop 0 bytes); src = take 6 (drop 6 bytes); proto = field 12 2 bytes }

abbrev pub ethernet_of : List ℕ → Option Ethernet
ethernet_of bytes = if nat_le 14 (length bytes) then Some (ethernet_fields bytes) else None
