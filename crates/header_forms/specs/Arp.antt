-- The packets of ARP for Ethernet and IPv4.
use Rattle.std.specs.Prelude.{ℕ, ◌≡◌, ◌≢◌, ◌^◌, ◌<◌, ◌≤◌, ◌++◌, ◌⊎◌, List, [], ◌∷◌, length, take, drop, nat_le, if◌then◌else◌, Option, None, Some, Bool, ◌&&◌, ◌||◌, ◌==◌}
use Rattle.std.specs.List.{concat}
use Rattle.byteorder.specs.Endian.{big_bytes}
use Rattle.header_forms.specs.declared.bad.Bad.{Bad}
use Rattle.header_forms.specs.declared.bad.Bad.TheVariants.{Short, Version, Length, Checksum}
use Rattle.header_forms.specs.declared.arp.Arp.{Arp}
use Rattle.header_forms.specs.Fields.{field}

-- the one spelling: Ethernet is 1, IPv4 is 2048, and their addresses have 6 and 4 bytes
unfoldable pub arp_bytes : Arp → List ℕ
arp_bytes h =
    concat (
    big_bytes 2 1 ∷ big_bytes 2 2048 ∷ big_bytes 1 6 ∷ big_bytes 1 4 ∷ big_bytes 2 h.op
    ∷ h.sender_mac ∷ big_bytes 4 h.sender ∷ h.target_mac ∷ big_bytes 4 h.target ∷ []
    )

-- the bytes are this packet and the rest; 1 asks and 2 answers
pub record IsArp (h : Arp) (bytes rest : List ℕ) : Type 0 where
  pub spelled : bytes ≡ arp_bytes h ++ rest
  pub op : (h.op ≡ 1) ⊎ (h.op ≡ 2)

-- the bytes begin as a packet of ARP for Ethernet does
abbrev pub IsForEthernet : List ℕ → Type 0
IsForEthernet bytes = (28 ≤ length bytes) × (field 0 2 bytes ≡ 1)

-- the first field that has one value alone, or one of two, and has another
abbrev pub BreaksArpField : ℕ → List ℕ → Type 0
BreaksArpField found bytes =
    ((found ≡ field 2 2 bytes) × (found ≢ 2048))
    ⊎ (((field 2 2 bytes ≡ 2048) × (found ≡ field 4 1 bytes) × (found ≢ 6))
    ⊎ (((field 2 2 bytes ≡ 2048) × (field 4 1 bytes ≡ 6) × (found ≡ field 5 1 bytes) × (found ≢ 4))
    ⊎ ((field 2 2 bytes ≡ 2048) × (field 4 1 bytes ≡ 6) × (field 5 1 bytes ≡ 4) × (found ≡ field 6 2 bytes) × (found ≢ 1) × (found ≢ 2))))

-- the first thing that is wrong with the bytes
abbrev pub BreaksArp : Bad → List ℕ → Type 0
BreaksArp (Short have) bytes = (have ≡ length bytes) × (length bytes < 28)
BreaksArp (Version byte) bytes = (28 ≤ length bytes) × (field 0 2 bytes ≢ 1) × (byte ≡ field 1 1 bytes)
BreaksArp (Length found) bytes = IsForEthernet bytes × BreaksArpField found bytes
BreaksArp (Checksum found right) bytes = ⊥

-- each field is a number of its size
pub record FitsArp (h : Arp) : Type 0 where
  pub sender_mac : length h.sender_mac ≡ 6
  pub sender : h.sender < 2 ^ 32
  pub target_mac : length h.target_mac ≡ 6
  pub target : h.target < 2 ^ 32

-- the fields stand at their places
pub record HasArpFields (h : Arp) (bytes : List ℕ) : Type 0 where
  pub op : h.op ≡ field 6 2 bytes
  pub sender_mac : h.sender_mac ≡ take 6 (drop 8 bytes)
  pub sender : h.sender ≡ field 14 4 bytes
  pub target_mac : h.target_mac ≡ take 6 (drop 18 bytes)
  pub target : h.target ≡ field 24 4 bytes

-- the fields of bytes that may be no packet
abbrev pub arp_fields_of : List ℕ → Arp
arp_fields_of bytes =
    record {
      op = field 6 2 bytes;
      sender_mac = take 6 (drop 8 bytes);
      sender = field 14 4 bytes;
      target_mac = take 6 (drop 18 bytes);
      target = field 24 4 bytes;
    }

-- bytes begin with a packet for Ethernet and IPv4 that asks or answers
abbrev pub begins_with_arp : List ℕ → Bool
begins_with_arp bytes =
    nat_le 28 (length bytes) && (field 0 2 bytes == 1 && (field 2 2 bytes == 2048 && (field 4 1 bytes == 6 && (field 5 1 bytes == 4 && (field 6 2 bytes == 1 || field 6 2 bytes == 2)))))

-- the packet that bytes begin with
abbrev pub arp_of : List ℕ → Option Arp
arp_of bytes = if begins_with_arp bytes then Some (arp_fields_of bytes) else None
