-- The header of TCP (RFC 9293, section 3.1).
use Rattle.std.specs.Prelude.{ℕ, ◌≡◌, ◌*◌, ◌/◌, ◌^◌, ◌<◌, ◌≤◌, ◌++◌, ◌⊎◌, ◌&&◌, nat_le, Bool, if◌then◌else◌, Option, None, Some, Result, Ok, Err, IfSome, List, [], ◌∷◌, length, drop, slice_range}
use Rattle.std.specs.List.{concat}
use Rattle.byteorder.specs.Endian.{big_bytes}
use Rattle.header_forms.specs.declared.bad.Bad.{Bad}
use Rattle.header_forms.specs.declared.bad.Bad.TheVariants.{Short, Version, Length, Checksum}
use Rattle.header_forms.specs.declared.tcp.Tcp.{Tcp}
use Rattle.header_forms.specs.Fields.{field}
use Rattle.header_forms.specs.TcpOptions.{options_from}

-- the option that gives a maximum segment size
abbrev pub mss_option : Option ℕ → List (List ℕ)
mss_option None = []
mss_option (Some mss) = big_bytes 1 2 ∷ big_bytes 1 4 ∷ big_bytes 2 mss ∷ []

-- the length that is written: the fixed part, and four bytes for the maximum segment size
abbrev pub written_size : Option ℕ → ℕ
written_size None = 20
written_size (Some mss) = 24

-- the fixed part with this byte for the size, and then an option
abbrev pub tcp_with : ℕ → Option ℕ → Tcp → List ℕ
tcp_with size mss h =
    concat (
    big_bytes 2 h.sport ∷ big_bytes 2 h.dport ∷ big_bytes 4 h.seq ∷ big_bytes 4 h.ack ∷ big_bytes 1 size
    ∷ big_bytes 1 h.flags ∷ big_bytes 2 h.window ∷ big_bytes 2 h.checksum ∷ big_bytes 2 0 ∷ mss_option mss
    )

-- the size in words of four bytes, in the high half of a byte
abbrev pub size_byte : Option ℕ → ℕ
size_byte None = 80
size_byte (Some mss) = 96

-- the one spelling
unfoldable pub tcp_bytes : Tcp → List ℕ
tcp_bytes h = tcp_with (size_byte h.mss) h.mss h

-- the bytes are this header as it is written, and the rest
pub record IsTcp (h : Tcp) (bytes rest : List ℕ) : Type 0 where
  pub spelled : bytes ≡ tcp_bytes h ++ rest
  pub size : h.size ≡ written_size h.mss

-- how many bytes the header says that it has
abbrev pub size_field : List ℕ → ℕ
size_field bytes = 4 * (field 12 1 bytes / 16)

-- what the options of a header of this size give
abbrev pub options_of : ℕ → List ℕ → Result (Option ℕ) ℕ
options_of size bytes = options_from 0 None (slice_range bytes 20 size)

-- the header of this size, whose options give this, where the fixed part's fields stand at their places
abbrev pub tcp_fields : ℕ → Option ℕ → List ℕ → Tcp
tcp_fields size mss bytes =
    record {
      sport = field 0 2 bytes;
      dport = field 2 2 bytes;
      seq = field 4 4 bytes;
      ack = field 8 4 bytes;
      flags = field 13 1 bytes;
      window = field 14 2 bytes;
      checksum = field 16 2 bytes;
      mss = mss;
      size = size;
    }

-- the bytes are read as this header and the rest: further options are passed over, and so are the four bits beside the
-- size and the urgent pointer
pub record ReadsTcp (h : Tcp) (bytes rest : List ℕ) : Type 0 where
  pub fields : h ≡ tcp_fields h.size h.mss bytes
  pub size : h.size ≡ size_field bytes
  pub long_enough : 20 ≤ h.size
  pub inside : h.size ≤ length bytes
  pub options : options_of h.size bytes ≡ Ok h.mss
  pub behind : rest ≡ drop h.size bytes

-- the first thing that is wrong with the bytes
abbrev pub BreaksTcp : Bad → List ℕ → Type 0
BreaksTcp (Short have) bytes =
    (have ≡ length bytes) × ((length bytes < 20) ⊎ ((20 ≤ size_field bytes) × (length bytes < size_field bytes)))
BreaksTcp (Version byte) bytes = ⊥
BreaksTcp (Length found) bytes =
    (20 ≤ length bytes)
    × (((found ≡ field 12 1 bytes / 16) × (found < 5))
    ⊎ ((20 ≤ size_field bytes) × (size_field bytes ≤ length bytes) × (options_of (size_field bytes) bytes ≡ Err found)))
BreaksTcp (Checksum found right) bytes = ⊥

-- each field is a number of its size
pub record FitsTcp (h : Tcp) : Type 0 where
  pub sport : h.sport < 2 ^ 16
  pub dport : h.dport < 2 ^ 16
  pub seq : h.seq < 2 ^ 32
  pub ack : h.ack < 2 ^ 32
  pub flags : h.flags < 2 ^ 8
  pub window : h.window < 2 ^ 16
  pub checksum : h.checksum < 2 ^ 16
  pub mss : IfSome h.mss (λ mss. mss < 2 ^ 16)

-- the bytes hold as many as their header says
abbrev pub holds_tcp : List ℕ → Bool
holds_tcp bytes = nat_le 20 (length bytes) && (nat_le 20 (size_field bytes) && nat_le (size_field bytes) (length bytes))

abbrev pub tcp_given : ℕ → List ℕ → Result (Option ℕ) ℕ → Option Tcp
tcp_given size bytes (Ok mss) = Some (tcp_fields size mss bytes)
tcp_given size bytes (Err found) = None

-- the header that bytes begin with
unfoldable pub tcp_of : List ℕ → Option Tcp
tcp_of bytes = if holds_tcp bytes then tcp_given (size_field bytes) bytes (options_of (size_field bytes) bytes) else None
