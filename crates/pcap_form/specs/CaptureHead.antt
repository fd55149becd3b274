-- How a capture file spells numbers, and its head, as the libpcap file format has them.
use Rattle.std.specs.Prelude.{ℕ, ◌≡◌, ◌^◌, ◌<◌, Bool, true, false, List, ◌++◌}
use Rattle.std.specs.Int.{w16, w32, to_be_bytes, to_le_bytes, from_be_bytes, from_le_bytes}

-- a number of 32 bits; a big file has its highest byte first
unfoldable pub word : Bool → ℕ → List ℕ
word true n = to_be_bytes w32 n
word false n = to_le_bytes w32 n

-- a number of 16 bits
unfoldable pub half : Bool → ℕ → List ℕ
half true n = to_be_bytes w16 n
half false n = to_le_bytes w16 n

-- the number of 32 bits that bytes begin with
unfoldable pub number : Bool → List ℕ → ℕ
number true bytes = from_be_bytes w32 bytes
number false bytes = from_le_bytes w32 bytes

-- the number of 16 bits that bytes begin with
unfoldable pub short_number : Bool → List ℕ → ℕ
short_number true bytes = from_be_bytes w16 bytes
short_number false bytes = from_le_bytes w16 bytes

-- the first number of a file, which tells the unit of its times
abbrev pub magic : Bool → ℕ
magic true = 0xa1b23c4d
magic false = 0xa1b2c3d4

-- how many of them are a second: nanoseconds or microseconds
abbrev pub fractions : Bool → ℕ
fractions true = 1000000000
fractions false = 1000000

-- the file goes on with its head, of 24 bytes: the magic number, the version 2.4, the time zone, the accuracy, the snap length and
-- the link type
pub record HasHead (big nano : Bool) (snaplen linktype : ℕ) (bytes rest : List ℕ) : Type 0 where
  pub zone : ℕ
  pub accuracy : ℕ
  pub is : bytes ≡ word big (magic nano) ++ (half big 2 ++ (half big 4 ++ (word big zone ++ (word big accuracy ++ (word big snaplen ++ (word big linktype ++ rest))))))
  pub snaplen_fits : snaplen < 2 ^ 32
  pub linktype_fits : linktype < 2 ^ 32
