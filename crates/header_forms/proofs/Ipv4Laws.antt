-- Laws of the IPv4 header.
use Rattle.std.proofs.Common.{ℕ, ◌≡◌, ◌/◌, ◌%◌, ◌^◌, ◌<◌, ◌≤◌, List, [], ◌∷◌, ◌++◌, length, take, drop, get_or, refl, sym, ap, ◌∙◌, arith, Fits, w8}
use Rattle.std.specs.Prelude.{slice_range}
use Rattle.std.specs.List.{All, concat}
use Rattle.std.proofs.lemmas.List.Elements.{All-append, All-take, All-drop, All-nil, All-cons}
use Rattle.byteorder.specs.Endian.{big_bytes}
use Rattle.byteorder.specs.Numbers.{big_number-reads_back}
use Rattle.header_forms.specs.declared.ipv4.Ipv4.{Ipv4}
use Rattle.header_forms.specs.Checksum.{checksum}
use Rattle.header_forms.specs.Fields.{field}
use Rattle.header_forms.specs.Ipv4Fields.{without_checksum}
use Rattle.header_forms.specs.Ipv4.{ipv4_with, ipv4_bytes, flags_and_offset, HasIpv4Fields}
use Rattle.header_forms.proofs.ChecksumLaws.{checksum-lt}
use Rattle.header_forms.proofs.FieldLaws.{piece, no_piece, field-lt}

pub All-without_checksum : (bytes : List ℕ) → All (λ b. b < 256) bytes → All (λ b. b < 256) (without_checksum bytes)
All-without_checksum bytes all =
    let P : ℕ → Type 0 = λ b. b < 256 in
    All-append P (take 10 bytes ++ (0 ∷ 0 ∷ [])) (slice_range bytes 12 20)
    (All-append P (take 10 bytes) (0 ∷ 0 ∷ []) (All-take P 10 bytes all) (All-cons P 0 (0 ∷ []) (omega arith) (All-cons P 0 [] (omega arith) (All-nil P))))
    (All-take P 8 (drop 12 bytes) (All-drop P 12 bytes all))

pub without_checksum-ipv4_with : (sum : ℕ) (h : Ipv4) (rest : List ℕ) → without_checksum (ipv4_with sum h ++ rest) ≡ ipv4_with 0 h
without_checksum-ipv4_with sum h rest = refl

-- the checksum's field of a header with this checksum
pub field-ipv4_with : (sum : ℕ) (h : Ipv4) (rest : List ℕ) → sum < 256 ^ 2 → field 10 2 (ipv4_with sum h ++ rest) ≡ sum
field-ipv4_with sum h rest small = big_number-reads_back 2 sum (concat (big_bytes 4 h.src ∷ big_bytes 4 h.dst ∷ []) ++ rest) small

flags_and_offset-read : (h : Ipv4) (bytes : List ℕ) (x : ℕ) → h.flags ≡ x / 8192 → h.offset ≡ x % 8192 → x < 65536 → flags_and_offset h ≡ x
flags_and_offset-read h bytes x flags offset small = omega arith

-- what was read spells the bytes
pub ipv4_read : (h : Ipv4) (bytes : List ℕ) (byte found : ℕ) → ((k : ℕ) → Fits w8 (get_or bytes k 0)) → 20 ≤ length bytes → byte ≡ field 0 1 bytes → byte ≡ 69 → HasIpv4Fields h bytes → found ≡ field 10 2 bytes → found ≡ checksum (without_checksum bytes) → bytes ≡ ipv4_bytes h ++ drop 20 bytes
unfolding ipv4_bytes
ipv4_read h bytes byte found fits long first version at sum right =
    let flags = flags_and_offset-read h bytes (field 6 2 bytes) at.flags at.offset (field-lt 6 2 bytes fits) in
    let as_read : bytes ≡ ipv4_with found h ++ drop 20 bytes =
    (piece 0 1 69 bytes fits (omega arith) (sym version ∙ first)
    (piece 1 1 h.tos bytes fits (omega arith) at.tos
    (piece 2 2 h.total bytes fits (omega arith) at.total
    (piece 4 2 h.id bytes fits (omega arith) at.id
    (piece 6 2 (flags_and_offset h) bytes fits (omega arith) flags
    (piece 8 1 h.ttl bytes fits (omega arith) at.ttl
    (piece 9 1 h.proto bytes fits (omega arith) at.proto
    (piece 10 2 found bytes fits (omega arith) sum
    (piece 12 4 h.src bytes fits (omega arith) at.src
    (piece 16 4 h.dst bytes fits (omega arith) at.dst (no_piece 20 bytes))))))))))).spelled in
    let same : found ≡ checksum (ipv4_with 0 h) =
    right ∙ ap (λ xs. checksum (without_checksum xs)) as_read ∙ ap checksum (without_checksum-ipv4_with found h (drop 20 bytes)) in
    as_read ∙ ap (λ n. ipv4_with n h ++ drop 20 bytes) same

-- a spelled header has the right checksum
pub ipv4_right : (h : Ipv4) (bytes rest : List ℕ) → bytes ≡ ipv4_bytes h ++ rest → field 10 2 bytes ≡ checksum (without_checksum bytes)
unfolding ipv4_bytes
ipv4_right h bytes rest spelled =
    let right = checksum (ipv4_with 0 h) in
    ap (field 10 2) spelled ∙ field-ipv4_with right h rest (checksum-lt (ipv4_with 0 h))
    ∙ sym (ap (λ xs. checksum (without_checksum xs)) spelled ∙ ap checksum (without_checksum-ipv4_with right h rest))

pub length-ipv4_bytes : (h : Ipv4) → length (ipv4_bytes h) ≡ 20
unfolding ipv4_bytes
length-ipv4_bytes h = refl

-- the checksum, written into the header with 0 in its place
pub ipv4_written : (h : Ipv4) (out : List ℕ) (right : ℕ) → out ≡ ipv4_with 0 h → right ≡ checksum out → (take 10 out ++ big_bytes 2 right) ++ drop 12 out ≡ ipv4_bytes h
unfolding ipv4_bytes
ipv4_written h out right e sum =
    ap (λ xs. (take 10 xs ++ big_bytes 2 right) ++ drop 12 xs) e ∙ ap (λ n. ipv4_with n h) (sum ∙ ap checksum e)
