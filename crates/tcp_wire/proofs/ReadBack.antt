-- A segment is read as it was written.
use Rattle.std.proofs.Common.{ℕ, ◌≡◌, ◌+◌, ◌-◌, ◌*◌, ◌^◌, ◌<◌, ◌≤◌, ◌==◌, Bool, true, false, cond, min, Option, None, Some, List, [], ◌∷◌, ◌++◌, length, take, drop, length-append, append_assoc, refl, sym, ap, ◌∙◌, arith}
use Rattle.std.specs.Prelude.{slice_range, slice_index}
use Rattle.std.specs.List.{fold, concat, All}
use Rattle.std.proofs.Math.Seq.{take-append-add, drop-append_seam}
use Rattle.std.proofs.lemmas.List.{take_all}
use Rattle.byteorder.specs.Endian.{big_bytes}
use Rattle.byteorder.specs.Numbers.{big_number-reads_back}
use Rattle.sim_base.specs.declared.item.Kind.TheVariants.{Tcp as TcpItem}
use Rattle.sim_base.specs.declared.numbers.Uid.{Uid}
use Rattle.sim_base.specs.Packet.{len, from_bytes, add_byte_tag}
use Rattle.sim_base.proofs.PacketLaws.{bytes-push_front}
use Rattle.header_forms.specs.Checksum.{pairs, add_around, checksum}
use Rattle.header_forms.specs.Tcp.{tcp_bytes, tcp_of, written_size, FitsTcp}
use Rattle.header_forms.proofs.ChecksumLaws.{checksum-lt}
use Rattle.header_forms.proofs.TcpLaws.{length-tcp_bytes, tcp_again, tcp_of-reads}
use Rattle.layer_words.specs.Covered.{pseudo_header}
use Rattle.tcp_conn.specs.declared.words.Heard.{Heard}
use Rattle.tcp_wire.specs.declared.words.SocketPair.{SocketPair}
use Rattle.tcp_wire.specs.declared.words.Arrived.{Arrived}
use Rattle.tcp_wire.specs.Sayable.{IsSayable}
use Rattle.tcp_wire.specs.Segment.{flag, flags_of, has_flag, head_of, checksum_of, segment, said_by, with_head, is_intact, headed, arrived}
use Rattle.tcp_wire.proofs.Data.{bytes-data}
use Rattle.tcp_wire.proofs.RightChecksum.{AreSmall, small-append, small-pairs, all-ones}

-- the flags

abbrev bits : Bool → Bool → Bool → Bool → ℕ
bits f s r a = flag 1 f + flag 2 s + flag 4 r + flag 16 a

flags-back : (f s r a : Bool) → (has_flag 1 (bits f s r a) ≡ f) × (has_flag 2 (bits f s r a) ≡ s) × (has_flag 4 (bits f s r a) ≡ r) × (has_flag 16 (bits f s r a) ≡ a)
flags-back true true true true = (refl, refl, refl, refl)
flags-back true true true false = (refl, refl, refl, refl)
flags-back true true false true = (refl, refl, refl, refl)
flags-back true true false false = (refl, refl, refl, refl)
flags-back true false true true = (refl, refl, refl, refl)
flags-back true false true false = (refl, refl, refl, refl)
flags-back true false false true = (refl, refl, refl, refl)
flags-back true false false false = (refl, refl, refl, refl)
flags-back false true true true = (refl, refl, refl, refl)
flags-back false true true false = (refl, refl, refl, refl)
flags-back false true false true = (refl, refl, refl, refl)
flags-back false true false false = (refl, refl, refl, refl)
flags-back false false true true = (refl, refl, refl, refl)
flags-back false false true false = (refl, refl, refl, refl)
flags-back false false false true = (refl, refl, refl, refl)
flags-back false false false false = (refl, refl, refl, refl)

flags-lt : (f s r a : Bool) → bits f s r a < 2 ^ 8
flags-lt f s r a = omega (arith, flag-le 1 f, flag-le 2 s, flag-le 4 r, flag-le 16 a)
  where
    flag-le : (bit : ℕ) (b : Bool) → flag bit b ≤ bit
    flag-le bit true = omega arith
    flag-le bit false = omega arith

said-back : (pair : SocketPair) (s : Heard) (sum : ℕ) → said_by (head_of pair s sum) ≡ s
said-back pair s sum =
    let f = flags-back s.fin s.syn s.rst s.has_ack in
    let n = flags_of s in
    ap (λ (b : Bool). record s { syn = has_flag 2 n; has_ack = has_flag 16 n; fin = b; rst = has_flag 4 n }) f.0
    ∙ ap (λ (b : Bool). record s { syn = b; has_ack = has_flag 16 n; rst = has_flag 4 n }) f.1
    ∙ ap (λ (b : Bool). record s { has_ack = has_flag 16 n; rst = b }) f.2
    ∙ ap (λ (b : Bool). record s { has_ack = b }) f.3

-- the checksum

-- the first bytes that the checksum covers, up to its place
abbrev in_front : SocketPair → Heard → ℕ → ℕ → List ℕ
in_front pair s size length =
    concat (
    big_bytes 4 pair.addr ∷ big_bytes 4 pair.other_addr ∷ big_bytes 1 0 ∷ big_bytes 1 6 ∷ big_bytes 2 length
    ∷ big_bytes 2 pair.port ∷ big_bytes 2 pair.other_port ∷ big_bytes 4 s.seq ∷ big_bytes 4 s.ack ∷ big_bytes 1 size
    ∷ big_bytes 1 (flags_of s) ∷ big_bytes 2 s.window ∷ []
    )

abbrev word : ℕ → ℕ
word n = slice_index (big_bytes 2 n) 0 * 256 + slice_index (big_bytes 2 n) 1

word-is : (n : ℕ) → n < 256 ^ 2 → word n ≡ n
word-is n h = let e = big_number-reads_back 2 n [] h in omega arith

small-front : (pair : SocketPair) (s : Heard) (size length : ℕ) → AreSmall (pairs (in_front pair s size length))
small-front pair s size length =
    (omega arith, (omega arith, (omega arith, (omega arith, (omega arith, (omega arith, (omega arith, (omega arith, (omega arith, (omega arith, (omega arith, (omega arith, (omega arith, (omega arith, tt))))))))))))))

abbrev option_words : Option ℕ → List ℕ
option_words None = []
option_words (Some mss) = 516 ∷ word mss ∷ []

small-option : (mss : Option ℕ) → AreSmall (option_words mss)
small-option None = tt
small-option (Some mss) = (omega arith, (omega arith, tt))

abbrev size_of : Option ℕ → ℕ
size_of None = 80
size_of (Some mss) = 96

-- the header with an option of this kind, so that the bytes compute
abbrev with_mss : Heard → Option ℕ → Heard
with_mss s mss = record s { mss = mss }

abbrev covered : SocketPair → Heard → ℕ → ℕ → List ℕ → List ℕ
covered pair s sum size bytes = (pseudo_header pair.addr pair.other_addr 6 (size + length bytes) ++ tcp_bytes (head_of pair s sum)) ++ bytes

pairs-covered : (pair : SocketPair) (s : Heard) (mss : Option ℕ) (sum : ℕ) (bytes : List ℕ) →
    pairs (covered pair (with_mss s mss) sum (written_size mss) bytes)
    ≡ pairs (in_front pair (with_mss s mss) (size_of mss) (written_size mss + length bytes)) ++ (word sum ∷ (0 ∷ (option_words mss ++ pairs bytes)))
unfolding pseudo_header tcp_bytes
pairs-covered pair s None sum bytes = refl
pairs-covered pair s (Some mss) sum bytes = refl

intact : (pair : SocketPair) (s : Heard) (bytes : List ℕ) → All (λ b. b < 256) bytes → checksum (covered pair s (checksum_of pair s bytes) (written_size s.mss) bytes) ≡ 0
unfolding checksum
intact pair s bytes all =
    let sum = checksum_of pair s bytes in
    let xs = pairs (in_front pair s (size_of s.mss) (written_size s.mss + length bytes)) in
    let ys = 0 ∷ (option_words s.mss ++ pairs bytes) in
    let is : sum ≡ 65535 - fold add_around 0 (xs ++ (0 ∷ ys)) = ap (λ l. 65535 - fold add_around 0 l) (pairs-covered pair s s.mss 0 bytes) in
    let small : AreSmall ys = (omega arith, small-append (option_words s.mss) (pairs bytes) (small-option s.mss) (small-pairs bytes all)) in
    let ones = all-ones xs ys sum (small-front pair s (size_of s.mss) (written_size s.mss + length bytes)) small is in
    let low : sum < 256 ^ 2 = omega arith in
    ap (λ l. 65535 - fold add_around 0 l) (pairs-covered pair s s.mss sum bytes)
    ∙ ap (λ w. 65535 - fold add_around 0 (xs ++ (w ∷ ys))) (word-is sum low)
    ∙ ap (λ n. 65535 - n) ones

-- the packet

bytes-segment : (uid : Uid) (app : ℕ) (pair : SocketPair) (s : Heard) (bytes : List ℕ) → (segment uid app pair s bytes).bytes ≡ tcp_bytes (head_of pair s (checksum_of pair s bytes)) ++ bytes
unfolding segment
bytes-segment uid app pair s bytes =
    let head = tcp_bytes (head_of pair s (checksum_of pair s bytes)) in
    bytes-push_front TcpItem head (add_byte_tag 1 app (from_bytes uid bytes)) ∙ ap (λ l. head ++ l) (bytes-data uid app bytes)

len-segment : (uid : Uid) (app : ℕ) (pair : SocketPair) (s : Heard) (bytes : List ℕ) → len (segment uid app pair s bytes) ≡ written_size s.mss + length bytes
len-segment uid app pair s bytes =
    let head = head_of pair s (checksum_of pair s bytes) in
    ap length (bytes-segment uid app pair s bytes) ∙ length-append (tcp_bytes head) bytes ∙ ap (λ n. n + length bytes) (length-tcp_bytes head)

size-le : (mss : Option ℕ) → written_size mss ≤ 24
size-le None = omega arith
size-le (Some mss) = omega arith

-- a segment is longer than its data by its header
pub len-segment-le : (uid : Uid) (app : ℕ) (pair : SocketPair) (s : Heard) (bytes : List ℕ) → len (segment uid app pair s bytes) ≤ 24 + length bytes
len-segment-le uid app pair s bytes = omega (arith, len-segment uid app pair s bytes, size-le s.mss)

fits : (pair : SocketPair) (s : Heard) (bytes : List ℕ) → IsSayable pair s bytes → FitsTcp (head_of pair s (checksum_of pair s bytes))
fits pair s bytes h =
    record {
      sport = h.port;
      dport = h.other_port;
      seq = h.seq;
      ack = h.ack;
      flags = flags-lt s.fin s.syn s.rst s.has_ack;
      window = h.window;
      checksum = checksum-lt ((pseudo_header pair.addr pair.other_addr 6 (written_size s.mss + length bytes) ++ tcp_bytes (head_of pair s 0)) ++ bytes);
      mss = h.mss;
    }

front-is : (head bytes whole : List ℕ) (size : ℕ) → whole ≡ head ++ bytes → length head ≡ size → size ≤ 24 → slice_range whole 0 (min (length whole) 60) ≡ head ++ take (min (length whole) 60 - size) bytes
front-is head bytes whole size e l low =
    let long : length whole ≡ size + length bytes = ap length e ∙ length-append head bytes ∙ ap (λ n. n + length bytes) l in
    let n : min (length whole) 60 - 0 ≡ length head + (min (length whole) 60 - size) = omega arith in
    ap (λ k. take k (drop 0 whole)) n ∙ ap (λ w. take (length head + (min (length whole) 60 - size)) w) e
    ∙ take-append-add head bytes (min (length whole) 60 - size)

behind-is : (head bytes whole : List ℕ) (size : ℕ) → whole ≡ head ++ bytes → length head ≡ size → slice_range whole size (length whole) ≡ bytes
behind-is head bytes whole size e l =
    let long : length whole ≡ size + length bytes = ap length e ∙ length-append head bytes ∙ ap (λ n. n + length bytes) l in
    let rest : drop size whole ≡ bytes = ap (λ n. drop n whole) (sym l) ∙ ap (drop (length head)) e ∙ drop-append_seam head bytes in
    ap (λ w. take (length whole - size) w) rest ∙ take_all (length whole - size) bytes (omega arith)

at-zero : (n : ℕ) → n ≡ 0 → (n == 0) ≡ true
at-zero n e = ap (λ m. m == 0) e

pub read-back : (uid : Uid) (app : ℕ) (pair : SocketPair) (s : Heard) (bytes : List ℕ) → IsSayable pair s bytes →
    arrived pair.addr pair.other_addr (segment uid app pair s bytes) ≡ Some (record { sport = pair.port; dport = pair.other_port; says = s; bytes = bytes })
unfolding arrived
read-back uid app pair s bytes h =
    let p = segment uid app pair s bytes in
    let head = head_of pair s (checksum_of pair s bytes) in
    let whole : p.bytes ≡ tcp_bytes head ++ bytes = bytes-segment uid app pair s bytes in
    let size = length-tcp_bytes head in
    let rest = take (min (len p) 60 - written_size s.mss) bytes in
    let front = front-is (tcp_bytes head) bytes p.bytes (written_size s.mss) whole size (size-le s.mss) in
    let found : tcp_of (slice_range p.bytes 0 (min (len p) 60)) ≡ Some head =
    tcp_of-reads head (slice_range p.bytes 0 (min (len p) 60)) rest (tcp_again head (slice_range p.bytes 0 (min (len p) 60)) rest (fits pair s bytes h) (record { spelled = front; size = refl })) in
    let covers : pseudo_header pair.addr pair.other_addr 6 (len p) ++ p.bytes ≡ covered pair s (checksum_of pair s bytes) (written_size s.mss) bytes =
    ap (λ n. pseudo_header pair.addr pair.other_addr 6 n ++ p.bytes) (len-segment uid app pair s bytes)
    ∙ ap (λ w. pseudo_header pair.addr pair.other_addr 6 (written_size s.mss + length bytes) ++ w) whole
    ∙ sym (append_assoc (pseudo_header pair.addr pair.other_addr 6 (written_size s.mss + length bytes)) (tcp_bytes head) bytes) in
    let right : is_intact pair.addr pair.other_addr p ≡ true = at-zero (checksum (pseudo_header pair.addr pair.other_addr 6 (len p) ++ p.bytes)) (ap checksum covers ∙ intact pair s bytes h.small) in
    ap (headed pair.addr pair.other_addr p) found
    ∙ ap (λ (b : Bool). cond {A = Option Arrived} b (Some (with_head p head)) None) right
    ∙ ap (λ (v : Heard). Some (record { sport = pair.port; dport = pair.other_port; says = v; bytes = slice_range p.bytes (written_size s.mss) (len p) })) (said-back pair s (checksum_of pair s bytes))
    ∙ ap (λ (l : List ℕ). Some (record { sport = pair.port; dport = pair.other_port; says = s; bytes = l })) (behind-is (tcp_bytes head) bytes p.bytes (written_size s.mss) whole size)
