-- Laws of fields: what is read is spelled by what was read, and what was written is read again.
use Rattle.std.proofs.Common.{ℕ, suc, zero, ◌≡◌, ◌+◌, ◌-◌, ◌*◌, ◌/◌, ◌%◌, ◌^◌, ◌<◌, ◌≤◌, List, [], ◌∷◌, ◌++◌, length, take, drop, get_or, refl, sym, ap, ◌∙◌, arith, length-drop, length-take, length-append, slice_index, pow-add, Fits, w8}
use Rattle.std.specs.List.{concat, All}
use Rattle.std.proofs.lemmas.List.Elements.{All-from_get_or}
use Rattle.std.specs.Int.{byte_at, bytes_high_first}
use Rattle.std.proofs.Math.Nat.{mul_assoc, mul_comm, mul-add-div_right, mul-add-mod_self_right, mod-eq_of_lt, div-eq_of_lt, pow-suc, one-le-pow, div-one}
use Rattle.std.proofs.lemmas.List.{take_all, drop_all, drop-drop, drop_at, drop_more, append_assoc, append-nil, take-append-drop, take_at, get_or-drop}
use Rattle.byteorder.specs.Endian.{big_from, big_number, big_bytes}
use Rattle.byteorder.specs.Numbers.{big_from-lt, big_number-reads_back, length-bytes_high_first}
use borrow.Rule.Slice.PartMut.{put_mid}
use Rattle.header_forms.specs.Fields.{field}

byte_at-pow : (k x : ℕ) → byte_at k x ≡ x / 256 ^ k % 256
byte_at-pow zero x = ap (λ (y : ℕ). y % 256) (sym (div-one x))
byte_at-pow (suc k) x = refl

pow_pos256 : (n : ℕ) → zero < 256 ^ n
pow_pos256 n = let h = one-le-pow n 256 (omega arith) in omega arith

-- what stands above a byte doesn't change it
byte_at-add : (k j y x : ℕ) → byte_at k (y * 256 ^ (k + suc j) + x) ≡ byte_at k x
byte_at-add k j y x =
    let split : 256 ^ (k + suc j) ≡ 256 ^ k * (256 ^ j * 256) = pow-add 256 k (suc j) ∙ ap (λ p. 256 ^ k * p) (pow-suc 256 j) in
    let above : y * 256 ^ (k + suc j) ≡ y * 256 ^ j * 256 * 256 ^ k =
    ap (λ p. y * p) (split ∙ mul_comm (256 ^ k) (256 ^ j * 256)) ∙ sym (mul_assoc y (256 ^ j * 256) (256 ^ k))
    ∙ ap (λ p. p * 256 ^ k) (sym (mul_assoc y (256 ^ j) 256)) in
    byte_at-pow k (y * 256 ^ (k + suc j) + x)
    ∙ ap (λ p. (p + x) / 256 ^ k % 256) above
    ∙ ap (λ p. p % 256) (mul-add-div_right (pow_pos256 k) (y * 256 ^ j * 256) x)
    ∙ mul-add-mod_self_right (y * 256 ^ j) 256 (x / 256 ^ k) ∙ sym (byte_at-pow k x)

low_bytes-add : (n m y x : ℕ) → n ≤ m → bytes_high_first n (y * 256 ^ m + x) ≡ bytes_high_first n x
low_bytes-add zero m y x below = refl
low_bytes-add (suc n) m y x below =
    let at : m ≡ n + suc (m - suc n) = omega arith in
    ap (λ k. byte_at n (y * 256 ^ k + x) ∷ bytes_high_first n (y * 256 ^ m + x)) at
    ∙ ap (λ b. b ∷ bytes_high_first n (y * 256 ^ m + x)) (byte_at-add n (m - suc n) y x)
    ∙ ap (λ bs. byte_at n x ∷ bs) (low_bytes-add n m y x (omega arith))

plus_none : (x : ℕ) → x + 0 ≡ x
plus_none x = omega arith

-- the bytes of a number that was read are the bytes that it was read from
bytes-big_from : (i n : ℕ) (xs : List ℕ) → ((k : ℕ) → slice_index xs k < 256) → i + n ≤ length xs → big_bytes n (big_from i n xs) ≡ take n (drop i xs)
bytes-big_from i zero xs fits inside = refl
bytes-big_from i (suc n) xs fits inside =
    let x = slice_index xs i in
    let low = big_from (suc i) n xs in
    let below = big_from-lt (suc i) n xs fits in
    let top : byte_at n (x * 256 ^ n + low) ≡ x =
    byte_at-pow n (x * 256 ^ n + low) ∙ ap (λ p. p % 256) (mul-add-div_right (pow_pos256 n) x low ∙ ap (λ p. x + p) (div-eq_of_lt below))
    ∙ ap (λ p. p % 256) (plus_none x) ∙ mod-eq_of_lt (fits i) in
    let next : suc i ≡ i + 1 = omega arith in
    ap (λ b. b ∷ bytes_high_first n (x * 256 ^ n + low)) top
    ∙ ap (λ bs. x ∷ bs) (low_bytes-add n n x low (omega arith) ∙ bytes-big_from (suc i) n xs fits (omega arith) ∙ ap (λ k. take n (drop k xs)) next)
    ∙ sym (ap (take (suc n)) (drop_more xs i 0 (omega arith)))

-- a write at a place, as the part behind it says
pub written : (at n : ℕ) (bytes xs ys : List ℕ) → at ≤ length xs → ys ≡ bytes ++ drop n (take (length xs - at) (drop at xs)) → put_mid at (length xs - at) xs ys ≡ (take at xs ++ bytes) ++ drop (at + n) xs
written at n bytes xs ys inside e =
    let k = length xs - at in
    let long = length-drop at xs in
    ap (λ zs. take at xs ++ (ys ++ zs)) (drop_all k (drop at xs) (omega arith))
    ∙ ap (λ zs. take at xs ++ zs) (append-nil ys ∙ e ∙ ap (λ zs. bytes ++ drop n zs) (take_all k (drop at xs) (omega arith)) ∙ ap (λ zs. bytes ++ zs) (drop-drop n at xs))
    ∙ sym (append_assoc (take at xs) bytes (drop (at + n) xs))

below_256 : {x : ℕ} → Fits w8 x → x < 256
below_256 fits = omega (arith, fits)

-- the bytes from a place on are these pieces, and then the rest
pub record AreSpelled (rest : List ℕ) (at : ℕ) (bytes : List ℕ) (pieces : List (List ℕ)) : Type 0 where
  pub spelled : drop at bytes ≡ concat pieces ++ rest

pub no_piece : (end : ℕ) (bytes : List ℕ) → AreSpelled (drop end bytes) end bytes []
no_piece end bytes = record { spelled = refl }

-- one more piece of what was read, in front
pub piece_of_bytes : (at n : ℕ) (xs bytes : List ℕ) {rest : List ℕ} {pieces : List (List ℕ)} → xs ≡ take n (drop at bytes) → AreSpelled rest (at + n) bytes pieces → AreSpelled rest at bytes (xs ∷ pieces)
piece_of_bytes at n xs bytes {rest} {pieces} read later =
    let here = drop at bytes in
    record {
      spelled =
          sym (take-append-drop n here) ∙ ap (λ ys. ys ++ drop n here) (sym read)
          ∙ ap (λ ys. xs ++ ys) (drop-drop n at bytes ∙ later.spelled) ∙ sym (append_assoc xs (concat pieces) rest);
    }

-- one more field of what was read, in front
pub piece : (at n x : ℕ) (bytes : List ℕ) {rest : List ℕ} {pieces : List (List ℕ)} → ((k : ℕ) → Fits w8 (get_or bytes k 0)) → at + n ≤ length bytes → x ≡ field at n bytes → AreSpelled rest (at + n) bytes pieces → AreSpelled rest at bytes (big_bytes n x ∷ pieces)
piece at n x bytes fits inside read later =
    let here = drop at bytes in
    let fits_here : (k : ℕ) → slice_index here k < 256 = λ k. rw (get_or-drop at bytes k 0) (below_256 (fits (at + k))) in
    piece_of_bytes at n (big_bytes n x) bytes
    (ap (big_bytes n) read ∙ bytes-big_from 0 n here fits_here (omega (arith, length-drop at bytes))) later

-- the first piece of what is spelled
pub first_bytes : (at n : ℕ) (xs bytes : List ℕ) {rest : List ℕ} {pieces : List (List ℕ)} → length xs ≡ n → AreSpelled rest at bytes (xs ∷ pieces) → take n (drop at bytes) ≡ xs
first_bytes at n xs bytes {rest} {pieces} long is =
    ap (take n) (is.spelled ∙ append_assoc xs (concat pieces) rest) ∙ take_at xs (concat pieces ++ rest) n long

pub first_field : (at n x : ℕ) (bytes : List ℕ) {rest : List ℕ} {pieces : List (List ℕ)} → x < 256 ^ n → AreSpelled rest at bytes (big_bytes n x ∷ pieces) → field at n bytes ≡ x
first_field at n x bytes {rest} {pieces} small is =
    ap (big_number n) (is.spelled ∙ append_assoc (big_bytes n x) (concat pieces) rest) ∙ big_number-reads_back n x (concat pieces ++ rest) small

-- the pieces behind the first
pub behind : (at n : ℕ) (xs bytes : List ℕ) {rest : List ℕ} {pieces : List (List ℕ)} → length xs ≡ n → AreSpelled rest at bytes (xs ∷ pieces) → AreSpelled rest (at + n) bytes pieces
behind at n xs bytes {rest} {pieces} long is =
    record {
      spelled =
          sym (drop-drop n at bytes) ∙ ap (drop n) (is.spelled ∙ append_assoc xs (concat pieces) rest)
          ∙ drop_at xs (concat pieces ++ rest) n long;
    }

pub behind_field : (at n x : ℕ) (bytes : List ℕ) {rest : List ℕ} {pieces : List (List ℕ)} → AreSpelled rest at bytes (big_bytes n x ∷ pieces) → AreSpelled rest (at + n) bytes pieces
behind_field at n x bytes is = behind at n (big_bytes n x) bytes (length-bytes_high_first n x) is

-- what is written piece by piece: the first places of the bytes hold these pieces
pub record IsWritten (at : ℕ) (out : List ℕ) (pieces : List (List ℕ)) : Type 0 where
  pub front : take at out ≡ concat pieces

pub nothing_written : (out : List ℕ) → IsWritten 0 out []
nothing_written out = record { front = refl }

concat_push : (pieces : List (List ℕ)) (bytes : List ℕ) → concat (pieces ++ (bytes ∷ [])) ≡ concat pieces ++ bytes
concat_push [] bytes = append-nil bytes
concat_push (p ∷ pieces) bytes = ap (λ xs. p ++ xs) (concat_push pieces bytes) ∙ sym (append_assoc p (concat pieces) bytes)

-- one more piece, written behind the others
pub more_written : (at n : ℕ) (bytes old new : List ℕ) {pieces : List (List ℕ)} → length bytes ≡ n → at + n ≤ length old → new ≡ (take at old ++ bytes) ++ drop (at + n) old → IsWritten at old pieces → IsWritten (at + n) new (pieces ++ (bytes ∷ []))
more_written at n bytes old new {pieces} long inside made before =
    let here = take at old in
    let size : length (here ++ bytes) ≡ at + n = omega (arith, length-append here bytes, length-take at old, long, inside) in
    record {
      front =
          ap (take (at + n)) made ∙ take_at (here ++ bytes) (drop (at + n) old) (at + n) size
          ∙ ap (λ xs. xs ++ bytes) before.front ∙ sym (concat_push pieces bytes);
    }

pub all_written : (at : ℕ) (out : List ℕ) {pieces : List (List ℕ)} → length out ≡ at → IsWritten at out pieces → out ≡ concat pieces
all_written at out long is = sym (take_all at out (omega arith)) ∙ is.front

-- a slice of bytes has bytes alone
pub all_bytes : (bytes : List ℕ) → ((k : ℕ) → Fits w8 (get_or bytes k 0)) → All (λ b. b < 256) bytes
all_bytes bytes fits = All-from_get_or (λ b. b < 256) bytes 0 (λ i inside. below_256 (fits i))

-- a field of bytes is a number of its size
pub field-lt : (at n : ℕ) (bytes : List ℕ) → ((k : ℕ) → Fits w8 (get_or bytes k 0)) → field at n bytes < 256 ^ n
field-lt at n bytes fits = big_from-lt 0 n (drop at bytes) (λ k. rw (get_or-drop at bytes k 0) (below_256 (fits (at + k))))
