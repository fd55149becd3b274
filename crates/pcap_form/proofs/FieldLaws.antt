-- Laws of a file's numbers: what is spelled is read again, and what is read is spelled by what was read.
use Rattle.std.proofs.Common.{ℕ, zero, suc, ◌≡◌, ◌+◌, ◌^◌, ◌<◌, ◌≤◌, Bool, true, false, List, [], ◌∷◌, ◌++◌, length, drop, get_or, refl, sym, ap, arith}
use Rattle.std.proofs.lemmas.Nat.{be_bytes_2, be_bytes_4, le_bytes_2, le_bytes_4, from_be_bytes-to_be_bytes_2, from_be_bytes-to_be_bytes_4, from_le_bytes-to_le_bytes_2, from_le_bytes-to_le_bytes_4}
use Rattle.pcap_form.specs.CaptureHead.{word, half, number, short_number}

pub number-word : (big : Bool) (n : ℕ) (rest : List ℕ) → n < 2 ^ 32 → number big (word big n ++ rest) ≡ n
unfolding number word
number-word true n rest small = from_be_bytes-to_be_bytes_4 n small
number-word false n rest small = from_le_bytes-to_le_bytes_4 n small

pub short_number-half : (big : Bool) (n : ℕ) (rest : List ℕ) → n < 2 ^ 16 → short_number big (half big n ++ rest) ≡ n
unfolding short_number half
short_number-half true n rest small = from_be_bytes-to_be_bytes_2 n small
short_number-half false n rest small = from_le_bytes-to_le_bytes_2 n small

pub drop-word : (big : Bool) (n : ℕ) (rest : List ℕ) → drop 4 (word big n ++ rest) ≡ rest
unfolding word
drop-word true n rest = refl
drop-word false n rest = refl

pub drop-half : (big : Bool) (n : ℕ) (rest : List ℕ) → drop 2 (half big n ++ rest) ≡ rest
unfolding half
drop-half true n rest = refl
drop-half false n rest = refl

pub length-word : (big : Bool) (n : ℕ) (rest : List ℕ) → length (word big n ++ rest) ≡ 4 + length rest
unfolding word
length-word true n rest = omega arith
length-word false n rest = omega arith

pub length-half : (big : Bool) (n : ℕ) (rest : List ℕ) → length (half big n ++ rest) ≡ 2 + length rest
unfolding half
length-half true n rest = omega arith
length-half false n rest = omega arith

four_fit : (a b c d : ℕ) → a < 256 → b < 256 → c < 256 → d < 256 → (i : ℕ) → get_or (a ∷ b ∷ c ∷ d ∷ []) i 0 < 256
four_fit a b c d ha hb hc hd zero = ha
four_fit a b c d ha hb hc hd (suc zero) = hb
four_fit a b c d ha hb hc hd (suc (suc zero)) = hc
four_fit a b c d ha hb hc hd (suc (suc (suc zero))) = hd
four_fit a b c d ha hb hc hd (suc (suc (suc (suc i)))) = omega arith

two_fit : (a b : ℕ) → a < 256 → b < 256 → (i : ℕ) → get_or (a ∷ b ∷ []) i 0 < 256
two_fit a b ha hb zero = ha
two_fit a b ha hb (suc zero) = hb
two_fit a b ha hb (suc (suc i)) = omega arith

-- the bytes begin with the number that is read of them
pub word-number : (big : Bool) (bytes : List ℕ) → ((k : ℕ) → get_or bytes k 0 < 256) → 4 ≤ length bytes → bytes ≡ word big (number big bytes) ++ drop 4 bytes
unfolding number word
word-number big [] fits long = absurd (omega arith)
word-number big (a ∷ []) fits long = absurd (omega arith)
word-number big (a ∷ b ∷ []) fits long = absurd (omega arith)
word-number big (a ∷ b ∷ c ∷ []) fits long = absurd (omega arith)
word-number true (a ∷ b ∷ c ∷ d ∷ rest) fits long =
    ap (λ xs. xs ++ rest) (sym (be_bytes_4 (a ∷ b ∷ c ∷ d ∷ []) _ refl (four_fit a b c d (fits 0) (fits 1) (fits 2) (fits 3)) refl))
word-number false (a ∷ b ∷ c ∷ d ∷ rest) fits long =
    ap (λ xs. xs ++ rest) (sym (le_bytes_4 (a ∷ b ∷ c ∷ d ∷ []) _ refl (four_fit a b c d (fits 0) (fits 1) (fits 2) (fits 3)) refl))

pub half-short_number : (big : Bool) (bytes : List ℕ) → ((k : ℕ) → get_or bytes k 0 < 256) → 2 ≤ length bytes → bytes ≡ half big (short_number big bytes) ++ drop 2 bytes
unfolding short_number half
half-short_number big [] fits long = absurd (omega arith)
half-short_number big (a ∷ []) fits long = absurd (omega arith)
half-short_number true (a ∷ b ∷ rest) fits long =
    ap (λ xs. xs ++ rest) (sym (be_bytes_2 (a ∷ b ∷ []) _ refl (two_fit a b (fits 0) (fits 1)) refl))
half-short_number false (a ∷ b ∷ rest) fits long =
    ap (λ xs. xs ++ rest) (sym (le_bytes_2 (a ∷ b ∷ []) _ refl (two_fit a b (fits 0) (fits 1)) refl))

-- a number of four bytes has 32 bits
pub number-lt : (big : Bool) (bytes : List ℕ) → ((k : ℕ) → get_or bytes k 0 < 256) → number big bytes < 2 ^ 32
unfolding number
number-lt true bytes fits = omega (arith, fits 0, fits 1, fits 2, fits 3)
number-lt false bytes fits = omega (arith, fits 0, fits 1, fits 2, fits 3)
