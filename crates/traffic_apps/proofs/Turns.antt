-- A stream in parts, and by turns of 251 bytes.
use Rattle.std.proofs.Common.{ℕ, zero, suc, ◌≡◌, ◌+◌, ◌-◌, ◌%◌, ◌<◌, ◌≤◌, List, [], ◌∷◌, ◌++◌, length, take, drop, refl, sym, ap, ◌∙◌, append_assoc, length-append, arith}
use Rattle.traffic_apps.specs.Stream.{stream}

pub length-stream : (count from : ℕ) → length (stream count from) ≡ count
unfolding stream
length-stream zero from = refl
length-stream (suc count) from = let rest = length-stream count (from + 1) in omega arith

-- one part, and then the other
pub stream-parts : (count more from : ℕ) → stream (count + more) from ≡ stream count from ++ stream more (from + count)
unfolding stream
stream-parts zero more from = ap (λ n. stream n from) (let e : 0 + more ≡ more = omega arith in e) ∙ ap (stream more) (let e : from ≡ from + 0 = omega arith in e)
stream-parts (suc count) more from =
    ap (λ n. stream n from) (let e : suc count + more ≡ suc (count + more) = omega arith in e)
    ∙ ap (λ l. from % 251 ∷ l) (stream-parts count more (from + 1) ∙ ap (λ n. stream count (from + 1) ++ stream more n) (let e : from + 1 + count ≡ from + suc count = omega arith in e))

pub take-stream : (n count from : ℕ) → n ≤ count → take n (stream count from) ≡ stream n from
unfolding stream
take-stream zero count from h = refl
take-stream (suc n) zero from h = absurd (omega arith)
take-stream (suc n) (suc count) from h = ap (λ l. from % 251 ∷ l) (take-stream n count (from + 1) (omega arith))

pub drop-stream : (n count from : ℕ) → drop n (stream (n + count) from) ≡ stream count (from + n)
unfolding stream
drop-stream zero count from = ap (λ k. stream k from) (let e : 0 + count ≡ count = omega arith in e) ∙ ap (stream count) (let e : from ≡ from + 0 = omega arith in e)
drop-stream (suc n) count from =
    ap (λ k. drop (suc n) (stream k from)) (let e : suc n + count ≡ suc (n + count) = omega arith in e)
    ∙ drop-stream n count (from + 1) ∙ ap (stream count) (let e : from + 1 + n ≡ from + suc n = omega arith in e)

-- what counts is the place in a turn
pub stream-same : (count from to : ℕ) → from % 251 ≡ to % 251 → stream count from ≡ stream count to
unfolding stream
stream-same zero from to h = refl
stream-same (suc count) from to h = λ i. h i ∷ stream-same count (from + 1) (to + 1) (let e : (from + 1) % 251 ≡ (to + 1) % 251 = omega (arith, h) in e) i

-- the rest of a turn, from the place of a position on
abbrev pub IsRest : ℕ → List ℕ → Type 0
IsRest position turn = turn ≡ stream (251 - position % 251) (position % 251)

length-rest : (position : ℕ) (turn : List ℕ) → IsRest position turn → length turn ≡ 251 - position % 251
length-rest position turn is = ap (length {A = ℕ}) is ∙ length-stream (251 - position % 251) (position % 251)

pub some-rest : (position : ℕ) (turn : List ℕ) → IsRest position turn → 0 < length turn
some-rest position turn is = let e = length-rest position turn is in omega arith

-- its first bytes are those of the stream there
pub take-rest : (position : ℕ) (turn : List ℕ) (n : ℕ) → IsRest position turn → n ≤ length turn → take n turn ≡ stream n position
take-rest position turn n is few =
    let e = length-rest position turn is in
    let low : n ≤ 251 - position % 251 = omega arith in
    ap (take n) is ∙ take-stream n (251 - position % 251) (position % 251) low
    ∙ stream-same n (position % 251) position (let same : position % 251 % 251 ≡ position % 251 = omega arith in same)

-- and all of it
pub rest-is : (position : ℕ) (turn : List ℕ) → IsRest position turn → turn ≡ stream (length turn) position
rest-is position turn is =
    let e = length-rest position turn is in
    is ∙ ap (λ n. stream n (position % 251)) (sym e)
    ∙ stream-same (length turn) (position % 251) position (let same : position % 251 % 251 ≡ position % 251 = omega arith in same)

-- behind it a turn begins
pub whole-turn : (position next : ℕ) (turn all : List ℕ) → IsRest position turn → next ≡ position + length turn → all ≡ stream (251 - 0) 0 → IsRest next all
whole-turn position next turn all is at begins =
    let e = length-rest position turn is in
    let zero_place : next % 251 ≡ 0 = omega arith in
    begins ∙ ap (λ place. stream (251 - place) place) (sym zero_place)

-- what was copied so far, and then the rest, is all
abbrev pub IsCopied : List ℕ → ℕ → ℕ → ℕ → Type 0
IsCopied bytes left count from = bytes ++ stream left (from + length bytes) ≡ stream count from

pub none-copied : (count from : ℕ) → IsCopied [] count count from
none-copied count from = ap (stream count) (let e : from + 0 ≡ from = omega arith in e)

pub turn-copied : (bytes turn more : List ℕ) (left rest count from : ℕ) → IsCopied bytes left count from → IsRest (from + length bytes) turn → more ≡ bytes ++ turn →
    left ≡ length turn + rest → IsCopied more rest count from
turn-copied bytes turn more left rest count from so_far is added parts =
    let long : length more ≡ length bytes + length turn = ap (length {A = ℕ}) added ∙ length-append bytes turn in
    let next : from + length more ≡ from + length bytes + length turn = omega arith in
    ap (λ l. l ++ stream rest (from + length more)) added
    ∙ ap (λ p. (bytes ++ turn) ++ stream rest p) next
    ∙ append_assoc bytes turn (stream rest (from + length bytes + length turn))
    ∙ ap (λ l. bytes ++ (l ++ stream rest (from + length bytes + length turn))) (rest-is (from + length bytes) turn is)
    ∙ ap (λ l. bytes ++ l) (sym (stream-parts (length turn) rest (from + length bytes)))
    ∙ ap (λ n. bytes ++ stream n (from + length bytes)) (sym parts)
    ∙ so_far

pub all-copied : (bytes turn : List ℕ) (left count from : ℕ) → IsCopied bytes left count from → IsRest (from + length bytes) turn → left ≤ length turn →
    bytes ++ take left turn ≡ stream count from
all-copied bytes turn left count from so_far is few = ap (λ l. bytes ++ l) (take-rest (from + length bytes) turn left is few) ∙ so_far

-- a turn from a place in it on
pub rest-of-turn : (turn : List ℕ) (at : ℕ) → turn ≡ stream 251 0 → at < 251 → take (length turn - at) (drop at turn) ≡ stream (251 - at) at
rest-of-turn turn at is below =
    let count : ℕ = 251 - at in
    let long : length turn ≡ 251 = ap (length {A = ℕ}) is ∙ length-stream 251 0 in
    let parts : at + count ≡ 251 = omega arith in
    let rest : drop at turn ≡ stream count at =
    ap (drop at) is ∙ ap (λ n. drop at (stream n 0)) (sym parts) ∙ drop-stream at count 0 ∙ ap (stream count) (let e : 0 + at ≡ at = omega arith in e) in
    ap (take (length turn - at)) rest ∙ take-stream (length turn - at) count at (omega arith)
    ∙ ap (λ n. stream n at) (let e : length turn - at ≡ count = omega arith in e)
