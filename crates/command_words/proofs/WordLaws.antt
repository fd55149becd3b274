-- Where a word is cut, and the numbers that texts write.
use Rattle.std.proofs.Common.{◌≡◌, ◌≢◌, ◌==◌, ◌&&◌, ◌||◌, ℕ, suc, ◌+◌, ◌<◌, ◌≤◌, ◌^◌, nat_lt, Bool, true, false, not, cond, if◌then◌else◌, List, [], ◌∷◌, ◌++◌, length, get_or, drop, Option, Some, None, Result, Ok, Err, refl, sym, ap, ◌∙◌, inl, inr, arith}
use Rattle.std.specs.List.{after_first, before_first, list_any}
use Rattle.std.specs.Str.{all_ascii_digits}
use Rattle.std.specs.Str.Parse.{ParsesUnsigned, digits_value}
use Rattle.std.proofs.lemmas.Bool.{cases_lt, eq-eqb, lt-ltb, ne_eqb}
use Rattle.std.proofs.lemmas.Str.Parse.{numerals_by_value, parse_plain, tells_all_ascii_digits}
use Rattle.command_words.specs.declared.command.WordCode.TheVariants.{NoValue}
use Rattle.command_words.specs.declared.command.Verb.{Verb}
use Rattle.command_words.specs.declared.setting.Given.{Given}
use Rattle.command_words.specs.declared.setting.Key.{Key}
use Rattle.command_words.specs.Command.{is_from_one_to, is_number, key_of, number_up_to, with_key, with_setting}

or-true : (b : Bool) → (b || true) ≡ true
or-true true = refl
or-true false = refl

-- a word without a byte
pub none-any : (c : ℕ) (bs : List ℕ) → ((i : ℕ) → i < length bs → get_or bs i 0 ≢ c) → list_any (λ b. b == c) bs ≡ false
none-any c [] absent = refl
none-any c (b ∷ bs) absent = let e : (b == c) ≡ false = ne_eqb b c (absent 0 (omega arith)) in rw e (none-any c bs (λ i lt. absent (suc i) (omega (arith, lt))))

some-any : (c : ℕ) (xs ys : List ℕ) → list_any (λ b. b == c) (xs ++ c ∷ ys) ≡ true
some-any c [] ys = let e : (c == c) ≡ true = eq-eqb c c refl in rw e refl
some-any c (x ∷ xs) ys = let t = some-any c xs ys in rw t (or-true (x == c))

-- a word with it
pub part-any : (c : ℕ) (bs xs ys : List ℕ) → bs ≡ xs ++ c ∷ ys → list_any (λ b. b == c) bs ≡ true
part-any c bs xs ys is = ap (list_any (λ b. b == c)) is ∙ some-any c xs ys

-- what a parse of digits without a sign gives
abbrev pub ParsedAs : {E : Type 0} → List ℕ → Result ℕ E → Type 0
ParsedAs text (Ok n) = n ≡ digits_value 10 text
ParsedAs text (Err e) = 2 ^ 32 ≤ digits_value 10 text

right-true : (a b : Bool) → (a && b) ≡ true → b ≡ true
right-true true b h = h
right-true false b h = cc

-- the first byte of a number is a digit
first-digit : (d : ℕ) (ds : List ℕ) → is_number (d ∷ ds) ≡ true → 48 ≤ d
first-digit d ds h = (tells_all_ascii_digits.parts d ds (right-true _ _ h)).0.0

no-plus : (text : List ℕ) → is_number text ≡ true → get_or text 0 0 ≢ 43
no-plus [] h = cc
no-plus (d ∷ ds) h = λ e. let low = first-digit d ds h in absurd (omega (arith, low, e))

digits : (text : List ℕ) → is_number text ≡ true → (all_ascii_digits text ≡ true) × (0 < length text)
digits [] h = cc
digits (d ∷ ds) h = (right-true _ _ h, omega arith)

pub number-parsed : {E : Type 0} (text : List ℕ) (r : Result ℕ E) → is_number text ≡ true → ParsesUnsigned 32 10 text r → ParsedAs text r
number-parsed {E} text (Ok n) h p = (parse_plain (numerals_by_value _ tells_all_ascii_digits) {E = E} 32 text (Ok n) p (no-plus text h)).1
number-parsed {E} text (Err e) h p =
    let all = digits text h in
    let far = parse_plain (numerals_by_value _ tells_all_ascii_digits) {E = E} 32 text (Err e) p (no-plus text h) in
    elim (cases_lt (digits_value 10 text) (2 ^ 32)) [
      | inl low ↦ absurd (far (all.0, all.1, low))
      | inr high ↦ high
    ]

all-false : (a b : Bool) (n : ℕ) → None ≡ (if a && (b && false) then Some n else None)
all-false true true n = refl
all-false true false n = refl
all-false false b n = refl

-- digits write more than the most
pub too-great : (most : ℕ) (text : List ℕ) → most < 2 ^ 32 → 2 ^ 32 ≤ digits_value 10 text → None ≡ number_up_to most text
too-great most text small far =
    let t : nat_lt most (digits_value 10 text) ≡ true = lt-ltb most (digits_value 10 text) (omega (arith, small, far)) in
    rw t (all-false (is_number text) (nat_lt 0 (digits_value 10 text)) (digits_value 10 text))

-- digits write this number
pub number-within : (most : ℕ) (text : List ℕ) (n : ℕ) → is_number text ≡ true → n ≡ digits_value 10 text
    → (if is_from_one_to most n then Some n else None) ≡ number_up_to most text
number-within most text n digits is =
    ap (λ m. if is_from_one_to most m then Some m else None) is
    ∙ sym (ap (λ b. if b && is_from_one_to most (digits_value 10 text) then Some (digits_value 10 text) else None) digits)

-- ---- a word and its setting

pub no-equals : (v : Verb) (given : Given) (word : List ℕ) → ((i : ℕ) → i < length word → get_or word i 0 ≢ 61) → Err NoValue ≡ with_setting v given word
no-equals v given word absent = let e = none-any 61 word absent in rw e refl

pub setting-at : (v : Verb) (given : Given) (word name text : List ℕ) (k : Option Key) → k ≡ key_of v name → name ≡ before_first (λ b. b == 61) word
    → text ≡ after_first (λ b. b == 61) word → list_any (λ b. b == 61) word ≡ true → with_key given k text ≡ with_setting v given word
setting-at v given word name text k key front behind any =
    ap (λ o. with_key given o text) (key ∙ ap (key_of v) front)
    ∙ ap (with_key given (key_of v (before_first (λ b. b == 61) word))) behind
    ∙ sym (ap (λ b. if b then with_key given (key_of v (before_first (λ c. c == 61) word)) (after_first (λ c. c == 61) word) else Err NoValue) any)
