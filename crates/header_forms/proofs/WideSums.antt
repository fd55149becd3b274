-- Sums of pairs by wide words.
use Rattle.std.proofs.Common.{ℕ, ◌≡◌, ◌+◌, ◌-◌, ◌*◌, ◌%◌, ◌^◌, ◌<◌, ◌≤◌, ◌==◌, Bool, false, List, [], ◌∷◌, length, take, drop, sym, ap, ◌∙◌, arith, ⊎_elim, length-drop}
use Rattle.std.specs.Prelude.{nat_lt}
use Rattle.std.specs.List.{All}
use Rattle.std.proofs.lemmas.Bool.{eq-eqb, ne_eqb, cases_eq, cases_lt, lt-ltb, le-ltb, cond-true, cond-false}
use Rattle.std.proofs.Math.Seq.{take-add}
use Rattle.std.proofs.lemmas.List.{take-append-drop}
use Rattle.std.proofs.lemmas.List.Elements.{All-head, All-tail, All-drop}
use Rattle.byteorder.specs.Endian.{big_number}
use Rattle.header_forms.specs.Checksum.{Running, add_around, add_wide, folded, with_bytes}
use Rattle.header_forms.specs.Fields.{field}
use Rattle.header_forms.proofs.ChecksumLaws.{add_around-pair, with_bytes-append}

pub folded-some : (t : ℕ) → 0 < t → folded t ≡ (t - 1) % 65535 + 1
unfolding folded
folded-some t some = cond-false (t == 0) 0 _ (ne_eqb t 0 (λ none. omega arith))

pub folded-le : (t : ℕ) → folded t ≤ 65535
unfolding folded
folded-le t =
    ⊎_elim (λ (none : t ≡ 0). let e : folded t ≡ 0 = cond-true (t == 0) 0 _ (eq-eqb t 0 none) in omega arith)
    (λ (some : t ≡ 0 → ⊥). let e = folded-some t (omega arith) in omega arith)
    (cases_eq t 0)

pub folded-small : (s : ℕ) → s ≤ 65535 → folded s ≡ s
unfolding folded
folded-small s small =
    ⊎_elim (λ (none : s ≡ 0). let e : folded s ≡ 0 = cond-true (s == 0) 0 _ (eq-eqb s 0 none) in omega arith)
    (λ (some : s ≡ 0 → ⊥). let e = folded-some s (omega arith) in omega arith)
    (cases_eq s 0)

-- a multiple of 65535 counts for nothing, unless nothing else is there
pub folded-more : (t k : ℕ) → 0 < t → folded (t + 65535 * k) ≡ folded t
folded-more t k some =
    let big = folded-some (t + 65535 * k) (omega arith) in
    let small = folded-some t some in
    omega arith

-- one pair more
add_around-rest : (t x : ℕ) → 0 < t → x ≤ 65535 → add_around ((t - 1) % 65535 + 1) x ≡ (t + x - 1) % 65535 + 1
add_around-rest t x some small =
    let r = (t - 1) % 65535 + 1 in
    ⊎_elim
    (λ (fits : r + x < 65536). cond-true (nat_lt (r + x) 65536) _ _ (lt-ltb _ _ fits) ∙ omega arith)
    (λ (over : 65536 ≤ r + x). cond-false (nat_lt (r + x) 65536) _ _ (le-ltb _ _ over) ∙ omega arith)
    (cases_lt (r + x) 65536)

pub add_around-folded : (t x : ℕ) → x ≤ 65535 → add_around (folded t) x ≡ folded (t + x)
unfolding folded
add_around-folded t x small =
    ⊎_elim
    (λ (none : t ≡ 0).
    let e : folded t ≡ 0 = cond-true (t == 0) 0 _ (eq-eqb t 0 none) in
    let same : t + x ≡ x = omega arith in
    let sum : 0 + x ≡ x = omega arith in
    ap (λ n. add_around n x) e ∙ cond-true (nat_lt (0 + x) 65536) _ _ (lt-ltb _ _ (omega arith)) ∙ sum
    ∙ sym (ap folded same ∙ folded-small x small))
    (λ (some : t ≡ 0 → ⊥).
    let above : 0 < t = omega arith in
    ap (λ n. add_around n x) (folded-some t above) ∙ add_around-rest t x above small ∙ sym (folded-some (t + x) (omega arith)))
    (cases_eq t 0)

-- the carry out of 64 bits is a carry out of 16 bits
pub folded-add_wide : (t w : ℕ) → folded (add_wide t w) ≡ folded (t + w)
folded-add_wide t w =
    ⊎_elim
    (λ (fits : t + w < 2 ^ 64). ap folded (cond-true (nat_lt (t + w) (2 ^ 64)) _ _ (lt-ltb _ _ fits)))
    (λ (over : 2 ^ 64 ≤ t + w).
    let rest : t + w ≡ (t + w - 2 ^ 64 + 1) + 65535 * 281479271743489 = omega arith in
    ap folded (cond-false (nat_lt (t + w) (2 ^ 64)) _ _ (le-ltb _ _ over))
    ∙ sym (ap folded rest ∙ folded-more (t + w - 2 ^ 64 + 1) 281479271743489 (omega arith)))
    (cases_lt (t + w) (2 ^ 64))

-- four pairs by the number in their bytes
four_pairs : (t a b c d : ℕ) → folded (t + (a * 281474976710656 + b * 4294967296 + c * 65536 + d)) ≡ folded (t + a + b + c + d)
four_pairs t a b c d =
    ⊎_elim
    (λ (none : t + a + b + c + d ≡ 0). let same : t + (a * 281474976710656 + b * 4294967296 + c * 65536 + d) ≡ t + a + b + c + d = omega arith in ap folded same)
    (λ (some : t + a + b + c + d ≡ 0 → ⊥).
    let rest : t + (a * 281474976710656 + b * 4294967296 + c * 65536 + d) ≡ (t + a + b + c + d) + 65535 * (a * 4295032833 + b * 65537 + c) = omega arith in
    ap folded rest ∙ folded-more (t + a + b + c + d) (a * 4295032833 + b * 65537 + c) (omega arith))
    (cases_eq (t + a + b + c + d) 0)

-- a pair on a folded sum
with_pair : (t a b : ℕ) (bytes : List ℕ) → a < 256 → b < 256 → with_bytes (record { sum = folded t; odd = false }) (a ∷ b ∷ bytes) ≡ with_bytes (record { sum = folded (t + (a * 256 + b)); odd = false }) bytes
with_pair t a b bytes high low =
    ap (λ n. with_bytes (record { sum = n; odd = false }) bytes)
    (add_around-pair (folded t) a b (folded-le t) high low ∙ add_around-folded t (a * 256 + b) (omega arith))

big_number-8 : (a b c d e f g h : ℕ) (bytes : List ℕ) → big_number 8 (a ∷ b ∷ c ∷ d ∷ e ∷ f ∷ g ∷ h ∷ bytes) ≡ (a * 256 + b) * 281474976710656 + (c * 256 + d) * 4294967296 + (e * 256 + f) * 65536 + (g * 256 + h)
big_number-8 a b c d e f g h bytes = omega arith

-- the word of eight bytes on a folded sum
pub with_word : (t : ℕ) (xs : List ℕ) → 8 ≤ length xs → All (λ x. x < 256) xs → with_bytes (record { sum = folded t; odd = false }) (take 8 xs) ≡ record { sum = folded (t + big_number 8 xs); odd = false }
with_word t (a ∷ b ∷ c ∷ d ∷ e ∷ f ∷ g ∷ h ∷ xs) long all =
    let P : ℕ → Type 0 = λ x. x < 256 in
    let all1 = All-tail P a (b ∷ c ∷ d ∷ e ∷ f ∷ g ∷ h ∷ xs) all in
    let all2 = All-tail P b (c ∷ d ∷ e ∷ f ∷ g ∷ h ∷ xs) all1 in
    let all3 = All-tail P c (d ∷ e ∷ f ∷ g ∷ h ∷ xs) all2 in
    let all4 = All-tail P d (e ∷ f ∷ g ∷ h ∷ xs) all3 in
    let all5 = All-tail P e (f ∷ g ∷ h ∷ xs) all4 in
    let all6 = All-tail P f (g ∷ h ∷ xs) all5 in
    let all7 = All-tail P g (h ∷ xs) all6 in
    with_pair t a b (c ∷ d ∷ e ∷ f ∷ g ∷ h ∷ []) (All-head P a (b ∷ c ∷ d ∷ e ∷ f ∷ g ∷ h ∷ xs) all) (All-head P b (c ∷ d ∷ e ∷ f ∷ g ∷ h ∷ xs) all1)
    ∙ with_pair (t + (a * 256 + b)) c d (e ∷ f ∷ g ∷ h ∷ []) (All-head P c (d ∷ e ∷ f ∷ g ∷ h ∷ xs) all2) (All-head P d (e ∷ f ∷ g ∷ h ∷ xs) all3)
    ∙ with_pair (t + (a * 256 + b) + (c * 256 + d)) e f (g ∷ h ∷ []) (All-head P e (f ∷ g ∷ h ∷ xs) all4) (All-head P f (g ∷ h ∷ xs) all5)
    ∙ with_pair (t + (a * 256 + b) + (c * 256 + d) + (e * 256 + f)) g h [] (All-head P g (h ∷ xs) all6) (All-head P h xs all7)
    ∙ ap (λ n. record { sum = n; odd = false })
    (sym (ap (λ n. folded (t + n)) (big_number-8 a b c d e f g h xs) ∙ four_pairs t (a * 256 + b) (c * 256 + d) (e * 256 + f) (g * 256 + h)))
with_word t [] long all = absurd (omega arith)
with_word t (a ∷ []) long all = absurd (omega arith)
with_word t (a ∷ b ∷ []) long all = absurd (omega arith)
with_word t (a ∷ b ∷ c ∷ []) long all = absurd (omega arith)
with_word t (a ∷ b ∷ c ∷ d ∷ []) long all = absurd (omega arith)
with_word t (a ∷ b ∷ c ∷ d ∷ e ∷ []) long all = absurd (omega arith)
with_word t (a ∷ b ∷ c ∷ d ∷ e ∷ f ∷ []) long all = absurd (omega arith)
with_word t (a ∷ b ∷ c ∷ d ∷ e ∷ f ∷ g ∷ []) long all = absurd (omega arith)

big_number-2 : (a b : ℕ) (bytes : List ℕ) → big_number 2 (a ∷ b ∷ bytes) ≡ a * 256 + b
big_number-2 a b bytes = omega arith

-- the number in two bytes on a folded sum
pub with_two : (t : ℕ) (xs : List ℕ) → 2 ≤ length xs → All (λ x. x < 256) xs → with_bytes (record { sum = folded t; odd = false }) (take 2 xs) ≡ record { sum = folded (t + big_number 2 xs); odd = false }
with_two t (a ∷ b ∷ xs) long all =
    let P : ℕ → Type 0 = λ x. x < 256 in
    let all1 = All-tail P a (b ∷ xs) all in
    with_pair t a b [] (All-head P a (b ∷ xs) all) (All-head P b xs all1)
    ∙ ap (λ n. record { sum = n; odd = false }) (sym (ap (λ n. folded (t + n)) (big_number-2 a b xs)))
with_two t [] long all = absurd (omega arith)
with_two t (a ∷ []) long all = absurd (omega arith)

-- one pair more
pub pairs_more : (s : Running) (bytes : List ℕ) (i t w : ℕ) → All (λ x. x < 256) bytes → 2 * i + 2 ≤ length bytes → with_bytes s (take (2 * i) bytes) ≡ record { sum = folded t; odd = false } → w ≡ field (2 * i) 2 bytes → with_bytes s (take (2 * (i + 1)) bytes) ≡ record { sum = folded (add_wide t w); odd = false }
pairs_more s bytes i t w all inside before read =
    let rest = drop (2 * i) bytes in
    let next : 2 * (i + 1) ≡ 2 * i + 2 = omega arith in
    ap (λ n. with_bytes s (take n bytes)) next
    ∙ ap (with_bytes s) (take-add (2 * i) 2 bytes)
    ∙ with_bytes-append s (take (2 * i) bytes) (take 2 rest)
    ∙ ap (λ r. with_bytes r (take 2 rest)) before
    ∙ with_two t rest (omega (arith, length-drop (2 * i) bytes)) (All-drop (λ x. x < 256) (2 * i) bytes all)
    ∙ ap (λ n. record { sum = n; odd = false }) (sym (folded-add_wide t w ∙ ap (λ n. folded (t + n)) read))

-- words, and pairs behind them
pub words_and_pairs : (s : Running) (bytes : List ℕ) (k m t u : ℕ) → with_bytes s (take k bytes) ≡ record { sum = folded t; odd = false } → with_bytes (record { sum = folded t; odd = false }) (take m (drop k bytes)) ≡ record { sum = folded u; odd = false } → with_bytes s (take (k + m) bytes) ≡ record { sum = folded u; odd = false }
words_and_pairs s bytes k m t u before after =
    ap (with_bytes s) (take-add k m bytes)
    ∙ with_bytes-append s (take k bytes) (take m (drop k bytes))
    ∙ ap (λ r. with_bytes r (take m (drop k bytes))) before
    ∙ after

-- one word more
pub words_more : (s : Running) (bytes : List ℕ) (i t w : ℕ) → All (λ x. x < 256) bytes → 8 * i + 8 ≤ length bytes → with_bytes s (take (8 * i) bytes) ≡ record { sum = folded t; odd = false } → w ≡ field (8 * i) 8 bytes → with_bytes s (take (8 * (i + 1)) bytes) ≡ record { sum = folded (add_wide t w); odd = false }
words_more s bytes i t w all inside before read =
    let rest = drop (8 * i) bytes in
    let next : 8 * (i + 1) ≡ 8 * i + 8 = omega arith in
    ap (λ n. with_bytes s (take n bytes)) next
    ∙ ap (with_bytes s) (take-add (8 * i) 8 bytes)
    ∙ with_bytes-append s (take (8 * i) bytes) (take 8 rest)
    ∙ ap (λ r. with_bytes r (take 8 rest)) before
    ∙ with_word t rest (omega (arith, length-drop (8 * i) bytes)) (All-drop (λ x. x < 256) (8 * i) bytes all)
    ∙ ap (λ n. record { sum = n; odd = false }) (sym (folded-add_wide t w ∙ ap (λ n. folded (t + n)) read))

-- whole words, and then the bytes behind them
pub words_and_bytes : (sum : ℕ) (odd : Bool) (total k : ℕ) (bytes : List ℕ) → odd ≡ false → sum ≤ 65535 → with_bytes (record { sum = folded sum; odd = false }) (take k bytes) ≡ record { sum = folded total; odd = false } → with_bytes (record { sum = folded total; odd = odd }) (drop k bytes) ≡ with_bytes (record { sum = sum; odd = odd }) bytes
words_and_bytes sum odd total k bytes even small words =
    let before : Running = record { sum = folded sum; odd = false } in
    ap (λ o. with_bytes (record { sum = folded total; odd = o }) (drop k bytes)) even
    ∙ ap (λ s. with_bytes s (drop k bytes)) (sym words)
    ∙ sym (with_bytes-append before (take k bytes) (drop k bytes)) ∙ ap (with_bytes before) (take-append-drop k bytes)
    ∙ ap (λ n. with_bytes (record { sum = n; odd = false }) bytes) (folded-small sum small)
    ∙ ap (λ o. with_bytes (record { sum = sum; odd = o }) bytes) (sym even)
