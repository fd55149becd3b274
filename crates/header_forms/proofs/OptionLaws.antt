-- Laws of TCP options, by the first one.
use Rattle.std.proofs.Common.{ℕ, zero, suc, ◌≡◌, ◌≢◌, ◌-◌, ◌<◌, ◌==◌, true, false, Option, List, [], ◌∷◌, length, drop, slice_index, refl, ◌∙◌, arith}
use Rattle.std.specs.Prelude.{Ok, Err}
use Rattle.std.proofs.lemmas.Bool.{eq-eqb, ne_eqb, cond-true, cond-false}
use Rattle.header_forms.specs.TcpOptions.{option_size, has_right_size, size_with, options_from}

pub options-nil : (mss : Option ℕ) → options_from 0 mss [] ≡ Ok mss
unfolding options_from
options-nil mss = refl

-- bytes that belong to an option before are passed over
options-skip : (n : ℕ) (mss : Option ℕ) (xs : List ℕ) → options_from n mss xs ≡ options_from 0 mss (drop n xs)
unfolding options_from
options-skip zero mss xs = refl
options-skip (suc n) mss [] = refl
options-skip (suc n) mss (x ∷ xs) = options-skip n mss xs

pub options-end : (mss : Option ℕ) (xs : List ℕ) → 0 < length xs → slice_index xs 0 ≡ 0 → options_from 0 mss xs ≡ Ok mss
unfolding options_from
options-end mss [] some first = absurd (omega arith)
options-end mss (kind ∷ later) some first = cond-true (kind == 0) _ _ (eq-eqb kind 0 first)

pub options-alone : (mss : Option ℕ) (xs : List ℕ) → 0 < length xs → slice_index xs 0 ≡ 1 → options_from 0 mss xs ≡ options_from 0 mss (drop 1 xs)
unfolding options_from
options-alone mss [] some first = absurd (omega arith)
options-alone mss (kind ∷ later) some first =
    cond-false (kind == 0) _ _ (ne_eqb kind 0 (λ none. omega arith)) ∙ cond-true (kind == 1) _ _ (eq-eqb kind 1 first)

pub options-wrong : (mss : Option ℕ) (xs : List ℕ) → 0 < length xs → slice_index xs 0 ≢ 0 → slice_index xs 0 ≢ 1 → has_right_size (slice_index xs 0) (drop 1 xs) ≡ false → options_from 0 mss xs ≡ Err (option_size (drop 1 xs))
unfolding options_from
options-wrong mss [] some not_end not_alone wrong = absurd (omega arith)
options-wrong mss (kind ∷ later) some not_end not_alone wrong =
    cond-false (kind == 0) _ _ (ne_eqb kind 0 not_end) ∙ cond-false (kind == 1) _ _ (ne_eqb kind 1 not_alone)
    ∙ cond-false (has_right_size kind later) _ _ wrong

pub options-next : (mss : Option ℕ) (xs : List ℕ) → 0 < length xs → slice_index xs 0 ≢ 0 → slice_index xs 0 ≢ 1 → has_right_size (slice_index xs 0) (drop 1 xs) ≡ true → options_from 0 mss xs ≡ options_from 0 (size_with mss (slice_index xs 0) (drop 1 xs)) (drop (option_size (drop 1 xs) - 1) (drop 1 xs))
unfolding options_from
options-next mss [] some not_end not_alone right = absurd (omega arith)
options-next mss (kind ∷ later) some not_end not_alone right =
    cond-false (kind == 0) _ _ (ne_eqb kind 0 not_end) ∙ cond-false (kind == 1) _ _ (ne_eqb kind 1 not_alone)
    ∙ cond-true (has_right_size kind later) _ _ right ∙ options-skip (option_size later - 1) (size_with mss kind later) later
