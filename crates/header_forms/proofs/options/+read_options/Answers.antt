use Rattle.std.proofs.Common.{ℕ, ◌≡◌, ◌-◌, true, false, Option, List, length, take, drop, slice_index, sym, ap, ◌∙◌, arith, length-drop}
use Rattle.std.specs.Prelude.{Result, Err}
use Rattle.std.proofs.lemmas.List.{nil_from_length, take_all}
use Rattle.std.proofs.lemmas.Bool.{eqb-true, eqb-false}
use Rattle.header_forms.specs.TcpOptions.{option_size, has_right_size, options_from, size_with}
use Rattle.header_forms.proofs.OptionLaws.{options-nil, options-end, options-alone, options-wrong, options-next}
use Rattle.header_forms.proofs.options.+read_options.Goals as goal

pub returns-then-is_empty : goal.returns-then-is_empty
returns-then-is_empty t c =
    let none = nil_from_length c.args.options.now (eqb-true _ _ (sym c.is_empty.ensures ∙ c.if-is_empty.true)) in
    sym (ap (options_from 0 c.args.mss) none ∙ options-nil c.args.mss)

pub returns-then-kind-eq-END : goal.returns-then-kind-eq-END
returns-then-kind-eq-END t c =
    let not_none = eqb-false _ _ (sym c.is_empty.ensures ∙ c.if-is_empty.false) in
    sym (options-end c.args.mss c.args.options.now (omega arith) c.if-kind-eq-END.true)

-- the options behind the first byte
later_is : (xs : List ℕ) → take (length xs - 1) (drop 1 xs) ≡ drop 1 xs
later_is xs = take_all (length xs - 1) (drop 1 xs) (omega (arith, length-drop 1 xs))

pub returns-then-kind-eq-NO_OPERATION : goal.returns-then-kind-eq-NO_OPERATION
returns-then-kind-eq-NO_OPERATION t c =
    let xs = c.args.options.now in
    let not_none = eqb-false _ _ (sym c.is_empty.ensures ∙ c.if-is_empty.false) in
    c.read_options.ensures ∙ ap (options_from 0 c.args.mss) (later_is xs)
    ∙ sym (options-alone c.args.mss xs (omega arith) c.if-kind-eq-NO_OPERATION.true)

pub returns-then-not-fits : goal.returns-then-not-fits
returns-then-not-fits t c =
    let xs = c.args.options.now in
    let not_none = eqb-false _ _ (sym c.is_empty.ensures ∙ c.if-is_empty.false) in
    let wrong : has_right_size (slice_index xs 0) (drop 1 xs) ≡ false =
    sym (ap (has_right_size (slice_index xs 0)) (later_is xs)) ∙ sym c.fits.ensures ∙ c.if-not-fits.true in
    let as_read : Result (Option ℕ) ℕ = Err c.size_of-size.result in
    let found : as_read ≡ Err (option_size (drop 1 xs)) = ap (λ (n : ℕ). Err n) (c.size_of-size.ensures ∙ ap option_size (later_is xs)) in
    found ∙ sym (options-wrong c.args.mss xs (omega arith) c.if-kind-eq-END.false c.if-kind-eq-NO_OPERATION.false wrong)

pub returns : goal.returns
returns t c =
    let xs = c.args.options.now in
    let kind = slice_index xs 0 in
    let later = take (length xs - 1) (drop 1 xs) in
    let next = c.mss_with.result in
    let not_none = eqb-false _ _ (sym c.is_empty.ensures ∙ c.if-is_empty.false) in
    let right : has_right_size kind (drop 1 xs) ≡ true =
    sym (ap (has_right_size kind) (later_is xs)) ∙ sym c.fits.ensures ∙ c.if-not-fits.false in
    c.read_options-2.ensures
    ∙ ap (options_from 0 next) (take_all (length later - (c.from.result - 1)) (drop (c.from.result - 1) later) (omega (arith, length-drop (c.from.result - 1) later)))
    ∙ ap (λ n. options_from 0 next (drop (n - 1) later)) (c.from.ensures ∙ c.size_of-size.ensures)
    ∙ ap (λ ys. options_from 0 next (drop (option_size ys - 1) ys)) (later_is xs)
    ∙ ap (λ m. options_from 0 m (drop (option_size (drop 1 xs) - 1) (drop 1 xs))) (c.mss_with.ensures ∙ ap (size_with c.args.mss kind) (later_is xs))
    ∙ sym (options-next c.args.mss xs (omega arith) c.if-kind-eq-END.false c.if-kind-eq-NO_OPERATION.false right)
