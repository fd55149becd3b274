use Rattle.std.proofs.Common.{◌≡◌, ℕ, ◌+◌, ◌<◌, Bool, true, false, ◌||◌, List, length, get_or, drop, map, Bor, sym, ◌∙◌}
use Rattle.std.proofs.lemmas.List.{drop_more}
use Rattle.std.proofs.lemmas.Bool.{false≢true}
use Rattle.std.specs.List.{list_any}
use Rattle.std.specs.Str.{bytes_eq}
use Rattle.scenario_form.proofs.field.check.is_word.Goals as goal

-- a word and those after it
word_at : (text : List ℕ) (ws : List (Bor (List ℕ))) (i : ℕ) (d : Bor (List ℕ)) → i < length ws
    → list_any (bytes_eq text) (map (λ w. w.now) (drop i ws)) ≡ (bytes_eq text (get_or ws i d).now || list_any (bytes_eq text) (map (λ w. w.now) (drop (i + 1) ws)))
word_at text ws i d h = rw (drop_more ws i d h)

hit : (b rest a w : Bool) → a ≡ w → a ≡ (b || rest) → true ≡ b → true ≡ w
hit true rest a w same next h = sym next ∙ same
hit false rest a w same next h = absurd (false≢true (sym h))

miss : (b rest a w : Bool) → a ≡ w → a ≡ (b || rest) → b ≡ false → rest ≡ w
miss true rest a w same next h = absurd (false≢true (sym h))
miss false rest a w same next h = sym next ∙ same

pub returns-then-eq : goal.returns-then-eq
returns-then-eq c = hit _ _ _ _ c.loop-word.invariant (word_at c.args.text.now c.texts-word-items.result.now c.loop-word.word-index _ c.loop-word-test.true) c.if-eq.ensures

pub loop-word-preserved : goal.loop-word-preserved
loop-word-preserved c = miss _ _ _ _ c.loop-word.invariant (word_at c.args.text.now c.texts-word-items.result.now c.loop-word.word-index _ c.loop-word-test.true) (sym c.eq.ensures ∙ c.if-eq.false)
