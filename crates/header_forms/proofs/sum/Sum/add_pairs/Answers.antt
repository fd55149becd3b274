use Rattle.std.proofs.Common.{◌≡◌, ◌+◌, ◌-◌, ◌*◌, ◌/◌, false, length, take, drop, sym, ap, ◌∙◌, arith, length-drop}
use Rattle.std.proofs.lemmas.List.{take_all}
use Rattle.header_forms.specs.Checksum.{Running, folded, with_bytes}
use Rattle.header_forms.proofs.WideSums.{words_and_bytes, words_and_pairs}
use Rattle.header_forms.proofs.sum.Sum.add_pairs.Goals as goal

pub returns : goal.returns
returns c =
    let bytes = c.args.bytes.now in
    let words = length bytes / 8 * 8 in
    let pairs = length bytes / 2 * 2 in
    let odd = c.self.inside.odd in
    let even : odd ≡ false = ap (λ (s : Running). s.odd) c.self.view_is ∙ c.requires in
    let behind : words + (pairs - words) ≡ pairs = omega arith in
    let before : Running = record { sum = folded c.self.inside.sum; odd = false } in
    rw (← c.self.view_is)
    (c.add_each.ensures
    ∙ ap (with_bytes (record { sum = c.folded-self-inside.result; odd = odd })) (take_all (length bytes - pairs) (drop pairs bytes) (omega (arith, length-drop pairs bytes)))
    ∙ ap (λ n. with_bytes (record { sum = n; odd = odd }) (drop pairs bytes)) c.folded-self-inside.ensures
    ∙ words_and_bytes c.self.inside.sum odd c.sum_of_pairs.result pairs bytes even c.self.invariant
    (ap (λ n. with_bytes before (take n bytes)) (sym behind)
    ∙ words_and_pairs before bytes words (pairs - words) c.sum_of_words-total.result c.sum_of_pairs.result
    (ap (λ n. with_bytes (record { sum = folded n; odd = false }) (take words bytes)) (sym c.from.ensures) ∙ c.sum_of_words-total.ensures)
    c.sum_of_pairs.ensures))
