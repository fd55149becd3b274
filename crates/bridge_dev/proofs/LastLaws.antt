-- A bridge finds each station at the port of its last frame.
use Rattle.std.proofs.Common.{◌≡◌, ℕ, Bool, true, false, cond, List, [], ◌∷◌, Option, None, Some, fold, refl, sym, ap, ◌∙◌}
use Rattle.std.proofs.lemmas.Bool.{cond-true, cond-false}
use Rattle.std.proofs.lemmas.Map.Text.{is_eq-slice_cmp}
use Rattle.std.specs.BTreeMap.{insert_entry, is_at}
use Rattle.std.specs.Cmp.Lexicographic.{slice_cmp}
use Rattle.std.specs.Map as map
use Rattle.std.specs.Option.{option_or}
use Rattle.std.specs.Ordering.{nat_cmp}
use Rattle.std.specs.Str.{bytes_eq}
use Rattle.sim_base.specs.Packet.{Packet}
use Rattle.bridge_dev.specs.declared.bridge.Sighting.{Sighting}
use Rattle.bridge_dev.specs.declared.words.In.{In}
use Rattle.bridge_dev.specs.declared.words.In.TheVariants.{Frame}
use Rattle.bridge_dev.specs.Law.{after, last_of, sighting_in, stepped}
use Rattle.bridge_dev.specs.Step.{source}
use Rattle.bridge_dev.specs.Table.{PlainBridge, empty, entry_of, found, lookup}
use Rattle.bridge_dev.proofs.EntryLaws.{at_same, insert-other, insert-same}

by_cases : {P : Type 0} → (b : Bool) → (b ≡ true → P) → (b ≡ false → P) → P
by_cases true t f = t refl
by_cases false t f = f refl

or_both : (x y z : Option Sighting) → option_or (option_or x y) z ≡ option_or x (option_or y z)
or_both None y z = refl
or_both (Some s) y z = refl

or_none : (x : Option Sighting) → option_or x None ≡ x
or_none None = refl
or_none (Some s) = refl

entry-put : (mac source : List ℕ) (v : Sighting) (es : List (List ℕ × Sighting)) →
    map.lookup (is_at (slice_cmp nat_cmp mac)) (insert_entry (slice_cmp nat_cmp) es source v) ≡
    option_or (cond (bytes_eq mac source) (Some v) None) (map.lookup (is_at (slice_cmp nat_cmp mac)) es)
entry-put mac source v es =
    by_cases (is_at (slice_cmp nat_cmp mac) source)
    (λ here.
    ap (λ (q : List ℕ). map.lookup (is_at (slice_cmp nat_cmp q)) (insert_entry (slice_cmp nat_cmp) es source v)) (at_same mac source here)
    ∙ insert-same es source v
    ∙ sym (ap (λ (o : Option Sighting). option_or o (map.lookup (is_at (slice_cmp nat_cmp mac)) es))
    (cond-true (bytes_eq mac source) (Some v) None (sym (is_eq-slice_cmp mac source) ∙ here))))
    (λ apart.
    insert-other mac es source v apart
    ∙ sym (ap (λ (o : Option Sighting). option_or o (map.lookup (is_at (slice_cmp nat_cmp mac)) es))
    (cond-false (bytes_eq mac source) (Some v) None (sym (is_eq-slice_cmp mac source) ∙ apart))))

entry-stepped : (mac : List ℕ) (b : PlainBridge) (input : In Packet) → entry_of mac (stepped b input) ≡ option_or (sighting_in mac input) (entry_of mac b)
entry-stepped mac b (Frame now port frame) = entry-put mac (source frame) (record { port = port; at = now }) b.entries

entry-after : (mac : List ℕ) (b : PlainBridge) (inputs : List (In Packet)) → entry_of mac (fold stepped b inputs) ≡ option_or (last_of mac inputs) (entry_of mac b)
entry-after mac b [] = refl
entry-after mac b (input ∷ later) =
    entry-after mac (stepped b input) later ∙ ap (option_or (last_of mac later)) (entry-stepped mac b input)
    ∙ sym (or_both (last_of mac later) (sighting_in mac input) (entry_of mac b))

pub lookup_last : (ports now : ℕ) (mac : List ℕ) (inputs : List (In Packet)) → lookup now mac (after ports inputs) ≡ found now (last_of mac inputs)
lookup_last ports now mac inputs = ap (found now) (entry-after mac (empty ports) inputs ∙ or_none (last_of mac inputs))
