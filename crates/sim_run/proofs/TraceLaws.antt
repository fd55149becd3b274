-- The traces of a scenario: no line goes to two of them, and their files have names of their own.
use Rattle.std.proofs.Common.{◌≡◌, ℕ, Bool, true, false, ◌&&◌, List, [], ◌∷◌, ◌++◌, map, codes, refl, ◌∙◌, subst, arith}
use Rattle.std.proofs.lemmas.Bool.{eqb-true}
use Rattle.std.specs.Fmt.{decimal}
use Rattle.std.specs.List.{AllByRecursion}
use Rattle.sim_run.specs.declared.captures.Capture.{Capture}
use Rattle.sim_run.specs.declared.traces.Trace.{Trace}
use Rattle.sim_run.specs.declared.traces.Trace.TheVariants.{Packets, Text}
use Rattle.sim_run.specs.Captures.{AreApart, HasNumbers, is_of, is_save}
use Rattle.sim_run.specs.Traces.{HaveOwnLines, HaveOwnNames, LeavesLinesTo, text_traces, trace_name}
use Rattle.sim_run.proofs.CaptureLaws.{all-append}
use Rattle.sim_run.proofs.NameLaws.{name_parts, names-differ}

pub both-true : (a b : Bool) → (a && b) ≡ true → (a ≡ true) × (b ≡ true)
both-true true b e = (refl, e)
both-true false b e = cc

-- ---- the lines

leaves-capture : (c d : Capture) → is_of c.node.0 c.iface d ≡ false → LeavesLinesTo (Packets c) (Packets d)
leaves-capture c d apart sign node iface goes =
    let parts = both-true (is_save sign) (is_of node iface c) goes in
    let same = both-true _ _ parts.1 in
    let other : is_of node iface d ≡ false =
    subst (λ n. is_of n iface d ≡ false) (eqb-true c.node.0 node same.0) (subst (λ i. is_of c.node.0 i d ≡ false) (eqb-true c.iface iface same.1) apart) in
    rw (parts.0, other) refl

leaves-text : (c : Capture) → LeavesLinesTo (Packets c) Text
leaves-text c sign node iface goes = let parts = both-true (is_save sign) (is_of node iface c) goes in rw parts.0 refl

leaves-captures : (c : Capture) (captures : List Capture) → AllByRecursion (λ d. is_of c.node.0 c.iface d ≡ false) captures
    → AllByRecursion (LeavesLinesTo (Packets c)) (map Packets captures)
leaves-captures c [] apart = tt
leaves-captures c (d ∷ captures) apart = (leaves-capture c d apart.0, leaves-captures c captures apart.1)

leaves-texts : (c : Capture) (asked : Bool) → AllByRecursion (LeavesLinesTo (Packets c)) (text_traces asked)
leaves-texts c true = (leaves-text c, tt)
leaves-texts c false = tt

text-lines : (asked : Bool) → HaveOwnLines (text_traces asked)
text-lines true = (tt, tt)
text-lines false = tt

pub own-lines : (captures : List Capture) (asked : Bool) → AreApart captures → HaveOwnLines (map Packets captures ++ text_traces asked)
own-lines [] asked apart = text-lines asked
own-lines (c ∷ captures) asked apart = (
  all-append (LeavesLinesTo (Packets c)) (map Packets captures) (text_traces asked) (leaves-captures c captures apart.0) (leaves-texts c asked),
  own-lines captures asked apart.1,
)

-- ---- the names

abbrev IsNamedOtherThan : Trace → Trace → Type 0
IsNamedOtherThan t other = trace_name other ≡ trace_name t → ⊥

text-name : (c : Capture) → IsNamedOtherThan (Packets c) Text
text-name c e =
    let both : codes "trace.tr" ≡ codes "trace-" ++ (decimal c.node.0 ++ 45 ∷ (decimal c.iface ++ 46 ∷ codes "pcap")) = e ∙ name_parts c in
    let mark : ◌≡◌ {A = ℕ} 46 45 = cc in
    absurd (omega (arith, mark))

names-captures : (c : Capture) (captures : List Capture) → HasNumbers c → AllByRecursion HasNumbers captures
    → AllByRecursion (λ d. is_of c.node.0 c.iface d ≡ false) captures → AllByRecursion (IsNamedOtherThan (Packets c)) (map Packets captures)
names-captures c [] here numbers apart = tt
names-captures c (d ∷ captures) here numbers apart =
    (names-differ c d here numbers.0 apart.0, names-captures c captures here numbers.1 apart.1)

names-texts : (c : Capture) (asked : Bool) → AllByRecursion (IsNamedOtherThan (Packets c)) (text_traces asked)
names-texts c true = (text-name c, tt)
names-texts c false = tt

text-names : (asked : Bool) → HaveOwnNames (text_traces asked)
text-names true = (tt, tt)
text-names false = tt

pub own-names : (captures : List Capture) (asked : Bool) → AreApart captures → AllByRecursion HasNumbers captures
    → HaveOwnNames (map Packets captures ++ text_traces asked)
own-names [] asked apart numbers = text-names asked
own-names (c ∷ captures) asked apart numbers = (
  all-append (IsNamedOtherThan (Packets c)) (map Packets captures) (text_traces asked) (names-captures c captures numbers.0 numbers.1 apart.0) (names-texts c asked),
  own-names captures asked apart.1 numbers.1,
)
