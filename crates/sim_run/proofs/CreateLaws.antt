-- Files that are made one by one.
use Rattle.std.proofs.Common.{◌≡◌, ℕ, zero, suc, ◌+◌, ◌<◌, ◌≤◌, ◌^◌, ◌==◌, List, [], ◌∷◌, ◌++◌, length, take, drop, get_or, codes, Option, Some, None, Ok, Err, refl, ap, sym, ◌∙◌, subst, append_assoc, length-append, arith, inl, inr, if◌then◌else◌}
use Rattle.std.specs.Fmt.{decimal}
use Rattle.std.specs.List.{AllByRecursion}
use Rattle.std.proofs.lemmas.Bool.Decides.{eqb_tells}
use Rattle.std.proofs.lemmas.List.{map-append, take_more, length-take-le}
use Rattle.outside.specs.declared.store.File.{File}
use Rattle.outside.specs.declared.store.StoreStop.{StoreStop}
use Rattle.outside.specs.Store.{empty_file, Creates}
use Rattle.sim_run.specs.declared.traces.Trace.{Trace}
use Rattle.sim_run.specs.declared.traces.Trace.TheVariants.{Packets, Text}
use Rattle.sim_run.specs.Traces.{HaveOwnNames, trace_name}
use Rattle.sim_run.specs.Growth.{HasNewFiles}
use Rattle.sim_run.proofs.RunFiles.{empty_files}

all-both : {A : Type 0} (P Q R : A → Type 0) → ((x : A) → P x → Q x → R x) → (xs : List A) → AllByRecursion P xs → AllByRecursion Q xs → AllByRecursion R xs
all-both P Q R f [] ps qs = tt
all-both P Q R f (x ∷ xs) ps qs = (f x ps.0 qs.0, all-both P Q R f xs ps.1 qs.1)

pub all-of : {A : Type 0} (P : A → Type 0) → ((x : A) → P x) → (xs : List A) → AllByRecursion P xs
all-of P f [] = tt
all-of P f (x ∷ xs) = (f x, all-of P f xs)

-- each name begins with the word of traces
takes-name : (Takes : List ℕ → Type 0) → ((rest : List ℕ) → Takes (codes "trace" ++ rest)) → (t : Trace) → Takes (trace_name t)
takes-name Takes all (Packets c) = all (codes "-" ++ decimal c.node.0 ++ codes "-" ++ decimal c.iface ++ codes ".pcap")
takes-name Takes all Text = all (codes ".tr")

pub takes-first : (Takes : List ℕ → Type 0) → ((rest : List ℕ) → Takes (codes "trace" ++ rest)) → (traces : List Trace)
    → AllByRecursion (λ t. Takes (trace_name t)) traces
takes-first Takes all traces = all-of (λ t. Takes (trace_name t)) (takes-name Takes all) traces

-- when one file is made, the store still takes the names of the others
takes-others : (Old New : List ℕ → Type 0) (x : Trace) (xs : List Trace) → AllByRecursion (λ other. trace_name other ≡ trace_name x → ⊥) xs
    → ((other : List ℕ) → (other ≡ trace_name x → ⊥) → Old other → New other)
    → AllByRecursion (λ t. Old (trace_name t)) xs → AllByRecursion (λ t. New (trace_name t)) xs
takes-others Old New x xs names keeps old =
    all-both (λ t. trace_name t ≡ trace_name x → ⊥) (λ t. Old (trace_name t)) (λ t. New (trace_name t)) (λ t differs takes. keeps (trace_name t) differs takes) xs names old

pub takes-next : (traces : List Trace) (i : ℕ) (t : Trace) (Old New : List ℕ → Type 0) → i < length traces → t ≡ get_or traces i t
    → HaveOwnNames traces → ((other : List ℕ) → (other ≡ trace_name t → ⊥) → Old other → New other)
    → AllByRecursion (λ d. Old (trace_name d)) (drop i traces) → AllByRecursion (λ d. New (trace_name d)) (drop (i + 1) traces)
takes-next [] i t Old New within is names keeps old = absurd (omega arith)
takes-next (x ∷ xs) zero t Old New within is names keeps old =
    takes-others Old New x xs names.0 (subst (λ (d : Trace). (other : List ℕ) → (other ≡ trace_name d → ⊥) → Old other → New other) is keeps) old.1
takes-next (x ∷ xs) (suc i) t Old New within is names keeps old =
    let next : suc (i + 1) ≡ suc i + 1 = omega arith in
    subst (λ n. AllByRecursion (λ d. New (trace_name d)) (drop n (x ∷ xs))) next (takes-next xs i t Old New (omega arith) is names.1 keeps old)

length-empty_files : (traces : List Trace) → length (empty_files traces) ≡ length traces
length-empty_files [] = refl
length-empty_files (c ∷ traces) = ap suc (length-empty_files traces)

-- the number of the first file, when the next is made
first-stays : (i first number count : ℕ) (own : List Trace) → length own ≡ i → (0 < length (empty_files own) → first ≡ count)
    → number ≡ count + length (empty_files own) → (if i == 0 then number else first) ≡ count
first-stays i first number count own size at new = elim (eqb_tells i 0) [
  | inl none ↦ rw none.0 (omega (arith, new, length-empty_files own, size, none.1))
  | inr some ↦ rw some.0 (at (omega (arith, length-empty_files own, size, some.1)))
]

-- an item of a list, whatever stands beyond its end
pub any-default : (traces : List Trace) (i : ℕ) (c d : Trace) → i < length traces → get_or traces i c ≡ get_or traces i d
any-default [] i c d within = absurd (omega arith)
any-default (x ∷ xs) zero c d within = refl
any-default (x ∷ xs) (suc i) c d within = any-default xs i c d (omega arith)

-- one more empty file
pub new_files-push : (before mid after : Option (List File)) (traces : List Trace) (i first number : ℕ) (name : List ℕ) (c : Trace)
    → i < length traces → c ≡ get_or traces i c → name ≡ trace_name c → HasNewFiles before mid first (empty_files (take i traces))
    → Creates {E = StoreStop} mid after (Ok number) name
    → HasNewFiles before after (if i == 0 then number else first) (empty_files (take (i + 1) traces))
new_files-push None mid after traces i first number name c within is called new created = tt
new_files-push (Some files) mid after traces i first number name c within is called new created =
    let own = empty_files (take i traces) in
    let made : (number ≡ length (files ++ own)) × (after ≡ Some ((files ++ own) ++ empty_file name ∷ [])) = rw new.1 at created in
    let more : empty_files (take (i + 1) traces) ≡ own ++ empty_file name ∷ [] =
    ap empty_files (take_more traces i c within ∙ ap (λ x. take i traces ++ x ∷ []) (sym is))
    ∙ map-append (λ x. empty_file (trace_name x)) (take i traces) (c ∷ [])
    ∙ ap (λ n. own ++ empty_file n ∷ []) (sym called) in
    let size : length (take i traces) ≡ i = length-take-le i traces (omega arith) in (
      λ some. first-stays i first number (length files) (take i traces) size new.0 (made.0 ∙ length-append files own),
      made.1 ∙ ap Some (append_assoc files own (empty_file name ∷ []) ∙ ap (λ fs. files ++ fs) (sym more)),
    )

-- no file was made
pub new_files-refused : (before mid after : Option (List File)) (first : ℕ) (own : List File) (name : List ℕ) (stop : StoreStop)
    → HasNewFiles before mid first own → Creates mid after (Err stop) name → HasNewFiles before after first own
new_files-refused None mid after first own name stop new refused = tt
new_files-refused (Some files) mid after first own name stop new refused = (new.0, rw new.1 at refused)

-- the numbers of the files
pub first-within : (i first number made made_new start : ℕ) → made ≡ start + i → number ≡ made → made_new ≡ made + 1 → first + i ≤ made → number < 2 ^ 64
    → ((if i == 0 then number else first) + (i + 1) ≤ made_new) × ((if i == 0 then number else first) + (i + 1) ≤ 2 ^ 64)
first-within i first number made made_new start known is new within small = elim (eqb_tells i 0) [
  | inl none ↦ rw none.0 (omega (arith, none.1), omega (arith, none.1))
  | inr some ↦ rw some.0 (omega arith, omega arith)
]
