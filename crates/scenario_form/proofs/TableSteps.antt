-- One more table of a section.
use Rattle.std.proofs.Common.{◌≡◌, ℕ, ◌+◌, ◌<◌, List, [], ◌∷◌, ◌++◌, length, get_or, drop, map, Option, Some, None, Ok, Err, refl, ap, sym, ◌∙◌, append_assoc, add_assoc, add-zero, length-append}
use Rattle.toml.specs.declared.value.Value.{Value}
use Rattle.toml.specs.Data.{Data, Members, as_table}
use Rattle.toml.specs.View.{view, items_view}
use Rattle.scenario_form.specs.declared.field.Fault.{Fault}
use Rattle.scenario_form.specs.declared.refusal.Refusal.{Refusal}
use Rattle.scenario_form.specs.Checks.{Check, ◌>>◌, refuse_as}
use Rattle.scenario_form.specs.Forms.{values_in}
use Rattle.scenario_form.specs.Values.{tables_in}
use Rattle.scenario_form.specs.declared.refusal.Stop.{Stop}
use Rattle.scenario_form.specs.declared.refusal.Stop.TheVariants.{Refused, NoMemory}
use Rattle.scenario_form.specs.Walk.{refusal, section_check}
use Rattle.scenario_form.specs.Answers.{Answers, Passes, stop_at}
use Rattle.scenario_form.proofs.Steps.{then_err}
use Rattle.scenario_form.proofs.Arrays.{values_from}

-- the tables among the values from an index on
abbrev pub tables_from : ℕ → List Value → List Members
tables_from i vs = tables_in (values_in (items_view (drop i vs)))

-- the table that a value is, if it is one
abbrev pub table_of : Value → List Members
table_of v = tables_in (view v ∷ [])

cons_table : (o : Option Members) (d : Data) (ds : List Data) → as_table d ≡ o → tables_in (d ∷ ds) ≡ tables_in (d ∷ []) ++ tables_in ds
cons_table None d ds h = rw h
cons_table (Some t) d ds h = rw h

tables_from-next : (vs : List Value) (i : ℕ) (v : Value) → i < length vs → v ≡ get_or vs i v → tables_from i vs ≡ table_of v ++ tables_from (i + 1) vs
tables_from-next vs i v h is =
    ap tables_in (values_from vs i v h) ∙ cons_table _ (view (get_or vs i v)) (values_in (items_view (drop (i + 1) vs))) refl ∙ ap (λ w. table_of w ++ tables_from (i + 1) vs) (sym is)

abbrev passed_all : Check Refusal
passed_all = Ok tt

over_one : (c d : Check Refusal) → (c >> passed_all) ≡ passed_all → (c >> d) ≡ d
over_one (Ok tt) d h = refl
over_one (Err e) d h = cc

stop_one : (c d : Check Refusal) (e : Refusal) → (c >> passed_all) ≡ Err e → (c >> d) ≡ Err e
stop_one (Ok tt) d e h = cc
stop_one (Err f) d e h = h

one_passes : (section n : ℕ) (check : Members → Check Fault) (o : Option Members) (d : Data) (ts : List Members) → as_table d ≡ o
    → section_check section n check (tables_in (d ∷ [])) ≡ Ok tt
    → section_check section n check (tables_in (d ∷ []) ++ ts) ≡ section_check section (n + length (tables_in (d ∷ []))) check ts
one_passes section n check None d ts h passed = rw (h, add-zero)
one_passes section n check (Some t) d ts h passed =
    rw h (over_one (refuse_as (refusal section n) (check t)) (section_check section (n + 1) check ts) (rw h at passed))

one_stops : (section n : ℕ) (check : Members → Check Fault) (o : Option Members) (d : Data) (ts : List Members) (e : Refusal) → as_table d ≡ o
    → section_check section n check (tables_in (d ∷ [])) ≡ Err e
    → section_check section n check (tables_in (d ∷ []) ++ ts) ≡ Err e
one_stops section n check None d ts e h stopped = let k = rw h at stopped in cc
one_stops section n check (Some t) d ts e h stopped =
    rw h (stop_one (refuse_as (refusal section n) (check t)) (section_check section (n + 1) check ts) e (rw h at stopped))

-- the checks of what is left, after a table that passed
pub checks_next : (section n m : ℕ) (check : Members → Check Fault) (vs : List Value) (i : ℕ) (v : Value) (all : Check Refusal) → i < length vs → v ≡ get_or vs i v
    → section_check section n check (tables_from i vs) ≡ all
    → section_check section n check (table_of v) ≡ Ok tt
    → m ≡ n + length (table_of v)
    → section_check section m check (tables_from (i + 1) vs) ≡ all
checks_next section n m check vs i v all h is same passed count =
    ap (λ k. section_check section k check (tables_from (i + 1) vs)) count
    ∙ sym (one_passes section n check _ (view v) (tables_from (i + 1) vs) refl passed)
    ∙ ap (section_check section n check) (sym (tables_from-next vs i v h is)) ∙ same

-- a table that is refused refuses all
pub checks_stop : (section n : ℕ) (check : Members → Check Fault) (vs : List Value) (i : ℕ) (v : Value) (all : Check Refusal) (e : Refusal) → i < length vs → v ≡ get_or vs i v
    → section_check section n check (tables_from i vs) ≡ all
    → section_check section n check (table_of v) ≡ Err e
    → all ≡ Err e
checks_stop section n check vs i v all e h is same stopped =
    sym same ∙ ap (section_check section n check) (tables_from-next vs i v h is)
    ∙ one_stops section n check _ (view v) (tables_from (i + 1) vs) e refl stopped

-- the count of those that are left
pub counts_next : (new old all : ℕ) (vs : List Value) (i : ℕ) (v : Value) → i < length vs → v ≡ get_or vs i v
    → old + length (tables_from i vs) ≡ all → new ≡ old + length (table_of v) → new + length (tables_from (i + 1) vs) ≡ all
counts_next new old all vs i v h is same grown =
    ap (λ k. k + length (tables_from (i + 1) vs)) grown
    ∙ add_assoc old (length (table_of v)) (length (tables_from (i + 1) vs))
    ∙ ap (λ k. old + k) (sym (length-append (table_of v) (tables_from (i + 1) vs)) ∙ ap length (sym (tables_from-next vs i v h is)))
    ∙ same

-- the same where memory may have run out
pub passes_stop : (A B : Type 0) (stop : Stop Refusal) (one all : Check Refusal) → ((e : Refusal) → one ≡ Err e → all ≡ Err e) → Passes {A = A} (Err stop) one → Passes {A = B} (Err stop) all
passes_stop A B (Refused e) one all f h = f e h
passes_stop A B NoMemory one all f h = tt

map-append : {A B : Type 0} (f : A → B) (xs ys : List A) → map f (xs ++ ys) ≡ map f xs ++ map f ys
map-append f [] ys = refl
map-append f (x ∷ xs) ys = ap (λ t. f x ∷ t) (map-append f xs ys)

-- what is made of the tables so far and of those that are left
pub made_next : {A : Type 0} (make : Members → A) (old new all : List A) (vs : List Value) (i : ℕ) (v : Value) → i < length vs → v ≡ get_or vs i v
    → old ++ map make (tables_from i vs) ≡ all
    → new ≡ old ++ map make (table_of v)
    → new ++ map make (tables_from (i + 1) vs) ≡ all
made_next make old new all vs i v h is same grown =
    ap (λ k. k ++ map make (tables_from (i + 1) vs)) grown
    ∙ append_assoc old (map make (table_of v)) (map make (tables_from (i + 1) vs))
    ∙ ap (λ k. old ++ k) (sym (map-append make (table_of v) (tables_from (i + 1) vs)) ∙ ap (map make) (sym (tables_from-next vs i v h is)))
    ∙ same

-- ---- a single table

pub one_refused : (section n : ℕ) (check : Members → Check Fault) (d : Data) (t : Members) (f : Fault) → Some t ≡ as_table d → check t ≡ Err f
    → section_check section n check (tables_in (d ∷ [])) ≡ Err (refusal section n f)
one_refused section n check d t f is bad = rw (← is, bad)

pub one_passed : (section n : ℕ) (check : Members → Check Fault) (d : Data) (t : Members) → Some t ≡ as_table d → check t ≡ Ok tt
    → section_check section n check (tables_in (d ∷ [])) ≡ Ok tt
one_passed section n check d t is good = rw (← is, good)

pub one_made : {A : Type 0} (make : Members → A) (old new : List A) (a : A) (d : Data) (t : Members) → Some t ≡ as_table d → a ≡ make t → new ≡ old ++ a ∷ []
    → new ≡ old ++ map make (tables_in (d ∷ []))
one_made make old new a d t is same grown = rw (← is) (grown ∙ ap (λ x. old ++ x ∷ []) same)

pub one_counted : (old new : ℕ) (d : Data) (t : Members) → Some t ≡ as_table d → new ≡ old + 1 → new ≡ old + length (tables_in (d ∷ []))
one_counted old new d t is grown = rw (← is) grown

-- a table that is refused, or memory that runs out
pub one_stops_at : (A B : Type 0) (make : Members → A) (section n k : ℕ) (check : Members → Check Fault) (d : Data) (t : Members) (stop : Stop Fault) → Some t ≡ as_table d
    → Answers {A = A} (Err stop) (check t >> Ok (make t)) → k ≡ n
    → Passes {A = B} (Err (stop_at section k stop)) (section_check section n check (tables_in (d ∷ [])))
one_stops_at A B make section n k check d t (Refused f) is answer same =
    one_refused section n check d t f is (then_err _ _ _ (sym answer)) ∙ ap (λ i. Err (refusal section i f)) (sym same)
one_stops_at A B make section n k check d t NoMemory is answer same = tt
