-- The check that no key stands twice depends on the keys held alone, and not on their order.
use Rattle.std.proofs.Common.{◌≡◌, ℕ, ◌+◌, ◌<◌, Bool, true, false, not, ◌||◌, cond, List, [], ◌∷◌, length, get_or, drop, Err, refl, ap, sym, ◌∙◌}
use Rattle.std.proofs.lemmas.List.{drop_more}
use Rattle.std.specs.List.{list_any}
use Rattle.scenario_form.specs.declared.field.Code.TheVariants.{Twice}
use Rattle.scenario_form.specs.declared.refusal.Place.{Place}
use Rattle.scenario_form.specs.declared.refusal.Refusal.{Refusal}
use Rattle.scenario_form.specs.declared.refusal.Refusal.TheVariants.{Schema}
use Rattle.scenario_form.specs.Checks.{Check, ◌>>◌, require}
use Rattle.scenario_form.specs.Across.{none_twice}

abbrev pub SameKeys : {K : Type 0} → (K → K → Bool) → List K → List K → Type 0
SameKeys {K} same xs ys = (q : K) → list_any (same q) xs ≡ list_any (same q) ys

pub none_twice-same : {K : Type 0} (same : K → K → Bool) (xs ys : List K) (es : List (Place × K)) → SameKeys same xs ys → none_twice same xs es ≡ none_twice same ys es
none_twice-same same xs ys [] h = refl
none_twice-same same xs ys (e ∷ es) h =
    ap (λ b. require (not b) (Schema e.0 Twice) >> none_twice same (e.1 ∷ xs) es) (h e.1)
    ∙ ap (λ c. require (not (list_any (same e.1) ys)) (Schema e.0 Twice) >> c)
    (none_twice-same same (e.1 ∷ xs) (e.1 ∷ ys) es (λ q. ap (λ b. same q e.1 || b) (h q)))

cond_or : (b c : Bool) → cond b true c ≡ (b || c)
cond_or true c = refl
cond_or false c = refl

-- the keys held after one more
pub same_after : {K : Type 0} (same : K → K → Bool) (old new : List K) (k : K) → ((x y : K) → same x y ≡ same y x)
    → ((q : K) → list_any (same q) new ≡ cond (same k q) true (list_any (same q) old)) → SameKeys same new (k ∷ old)
same_after same old new k symmetric h q = h q ∙ cond_or (same k q) (list_any (same q) old) ∙ ap (λ b. b || list_any (same q) old) (symmetric k q)

fresh_step : {K : Type 0} (same : K → K → Bool) (held : List K) (e : Place × K) (es : List (Place × K)) → true ≡ not (list_any (same e.1) held)
    → none_twice same held (e ∷ es) ≡ none_twice same (e.1 ∷ held) es
fresh_step same held e es h = rw (← h)

stale_step : {K : Type 0} (same : K → K → Bool) (held : List K) (e : Place × K) (es : List (Place × K)) → false ≡ not (list_any (same e.1) held)
    → none_twice same held (e ∷ es) ≡ Err (Schema e.0 Twice)
stale_step same held e es h = rw (← h)

-- a key that is new
pub next_key : {K : Type 0} (same : K → K → Bool) (old new : List K) (es : List (Place × K)) (i : ℕ) (e : Place × K) (all : Check Refusal) → i < length es → e ≡ get_or es i e
    → ((x y : K) → same x y ≡ same y x)
    → true ≡ not (list_any (same e.1) old)
    → ((q : K) → list_any (same q) new ≡ cond (same e.1 q) true (list_any (same q) old))
    → none_twice same old (drop i es) ≡ all
    → none_twice same new (drop (i + 1) es) ≡ all
next_key same old new es i e all h is symmetric fresh added so_far =
    none_twice-same same new (e.1 ∷ old) (drop (i + 1) es) (same_after same old new e.1 symmetric added)
    ∙ sym (fresh_step same old e (drop (i + 1) es) fresh)
    ∙ ap (λ x. none_twice same old (x ∷ drop (i + 1) es)) is
    ∙ ap (none_twice same old) (sym (drop_more es i e h)) ∙ so_far

-- a key that stood before
pub stale_key : {K : Type 0} (same : K → K → Bool) (old : List K) (es : List (Place × K)) (i : ℕ) (e : Place × K) (all : Check Refusal) → i < length es → e ≡ get_or es i e
    → false ≡ not (list_any (same e.1) old)
    → none_twice same old (drop i es) ≡ all
    → all ≡ Err (Schema e.0 Twice)
stale_key same old es i e all h is stale so_far =
    sym so_far ∙ ap (none_twice same old) (drop_more es i e h) ∙ ap (λ x. none_twice same old (x ∷ drop (i + 1) es)) (sym is)
    ∙ stale_step same old e (drop (i + 1) es) stale
