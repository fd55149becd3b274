-- What the code answers after a part of it answered.
use Rattle.std.proofs.Common.{◌≡◌, Result, Ok, Err, ap, sym, ◌∙◌}
use Rattle.scenario_form.specs.declared.refusal.Stop.{Stop}
use Rattle.scenario_form.specs.declared.refusal.Stop.TheVariants.{Refused, NoMemory}
use Rattle.scenario_form.specs.Checks.{Check, ◌>>◌}
use Rattle.scenario_form.specs.Answers.{Answers, Passes}
use Rattle.scenario_form.proofs.Steps.{then_ok_value}

pub passes_same : {A E : Type 0} (r : Result A (Stop E)) (c d : Check E) → c ≡ d → Passes r c → Passes r d
passes_same (Ok a) c d same h = sym same ∙ h
passes_same (Err (Refused e)) c d same h = sym same ∙ h
passes_same (Err NoMemory) c d same h = tt

-- the first part refuses
stops_first : {A B E : Type 0} (c : Check E) (a : A) (d : Result B E) (e : E) → (c >> Ok a) ≡ Err e → (c >> d) ≡ Err e
stops_first (Ok tt) a d e h = cc
stops_first (Err f) a d e h = cc

pub answers_first : {A E : Type 0} (stop : Stop E) (c : Check E) (a : A) (d : Result A E) → Answers {A = A} (Err stop) (c >> Ok a) → Answers {A = A} (Err stop) (c >> d)
answers_first (Refused e) c a d h = stops_first c a d e h
answers_first NoMemory c a d h = tt

-- the second part refuses
second_stops : {A B E : Type 0} (c : Check E) (a s : A) (f : A → Check E) (d : Result B E) (e : E) → (c >> Ok a) ≡ Ok s → f s ≡ Err e → (c >> (f a >> d)) ≡ Err e
second_stops (Ok tt) a s f d e h k = ap (λ r. r >> d) (ap f (sym (then_ok_value (Ok tt) a s (sym h))) ∙ k)
second_stops (Err g) a s f d e h k = cc

-- it refuses, or memory runs out
pub answers_second : {A E : Type 0} (stop : Stop E) (c : Check E) (a s : A) (f : A → Check E) (d : Result A E) → (c >> Ok a) ≡ Ok s → Passes {A = Unit {0}} (Err stop) (f s) → Answers {A = A} (Err stop) (c >> (f a >> d))
answers_second (Refused e) c a s f d h k = second_stops c a s f d e h k
answers_second NoMemory c a s f d h k = tt

-- three parts pass
pub all_pass : {A E : Type 0} (c : Check E) (a s : A) (f g : A → Check E) → (c >> Ok a) ≡ Ok s → f s ≡ Ok tt → g s ≡ Ok tt → (c >> (f a >> (g a >> Ok a))) ≡ Ok s
all_pass (Ok tt) a s f g h k m =
    ap (λ x. f x >> (g x >> Ok x)) (sym (then_ok_value (Ok tt) a s (sym h))) ∙ ap (λ d. d >> (g s >> Ok s)) k ∙ ap (λ d. d >> Ok s) m
all_pass (Err e) a s f g h k m = cc

third_stops : {A E : Type 0} (c : Check E) (a s : A) (f g : A → Check E) (e : E) → (c >> Ok a) ≡ Ok s → f s ≡ Ok tt → g s ≡ Err e → (c >> (f a >> (g a >> Ok a))) ≡ Err e
third_stops (Ok tt) a s f g e h k m =
    ap (λ x. f x >> (g x >> Ok x)) (sym (then_ok_value (Ok tt) a s (sym h))) ∙ ap (λ d. d >> (g s >> Ok s)) k ∙ ap (λ d. d >> Ok s) m
third_stops (Err d) a s f g e h k m = cc

-- the third part refuses, or memory runs out
pub answers_third : {A E : Type 0} (stop : Stop E) (c : Check E) (a s : A) (f g : A → Check E) → (c >> Ok a) ≡ Ok s → f s ≡ Ok tt → Passes {A = Unit {0}} (Err stop) (g s) → Answers {A = A} (Err stop) (c >> (f a >> (g a >> Ok a)))
answers_third (Refused e) c a s f g h k m = third_stops c a s f g e h k m
answers_third NoMemory c a s f g h k m = tt
