-- The reading of what was read is that of the whole input.
use Rattle.std.proofs.Common.{◌≡◌, ℕ, ◌+◌, ◌<◌, List, [], ◌++◌, length, length-append, Option, Some, None, ap, sym, ◌∙◌, append-nil, subst, arith, inl, inr, Result, Err, IfSome}
use Rattle.std.proofs.lemmas.Bool.Decides.{leb_tells}
use Rattle.std.proofs.lemmas.Bool.{le-leb}
use Rattle.scenario_form.specs.declared.refusal.Refusal.{Refusal}
use Rattle.scenario_form.specs.declared.refusal.Refusal.TheVariants.{TooLong}
use Rattle.scenario_form.specs.declared.scenario.Scenario.{Scenario}
use Rattle.scenario_form.specs.Reading.{scenario_of, scenario_limit}
use Rattle.sim_run.specs.Input.{HasReadAll}

refused_long : (bytes : List ℕ) → scenario_limit < length bytes → scenario_of bytes ≡ Err (TooLong (scenario_limit + 1))
unfolding scenario_of
refused_long bytes long = rw (le-leb (scenario_limit + 1) (length bytes) (omega arith))

too_long : (input bytes : List ℕ) → scenario_limit < length input → scenario_limit < length bytes → scenario_of input ≡ scenario_of bytes
too_long input bytes a b = rw (refused_long input a, refused_long bytes b)

pub scenario_of-read : (input bytes : List ℕ) (now : Option (List ℕ)) → HasReadAll scenario_limit (Some input) bytes now → scenario_of input ≡ scenario_of bytes
scenario_of-read input bytes now read =
    let (rest, whole, left) = read.read in
    elim (leb_tells (length bytes) scenario_limit) [
      | inl short ↦
          let ended : rest ≡ [] = rw left at (read.end short.1) in
          ap scenario_of (whole ∙ ap (λ xs. bytes ++ xs) ended ∙ append-nil bytes)
      | inr long ↦
          let more : scenario_limit < length input = omega (arith, long.1, ap length whole, length-append bytes rest) in
          too_long input bytes more long.1
    ]

-- what holds of the reading of the bytes that were read holds of that of the input, where it is told
pub on_input : (left : Option (List ℕ)) (bytes : List ℕ) (now : Option (List ℕ)) (P : Result Scenario Refusal → Type 0)
    → HasReadAll scenario_limit left bytes now → P (scenario_of bytes) → IfSome left (λ input. P (scenario_of input))
on_input None bytes now P read holds = tt
on_input (Some input) bytes now P read holds = subst P (sym (scenario_of-read input bytes now read)) holds

-- what holds whatever the input is
pub for_any : {A : Type 0} (o : Option A) (P : Type 0) → P → IfSome o (λ _. P)
for_any None P holds = tt
for_any (Some a) P holds = holds
