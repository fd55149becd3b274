-- What the code answers, beside the definition's answer.
use Rattle.std.specs.Prelude.{◌≡◌, ℕ, Result, Ok, Err}
use Rattle.scenario_form.specs.declared.refusal.Stop.{Stop}
use Rattle.scenario_form.specs.declared.refusal.Stop.TheVariants.{Refused, NoMemory}
use Rattle.scenario_form.specs.declared.refusal.ReadStop.{ReadStop}
use Rattle.scenario_form.specs.declared.refusal.ReadStop.TheVariants as read
use Rattle.scenario_form.specs.declared.refusal.Refusal.{Refusal}
use Rattle.scenario_form.specs.declared.field.Fault.{Fault}
use Rattle.scenario_form.specs.Checks.{Check}
use Rattle.scenario_form.specs.Walk.{refusal}

-- the value or the refusal is the definition's, unless memory runs out
abbrev pub Answers : {A E : Type 0} → Result A (Stop E) → Result A E → Type 0
Answers (Ok a) defined = defined ≡ Ok a
Answers (Err (Refused e)) defined = defined ≡ Err e
Answers (Err NoMemory) defined = Unit {0}

-- the check is passed where there is a value, and a refusal is the check's
abbrev pub Passes : {A E : Type 0} → Result A (Stop E) → Check E → Type 0
Passes (Ok a) check = check ≡ Ok tt
Passes (Err (Refused e)) check = check ≡ Err e
Passes (Err NoMemory) check = Unit {0}

abbrev pub stop_at : ℕ → ℕ → Stop Fault → Stop Refusal
stop_at section index (Refused f) = Refused (refusal section index f)
stop_at section index NoMemory = NoMemory

-- the refusal is the definition's, unless memory runs out
abbrev pub IsRefusalOf : {A : Type 0} → Result A Refusal → ReadStop → Type 0
IsRefusalOf defined (read.Refused refusal) = defined ≡ Err refusal
IsRefusalOf defined read.NoMemory = Unit {0}
