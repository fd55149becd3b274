-- Numbered calls of an object in memory, some of which are to fail.
use Rattle.std.specs.Prelude.{ℕ, ◌+◌, ◌-◌, ◌^◌, min, Bool, true, false, ◌==◌, if◌then◌else◌, List, Result, Ok, Err}
use Rattle.std.specs.List.{list_any}
use Rattle.outside.specs.declared.store.StoreStop.{StoreStop}
use Rattle.outside.specs.declared.store.StoreStop.TheVariants.{Failed, NoMemory}

-- the numbers of the calls that are to fail, from 1; how many calls there were; and how many of them failed
pub record Calls : Type 0 where
  pub to_fail : List ℕ
  pub made : ℕ
  pub faults : ℕ

-- no call yet
abbrev pub no_calls : List ℕ → Calls
no_calls to_fail = record { to_fail = to_fail; made = 0; faults = 0 }

-- one more, up to the type's end
abbrev pub one_more : ℕ → ℕ
one_more n = min (n + 1) (2 ^ 64 - 1)

-- whether the next call is one that is to fail
abbrev pub next_fails : Calls → Bool
next_fails calls = list_any (λ number. number == one_more calls.made) calls.to_fail

-- after one more call, which failed or didn't
abbrev pub after_call : Bool → Calls → Calls
after_call failed calls =
    record calls { made = one_more calls.made; faults = if failed then one_more calls.faults else calls.faults }

-- whether a store or a sink failed; want of memory is no fault
abbrev pub has_failed : {T : Type 0} → Result T StoreStop → Bool
has_failed (Ok answer) = false
has_failed (Err Failed) = true
has_failed (Err NoMemory) = false
