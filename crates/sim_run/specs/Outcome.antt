-- How a run of the program ends: its answer, and what it writes.
use Rattle.std.specs.Prelude.{ℕ, List, []}
use Rattle.outside.specs.declared.store.File.{File}
use Rattle.sim_run.specs.declared.status.Status.{Status}

-- an answer, the files that go with it in their order, and the text
pub record Outcome : Type 0 where
  pub status : Status
  pub files : List File
  pub text : List ℕ

abbrev pub refused : Status → Outcome
refused status = record { status = status; files = []; text = [] }
