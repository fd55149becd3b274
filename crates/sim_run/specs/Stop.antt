-- Why a run stops before its end.
use Rattle.std.specs.Prelude.{Result, Ok, Err}
use Rattle.outside.specs.declared.store.StoreStop.{StoreStop}
use Rattle.outside.specs.declared.store.StoreStop.TheVariants.{Failed, NoMemory}
use Rattle.sim_run.specs.declared.stop.RunStop.{RunStop}
use Rattle.sim_run.specs.declared.stop.RunStop.TheVariants as run

-- the stop of a run whose store or sink has stopped
abbrev pub stop_of : StoreStop → RunStop
stop_of Failed = run.WriteFault
stop_of NoMemory = run.NoMemory

-- it came to its end, or to the limit of a node: what it writes is whole
abbrev pub IsWhole : {A : Type 0} → Result A RunStop → Type 0
IsWhole (Ok done) = Unit {0}
IsWhole (Err (run.Limit node time)) = Unit {0}
IsWhole (Err run.WriteFault) = ⊥
IsWhole (Err run.NoMemory) = ⊥
