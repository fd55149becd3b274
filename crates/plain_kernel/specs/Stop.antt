-- Why a run did not come to its end, and what it has put until then.
use Rattle.std.specs.Prelude.{◌≡◌, List, Result, Ok, Err}
use Rattle.sim_base.specs.declared.key.Key.{Key}
use Rattle.sim_base.specs.declared.key.NodeId.{NodeId}
use Rattle.sim_base.specs.Packet.{Packet}
use Rattle.pkt_face.specs.declared.line.Line.{Line}
use Rattle.round_core.specs.Rounds.{Done, IsPrefixOf, Limited}
use Rattle.round_core.specs.World.{Firing}
use Rattle.node_step.specs.Firing.{Text}
use Rattle.sim_world.specs.World.{PlainWorld}
use Rattle.plain_kernel.specs.declared.outcome.Outcome.{Outcome}
use Rattle.plain_kernel.specs.declared.outcome.Outcome.TheVariants.{Done as DoneAt, Limit as LimitAt}
use Rattle.plain_kernel.specs.declared.report.Report.{Report}
use Rattle.plain_kernel.specs.declared.stop.KernelStop.{KernelStop}
use Rattle.plain_kernel.specs.declared.stop.KernelStop.TheVariants.{NoMemory, Limit, WriteFault}
use Rattle.plain_kernel.specs.Run.{RunWorld, Reports, ending, run_lines}

-- the run has met its limit at a key, whose node this is
pub record MeetsLimit (w : PlainWorld) (key : Key) (node : NodeId) : Type 0 where
  pub fired : List (Firing Text)
  pub ends : ending w ≡ Limited key fired
  pub node_is : node ≡ key.node

-- the run has come to its end, and this is its report
pub record HasEnded (w : PlainWorld) (report : Report) : Type 0 where
  pub final : RunWorld
  pub ends : ending w ≡ Done final
  pub reports : Reports w final report

-- what an outcome says of the run
abbrev pub IsOutcome : PlainWorld → Outcome → Type 0
IsOutcome w (DoneAt report) = HasEnded w report
IsOutcome w (LimitAt key node) = MeetsLimit w key node

-- what an answer says of the run and of the lines that were put: all of them where the run has come to its end or to its
-- limit, and else a beginning of them
abbrev pub Answers : PlainWorld → (List (Line Packet) → Type 0) → Result Report KernelStop → Type 0
Answers w HasPut (Ok report) = HasEnded w report × HasPut (run_lines w)
Answers w HasPut (Err (Limit key node)) = MeetsLimit w key node × HasPut (run_lines w)
Answers w HasPut (Err NoMemory) = (put : List (Line Packet)) × IsPrefixOf put (run_lines w) × HasPut put
Answers w HasPut (Err WriteFault) = (put : List (Line Packet)) × IsPrefixOf put (run_lines w) × HasPut put

-- an answer that comes when all lines were put: the run has come to its end or to its limit
abbrev pub PutsAll : Result Report KernelStop → Type 0
PutsAll (Ok report) = Unit {0}
PutsAll (Err (Limit key node)) = Unit {0}
PutsAll (Err NoMemory) = ⊥
PutsAll (Err WriteFault) = ⊥
