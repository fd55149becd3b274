-- What a run in rounds answers and reports, as a function of the plain run.
use Rattle.std.specs.Prelude.{◌≡◌, ℕ, ◌<◌, List, length, map, Result, Ok, Err, Some, slice_get, slice_index}
use Rattle.std.specs.List.{range_with_len}
use Rattle.sim_base.specs.Packet.{Packet}
use Rattle.pkt_face.specs.declared.line.Line.{Line}
use Rattle.partition_cut.specs.declared.network.Cut.{Cut}
use Rattle.round_core.specs.Rounds.{Done, IsPrefixOf, fired_by, times_of, windows}
use Rattle.node_step.specs.declared.local_app.AppCount.{AppCount}
use Rattle.node_step.specs.Node.{PlainNode}
use Rattle.node_step.specs.Part.{counts, drops, place_of}
use Rattle.lp_run.specs.Lp.{counted}
use Rattle.sim_world.specs.World.{PlainWorld}
use Rattle.plain_kernel.specs.declared.report.Report.{Report}
use Rattle.plain_kernel.specs.declared.stop.KernelStop.{KernelStop}
use Rattle.plain_kernel.specs.declared.stop.KernelStop.TheVariants.{NoMemory, Limit, WriteFault}
use Rattle.plain_kernel.specs.Run.{RunWorld, ending, nodes_in, run_lines}
use Rattle.plain_kernel.specs.Stop.{MeetsLimit}
use Rattle.round_kernel.specs.Cut.{group_of, rounds_cut}
use Rattle.round_kernel.specs.Window.{Gone}

-- what a report says of a run over a cut that has ended at a world: the windows hold its firings, and each group has fired
-- those for its nodes
pub record Reports (w : PlainWorld) (cut : Cut) (final : RunWorld) (report : Report) : Type 0 where
  pub events : report.events ≡ counted (length final.fired) 0
  pub drops_are : report.drops ≡ drops (nodes_in (length w.nodes) final)
  pub apps : report.apps.items ≡ counts (nodes_in (length w.nodes) final)
  pub windows_are : report.windows ≡ windows (rounds_cut w cut).end_of 0 (times_of final.fired)
  pub groups : report.group_events.items ≡ map (λ g. counted (fired_by (group_of cut) g final.fired) 0) (range_with_len 0 cut.groups)

-- the plain run has come to its end, and this is the report over the cut
pub record HasEnded (w : PlainWorld) (cut : Cut) (report : Report) : Type 0 where
  pub final : RunWorld
  pub ends : ending w ≡ Done final
  pub reports : Reports w cut final report

-- what an answer says of the plain run and of the lines that were put: all of them where the run has come to its end or to its
-- limit, and else a beginning of them
abbrev pub Answers : PlainWorld → Cut → (List (Line Packet) → Type 0) → Result Report KernelStop → Type 0
Answers w cut HasPut (Ok report) = HasEnded w cut report × HasPut (run_lines w)
Answers w cut HasPut (Err (Limit key node)) = MeetsLimit w key node × HasPut (run_lines w)
Answers w cut HasPut (Err NoMemory) = (put : List (Line Packet)) × IsPrefixOf put (run_lines w) × HasPut put
Answers w cut HasPut (Err WriteFault) = (put : List (Line Packet)) × IsPrefixOf put (run_lines w) × HasPut put

-- the nodes by their numbers, each in its group
abbrev pub AreNodes : List Gone → List ℕ → (ℕ → PlainNode) → Type 0
AreNodes groups group_of nodes = (n : ℕ) → n < length group_of → (group : Gone)
    × (slice_get groups (slice_index group_of n) ≡ Some group)
    × (n < length group.0.part.places)
    × (slice_get group.0.part.nodes (place_of n group.0.part) ≡ Some (nodes n))

-- what is counted of the nodes below a number
pub record AreCounted (nodes : ℕ → PlainNode) (count : ℕ) (dropped : ℕ) (apps : List AppCount) : Type 0 where
  pub drops_are : dropped ≡ drops (map nodes (range_with_len 0 count))
  pub apps_are : apps ≡ counts (map nodes (range_with_len 0 count))

-- memory has run out, or lines could not be written
abbrev pub IsWantOrFault : KernelStop → Type 0
IsWantOrFault NoMemory = Unit {0}
IsWantOrFault WriteFault = Unit {0}
IsWantOrFault (Limit key node) = ⊥
