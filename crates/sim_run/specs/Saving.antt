-- What a run leaves in the files that were opened for it.
use Rattle.std.specs.Prelude.{◌≡◌, ℕ, List, Option, Result, Ok, Err}
use Rattle.sim_base.specs.declared.key.Key.{Key}
use Rattle.sim_base.specs.declared.key.NodeId.{NodeId}
use Rattle.sim_base.specs.declared.time.Time.{Time}
use Rattle.sim_base.specs.Packet.{Packet}
use Rattle.pkt_face.specs.declared.line.Line.{Line}
use Rattle.outside.specs.declared.store.File.{File}
use Rattle.partition_cut.specs.declared.network.Cut.{Cut}
use Rattle.round_core.specs.Rounds.{IsPrefixOf}
use Rattle.sim_world.specs.World.{PlainWorld}
use Rattle.plain_kernel.specs.declared.report.Report.{Report}
use Rattle.plain_kernel.specs.Run.{run_lines}
use Rattle.plain_kernel.specs.Stop.{MeetsLimit}
use Rattle.round_kernel.specs.Report.{HasEnded}
use Rattle.sim_run.specs.declared.traces.Trace.{Trace}
use Rattle.sim_run.specs.declared.stop.RunStop.{RunStop}
use Rattle.sim_run.specs.declared.stop.RunStop.TheVariants.{WriteFault, Limit, NoMemory}
use Rattle.sim_run.specs.Pieces.{written_pieces, HasGrownFrom, HasGrownByFronts}

-- the run of a world has met its limit at this node and time
abbrev pub StopsAt : PlainWorld → NodeId → Time → Type 0
StopsAt w node time = (key : Key) × MeetsLimit w key node × (time ≡ key.time)

-- the files from a place on have grown by fronts of what a beginning of the run's lines writes
abbrev pub HasBegun : PlainWorld → List Trace → ℕ → Option (List File) → Option (List File) → Type 0
HasBegun w traces first before after =
    (lines : List (Line Packet)) × IsPrefixOf lines (run_lines w) × HasGrownByFronts before after first (written_pieces traces lines)

-- the files from a place on have grown by what the run's lines write, where it came to its end or to the limit of a node; the
-- report is that of the run over a cut
abbrev pub Saves : PlainWorld → Cut → List Trace → ℕ → Option (List File) → Option (List File) → Result Report RunStop → Type 0
Saves w cut traces first before after (Ok report) =
    HasEnded w cut report × HasGrownFrom before after first (written_pieces traces (run_lines w))
Saves w cut traces first before after (Err (Limit node time)) =
    StopsAt w node time × HasGrownFrom before after first (written_pieces traces (run_lines w))
Saves w cut traces first before after (Err WriteFault) = HasBegun w traces first before after
Saves w cut traces first before after (Err NoMemory) = HasBegun w traces first before after
