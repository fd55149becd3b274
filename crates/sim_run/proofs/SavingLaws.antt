-- What a run leaves in its files, from what it leaves in those that were opened for it.
use Rattle.std.proofs.Common.{◌≡◌, ℕ, List, [], Option, Result, Ok, Err, subst, append-nil}
use Rattle.outside.specs.declared.store.File.{File}
use Rattle.partition_cut.specs.declared.network.Cut.{Cut}
use Rattle.scenario_form.specs.declared.scenario.Scenario.{Scenario}
use Rattle.sim_world.specs.World.{PlainWorld, world_of}
use Rattle.plain_kernel.specs.declared.report.Report.{Report}
use Rattle.sim_run.specs.declared.traces.Trace.{Trace}
use Rattle.sim_run.specs.declared.stop.RunStop.{RunStop}
use Rattle.sim_run.specs.declared.stop.RunStop.TheVariants.{WriteFault, Limit, NoMemory}
use Rattle.sim_run.specs.Traces.{trace_files, traces_of, run_files}
use Rattle.sim_run.specs.Grown.{whole_fronts}
use Rattle.sim_run.specs.Growth.{HasNewFiles}
use Rattle.sim_run.specs.Output.{HasFiles, HasFilePrefixes}
use Rattle.sim_run.specs.Pieces.{written_pieces, HasGrownFrom}
use Rattle.sim_run.specs.Run.{lines_of}
use Rattle.sim_run.specs.Saving.{HasBegun, Saves}
use Rattle.sim_run.specs.Stop.{IsWhole}
use Rattle.sim_run.proofs.PieceLaws.{grown-none}
use Rattle.sim_run.proofs.RunFiles.{run-cut, run-files}

-- ---- the files of the run

-- the heads alone
pub heads-begin : (s : Scenario) (first : ℕ) (before after : Option (List File)) → HasNewFiles before after first (trace_files (traces_of s) [])
    → HasFilePrefixes before after (run_files s (lines_of s))
heads-begin s first before after new = run-cut before after after first (traces_of s) [] (lines_of s) [] new (grown-none after first) tt

-- what was written of a world with these traces is what a scenario saves, where they are its own
pub saves-own : (s : Scenario) (w : PlainWorld) (cut : Cut) (traces : List Trace) (first : ℕ) (mid after : Option (List File)) (result : Result Report RunStop)
    → w ≡ world_of s → traces ≡ traces_of s → Saves w cut traces first mid after result → Saves (world_of s) cut (traces_of s) first mid after result
saves-own s w cut traces first mid after result world own saves =
    subst (λ cs. Saves (world_of s) cut cs first mid after result) own (subst (λ v. Saves v cut traces first mid after result) world saves)

module _ (s : Scenario) (cut : Cut) (first : ℕ) (before mid after : Option (List File)) (new : HasNewFiles before mid first (trace_files (traces_of s) [])) where
  whole-files : HasGrownFrom mid after first (written_pieces (traces_of s) (lines_of s)) → HasFiles before after (run_files s (lines_of s))
  whole-files grown = run-files before mid after first (traces_of s) (lines_of s) new grown

  whole-cut : HasGrownFrom mid after first (written_pieces (traces_of s) (lines_of s)) → HasFilePrefixes before after (run_files s (lines_of s))
  whole-cut grown = subst (λ lines. HasFilePrefixes before after (trace_files (traces_of s) lines)) (append-nil (lines_of s))
      (run-cut before mid after first (traces_of s) (lines_of s) [] (written_pieces (traces_of s) (lines_of s)) new grown
      (whole_fronts (written_pieces (traces_of s) (lines_of s))))

  begun-cut : HasBegun (world_of s) (traces_of s) first mid after → HasFilePrefixes before after (run_files s (lines_of s))
  begun-cut begun =
      let (lines, begins, partly) = begun in
      let (rest, is) = begins in
      let (fronts, are, grown) = partly in
      subst (λ ls. HasFilePrefixes before after (trace_files (traces_of s) ls)) is
      (run-cut before mid after first (traces_of s) lines rest fronts new grown are)

  pub saves-files : (result : Result Report RunStop) → Saves (world_of s) cut (traces_of s) first mid after result → IsWhole result
      → HasFiles before after (run_files s (lines_of s))
  saves-files (Ok report) saves whole = whole-files saves.1
  saves-files (Err (Limit node time)) saves whole = whole-files saves.1
  saves-files (Err WriteFault) saves whole = absurd whole
  saves-files (Err NoMemory) saves whole = absurd whole

  pub saves-cut : (result : Result Report RunStop) → Saves (world_of s) cut (traces_of s) first mid after result
      → HasFilePrefixes before after (run_files s (lines_of s))
  saves-cut (Ok report) saves = whole-cut saves.1
  saves-cut (Err (Limit node time)) saves = whole-cut saves.1
  saves-cut (Err WriteFault) saves = begun-cut saves
  saves-cut (Err NoMemory) saves = begun-cut saves
