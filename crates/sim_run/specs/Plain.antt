-- The plain program: what an honest run of one thread would answer, write to files, and print.
use Rattle.std.specs.Prelude.{◌≡◌, ℕ, List, [], ◌++◌, Result, Ok, Err, ◌⊎◌}
use Rattle.round_core.specs.Rounds.{Done as Ended, Limited}
use Rattle.scenario_form.specs.declared.refusal.Refusal.{Refusal}
use Rattle.scenario_form.specs.declared.scenario.Scenario.{Scenario}
use Rattle.command_words.specs.declared.command.Command.{Command}
use Rattle.command_words.specs.declared.command.Command.TheVariants.{Run, Check, Demo, Show}
use Rattle.command_words.specs.declared.command.Settings.{Settings}
use Rattle.command_words.specs.declared.command.WordFault.{WordFault}
use Rattle.sim_run.specs.declared.status.Status.{Status}
use Rattle.sim_run.specs.declared.status.Status.TheVariants.{Done, Words, Scenario as Refused, ReadFault, WriteFault, Limit, NoMemory, Capture}
use Rattle.sim_run.specs.Traces.{run_files}
use Rattle.command_words.specs.Command.{command_of}
use Rattle.scenario_form.specs.Reading.{scenario_of}
use Rattle.scenario_gen.specs.Demo.{demo_of}
use Rattle.sim_run.specs.Outcome.{Outcome, refused}
use Rattle.sim_run.specs.Report.{report_in}
use Rattle.sim_run.specs.Run.{RunEnding, ending_of, lines_of, events_in, drops_in, counts_in}
use Rattle.sim_run.specs.Show.{shown_of}
use Rattle.sim_run.specs.Sizes.{sizes_line}
use Rattle.sim_run.specs.Summary.{summary}

-- a run comes to its end, or to the limit of a node
abbrev pub run_status : RunEnding → Status
run_status (Ended final) = Done
run_status (Limited key fired) = Limit key.node key.time

-- at its end a run writes its summary, and behind it the report, where it is asked for; at a limit it writes nothing
abbrev pub run_text : Settings → Scenario → RunEnding → List ℕ
run_text settings s (Ended final) = summary (events_in final) (drops_in s final) s.apps (counts_in s final) ++ report_in settings s final
run_text settings s (Limited key fired) = []

-- a run makes the traces
abbrev pub ran : Settings → Scenario → Outcome
ran settings s = record { status = run_status (ending_of s); files = run_files s (lines_of s); text = run_text settings s (ending_of s) }

-- a check writes the sizes of the scenario; nothing is done with one where a capture is asked for
abbrev pub finished : Command → Scenario → Outcome
finished (Run settings) s = ran settings s
finished Check s = record { status = Done; files = []; text = sizes_line s }
finished (Demo n settings) s = ran settings s
finished Show s = refused Done

-- a refused scenario is answered alike by every command
abbrev pub answered : Command → Result Scenario Refusal → Outcome
answered command (Ok s) = finished command s
answered command (Err refusal) = refused (Refused refusal)

-- a command's scenario is that of the input, or the demo's; a capture is shown
abbrev pub commanded : Command → List ℕ → Outcome
commanded (Run settings) input = answered (Run settings) (scenario_of input)
commanded Check input = answered Check (scenario_of input)
commanded (Demo n settings) input = answered (Demo n settings) (Ok (demo_of n))
commanded Show input = shown_of input

abbrev pub outcome_of : Result Command WordFault → List ℕ → Outcome
outcome_of (Ok command) input = commanded command input
outcome_of (Err fault) input = refused (Words fault)

-- what the words and the whole input ask for
abbrev pub plain : List (List ℕ) → List ℕ → Outcome
plain words input = outcome_of (command_of words) input

-- the fact, where the command reads the input
abbrev pub WhereRead : Command → Type 0 → Type 0
WhereRead (Run settings) fact = fact
WhereRead Check fact = fact
WhereRead (Demo n settings) fact = Unit {0}
WhereRead Show fact = fact

-- the fact, where it doesn't
abbrev pub WhereUnread : Command → Type 0 → Type 0
WhereUnread (Run settings) fact = Unit {0}
WhereUnread Check fact = Unit {0}
WhereUnread (Demo n settings) fact = fact
WhereUnread Show fact = Unit {0}

-- an answer that comes where the outside or memory fails
abbrev pub IsFault : Status → Type 0
IsFault ReadFault = Unit {0}
IsFault WriteFault = Unit {0}
IsFault NoMemory = Unit {0}
IsFault _ = ⊥

-- the plain program's answer, or a fault
abbrev pub IsAnswer : Status → Status → Type 0
IsAnswer plain_status status = (status ≡ plain_status) ⊎ IsFault status

-- the fact, where the answer is one that comes before any file is made
abbrev pub BeforeFiles : Status → Type 0 → Type 0
BeforeFiles (Words fault) fact = fact
BeforeFiles (Refused refusal) fact = fact
BeforeFiles ReadFault fact = fact
BeforeFiles (Capture place) fact = fact
BeforeFiles _ fact = Unit {0}
