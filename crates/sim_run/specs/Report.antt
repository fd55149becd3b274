-- The report of a run: the windows of its cut, and how many events each group has fired.
use Rattle.std.specs.Prelude.{ℕ, ◌+◌, ◌-◌, ◌^◌, min, if◌then◌else◌, List, [], ◌∷◌, ◌++◌, map, codes, Option, Some, None}
use Rattle.std.specs.Fmt.{decimal}
use Rattle.std.specs.List.{range_with_len}
use Rattle.sim_base.specs.declared.key.NodeId.{NodeId}
use Rattle.partition_cut.specs.NamedCut.{auto_cut, listed_cut, one_cut}
use Rattle.partition_cut.specs.Network.{PlainCut, PlainShape, group_at}
use Rattle.round_core.specs.Lookahead.{window_end}
use Rattle.round_core.specs.Rounds.{fired_by, times_of, windows}
use Rattle.scenario_form.specs.declared.scenario.Scenario.{Scenario}
use Rattle.scenario_form.specs.Shape.{network_of, numbers_of}
use Rattle.plain_kernel.specs.Run.{RunWorld}
use Rattle.round_kernel.specs.Cut.{nanoseconds}
use Rattle.command_words.specs.declared.command.Partition.{Partition}
use Rattle.command_words.specs.declared.command.Partition.TheVariants.{One, File, Auto}
use Rattle.command_words.specs.declared.command.Settings.{Settings}

-- the groups that a scenario lists; one that lists none has one group
abbrev pub listed : PlainShape → Option (List (List NodeId)) → PlainCut
listed net None = one_cut net
listed net (Some groups) = listed_cut net (map numbers_of groups)

-- the cut of a scenario's network that a partition names
abbrev pub cut_for : Partition → Scenario → PlainCut
cut_for One s = one_cut (network_of s)
cut_for File s = listed (network_of s) s.groups
cut_for Auto s = auto_cut (network_of s)

-- how many windows of a cut hold the firings of a run that stops at a time
abbrev pub windows_in : PlainCut → ℕ → RunWorld → ℕ
windows_in cut stop final = windows (window_end (nanoseconds cut.lookahead) stop) 0 (times_of final.fired)

-- how many of them are a group's; the count stays at the end of its type
abbrev pub fired_in : PlainCut → RunWorld → ℕ → ℕ
fired_in cut final group = min (fired_by (group_at cut.group_of) group final.fired) (2 ^ 64 - 1)

abbrev pub group_counts : PlainCut → RunWorld → List ℕ
group_counts cut final = map (fired_in cut final) (range_with_len 0 cut.groups)

unfoldable pub windows_line : ℕ → List ℕ
windows_line windows = codes "windows " ++ decimal windows ++ codes "\n"

-- a group's line: its number, and how many events it has fired
unfoldable pub group_line : ℕ → ℕ → List ℕ
group_line number events = codes "group " ++ decimal number ++ codes " events " ++ decimal events ++ codes "\n"

-- a line for each group; the first has this number
abbrev pub group_lines : ℕ → List ℕ → List ℕ
group_lines number [] = []
group_lines number (events ∷ more) = group_line number events ++ group_lines (number + 1) more

abbrev pub report_text : ℕ → List ℕ → List ℕ
report_text windows groups = windows_line windows ++ group_lines 0 groups

-- the report of a run that has ended, over the cut that its partition names
abbrev pub report_over : PlainCut → Scenario → RunWorld → List ℕ
report_over cut s final = report_text (windows_in cut s.stop_ns.0 final) (group_counts cut final)

-- it is told where it is asked for
abbrev pub report_in : Settings → Scenario → RunWorld → List ℕ
report_in settings s final = if settings.report then report_over (cut_for settings.partition s) s final else []
