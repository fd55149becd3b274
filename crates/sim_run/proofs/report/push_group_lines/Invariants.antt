use Rattle.std.proofs.Common.{◌≡◌, ◌++◌, drop, string_bytes}
use Rattle.sim_run.specs.Report.{group_lines}
use Rattle.sim_run.proofs.report.push_group_lines.Given as goal

abbrev pub invariant-loop-number : goal.invariant-loop-number
invariant-loop-number l =
    string_bytes l.text ++ group_lines l.number (drop l.number l.groups) ≡ string_bytes l.fn.text ++ group_lines 0 l.groups
