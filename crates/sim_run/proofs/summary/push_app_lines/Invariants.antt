use Rattle.std.proofs.Common.{◌≡◌, ◌++◌, drop, get_or, string_bytes}
use Rattle.sim_run.specs.Summary.{app_lines, no_count}
use Rattle.sim_run.proofs.summary.push_app_lines.Given as goal

abbrev pub invariant-loop-number : goal.invariant-loop-number
invariant-loop-number l =
    string_bytes l.text ++ app_lines l.number (drop l.number l.apps) (λ app. get_or l.table app (no_count app))
    ≡ string_bytes l.fn.text ++ app_lines 0 l.apps (λ app. get_or l.table app (no_count app))
