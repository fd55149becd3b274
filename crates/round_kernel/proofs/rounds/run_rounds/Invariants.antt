use Rattle.std.proofs.Common.{◌≡◌, ◌-◌, ◌≤◌, List, false, map}
use Rattle.round_core.specs.Lines.{lines_of}
use Rattle.round_core.specs.World.{Firing}
use Rattle.node_step.specs.Firing.{Text}
use Rattle.node_rules.specs.Firings.{trace_line}
use Rattle.round_kernel.specs.Groups.{Between}
use Rattle.round_kernel.specs.Left.{lps_of}
use Rattle.round_kernel.specs.Turns.{AreTurns}
use Rattle.round_kernel.proofs.rounds.run_rounds.Given as goal

-- these firings are written, in as many windows, and the groups stand between two rounds
abbrev pub invariant-windows : goal.invariant-windows
invariant-windows g l = record {
  written : (fired : List (Firing Text)) × Between l.fn.world l.cut (lps_of l.groups.items) fired l.windows l.last.0
      × g.L.LineOut.HasPut l.fn.lines l.lines (map trace_line (lines_of fired));
  making : g.L.LineOut.made_with l.lines ≡ g.L.LineOut.made_with l.fn.lines;
  going : g.L.LineOut.has_failed l.lines ≡ false;
  faults : g.L.LineOut.faults l.fn.lines ≤ g.L.LineOut.faults l.lines;
  turns : AreTurns l.cut.groups l.turns;
  few : l.windows ≤ l.last.0;
  within : l.last.0 ≤ l.stop.0;
}

abbrev pub decreases-windows : goal.decreases-windows
decreases-windows g l = l.stop.0 - l.last.0
