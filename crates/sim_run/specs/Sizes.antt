-- The text of a check.
use Rattle.std.specs.Prelude.{ℕ, List, ◌++◌, length, codes}
use Rattle.std.specs.Fmt.{decimal}
use Rattle.scenario_form.specs.declared.scenario.Scenario.{Scenario}

-- how many nodes a scenario has, and how many tables of each section
unfoldable pub sizes_line : Scenario → List ℕ
sizes_line s =
    codes "nodes " ++ decimal s.nodes ++ codes " links " ++ decimal (length s.links) ++ codes " lans " ++ decimal (length s.lans)
    ++ codes " routes " ++ decimal (length s.routes) ++ codes " apps " ++ decimal (length s.apps) ++ codes " losses " ++ decimal (length s.losses)
    ++ codes "\n"
