use Rattle.std.proofs.Common.{◌≡◌, take}
use Rattle.scenario_form.specs.Shape.{links_of}
use Rattle.scenario_form.proofs.shape.shape_links.Given as goal

abbrev pub invariant-loop-link : goal.invariant-loop-link
invariant-loop-link l = l.made.items ≡ links_of (take l.link-index l.links)
