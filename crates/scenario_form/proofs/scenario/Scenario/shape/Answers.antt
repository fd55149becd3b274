use Rattle.std.proofs.Common.{◌∙◌, ap, refl}
use Rattle.scenario_form.specs.Shape.{lans_of, links_of}
use Rattle.scenario_form.proofs.ShapeLaws.{is-shape}
use Rattle.scenario_form.proofs.scenario.Scenario.shape.Goals as goal

pub returns-clause-shape : goal.returns-clause-shape
returns-clause-shape c = is-shape c.args.self.now _ c.requires (record {
  nodes = refl;
  links = c.in_ok-links.ensures ∙ ap links_of c.as_slice.ensures;
  lans = c.in_ok-lans.ensures ∙ ap lans_of c.as_slice-2.ensures;
})

pub returns-clause-network : goal.returns-clause-network
returns-clause-network c = record {
  nodes = refl;
  links = c.in_ok-links.ensures ∙ ap links_of c.as_slice.ensures;
  lans = c.in_ok-lans.ensures ∙ ap lans_of c.as_slice-2.ensures;
}
