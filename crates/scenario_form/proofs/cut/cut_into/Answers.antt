use Rattle.std.proofs.Common.{◌≡◌, ◌∙◌, ℕ, List, ap, sym, map}
use Rattle.partition_cut.specs.Network.{node_lists}
use Rattle.scenario_form.specs.Shape.{numbers_of}
use Rattle.scenario_form.proofs.CutLaws.{cut-allowed, cut-bad, cut-good, cut-named}
use Rattle.scenario_form.proofs.ShapeLaws.{are-groups}
use Rattle.scenario_form.proofs.cut.cut_into.Goals as goal

pub check-requires-clause-groups : goal.check-requires-clause-groups
check-requires-clause-groups c =
    are-groups c.args.scenario.now c.in_ok-shape.shape c.args.groups.now (node_lists c.as_slice.result.now) c.in_ok-shape.ensures.network
    (ap node_lists c.as_slice.ensures.value ∙ c.in_ok-numbers.ensures) c.requires.groups

pub returns-clause-allowed : goal.returns-clause-allowed
returns-clause-allowed c = cut-allowed c.args.scenario.now c.in_ok-shape.shape c.check.result c.in_ok-shape.ensures.network c.check.ensures.allowed

pub returns-clause-these : goal.returns-clause-these
returns-clause-these c = cut-named c.args.scenario.now c.in_ok-shape.shape _ _ c.check.result c.in_ok-shape.ensures.network
    (ap node_lists c.as_slice.ensures.value ∙ c.in_ok-numbers.ensures) c.check.ensures.these

pub returns-clause-good : goal.returns-clause-good
returns-clause-good c = cut-good c.args.scenario.now c.in_ok-shape.shape _ _ c.check.result c.in_ok-shape.ensures.network
    (ap node_lists c.as_slice.ensures.value ∙ c.in_ok-numbers.ensures) c.check.ensures.good

pub returns-clause-bad : goal.returns-clause-bad
returns-clause-bad c = cut-bad c.args.scenario.now c.in_ok-shape.shape _ _ c.check.result c.in_ok-shape.ensures.network
    (ap node_lists c.as_slice.ensures.value ∙ c.in_ok-numbers.ensures) c.check.ensures.bad
