use Rattle.std.proofs.Common.{Some, None, sym, ◌∙◌}
use Rattle.scenario_form.specs.Across.{is_on}
use Rattle.scenario_form.proofs.FoundLaws.{neighbour_is, and_of, and_not, apart_is, same_is}
use Rattle.scenario_form.proofs.across.is_neighbour.Goals as goal

pub returns-in-None : goal.returns-in-None
returns-in-None c = sym (neighbour_is c.args.ends.now c.args.node c.args.address None c.requires.once (c.in-None.ensures.value ∙ c.requires.found c.args.address))

pub returns-then-end-node : goal.returns-then-end-node
returns-then-end-node c =
    c.contains.ensures ∙ c.requires.held (c.args.node, c.in-Some.end.now.network)
    ∙ and_of _ (is_on c.args.ends.now c.args.node c.in-Some.end.now.network) _
    (neighbour_is c.args.ends.now c.args.node c.args.address (Some c.in-Some.end.now) c.requires.once (c.in-Some.ensures.value ∙ c.requires.found c.args.address))
    (apart_is c.in-Some.end.now.node.0 c.args.node c.if-end-node.true)

pub returns-else-end-node : goal.returns-else-end-node
returns-else-end-node c =
    and_not _ (is_on c.args.ends.now c.args.node c.in-Some.end.now.network) _
    (neighbour_is c.args.ends.now c.args.node c.args.address (Some c.in-Some.end.now) c.requires.once (c.in-Some.ensures.value ∙ c.requires.found c.args.address))
    (same_is c.in-Some.end.now.node.0 c.args.node c.if-end-node.false)
