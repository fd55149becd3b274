use Rattle.std.proofs.Common.{◌+◌, ◌≤◌, List, length, ap, sym, subst, ◌∙◌}
use Rattle.std.specs.Prelude.{All}
use Rattle.sim_world.specs.declared.ends.End.{End}
use Rattle.sim_world.proofs.EndLaws.{face_pushed, few_more, next, on_ok}
use Rattle.sim_world.proofs.ends.add_face.Goals as goal

pub returns-clause-face : goal.returns-clause-face
returns-clause-face c = λ nodes before is.
    on_ok c.put.result _ _
    (λ first. face_pushed nodes before c.args.network c.args.lan c.args.node c.args.addr c.next_place.result c.args.ends.now.items c.put.new.groups.items is c.requires.there
    (c.next_place.ensures ∙ ap (λ (groups : List (List End)). next groups c.args.node) c.deref.ensures.value) first)
    c.put.ensures

pub returns-clause-few : goal.returns-clause-few
returns-clause-few c = λ most few.
    on_ok c.put.result _ _
    (λ first. subst (All (λ (there : List End). length there ≤ most + 1)) (sym first) (few_more most c.args.node.0 _ c.args.ends.now.items c.requires.there few))
    c.put.ensures
