use Rattle.std.proofs.Common.{List, ap, ◌∙◌}
use Rattle.sim_world.specs.declared.ends.End.{End}
use Rattle.sim_world.proofs.EndLaws.{link_pushed, next, on_ok}
use Rattle.sim_world.proofs.ends.add_link.Goals as goal

pub returns : goal.returns
returns c = λ nodes before is.
    on_ok c.put-2.result _ _
    (λ second. link_pushed nodes before c.args.number c.link_network-network.result c.args.link.now c.next_place-place_a.result c.next_place-place_b.result c.args.ends.now.items
    c.put.new.groups.items c.put-2.new.groups.items is c.requires.a c.requires.b c.link_network-network.ensures.value
    (c.next_place-place_a.ensures ∙ ap (λ (groups : List (List End)). next groups c.args.link.now.a) c.deref.ensures.value)
    (c.next_place-place_b.ensures ∙ ap (λ (groups : List (List End)). next groups c.args.link.now.b) c.deref-2.ensures.value)
    c.in_ok-put.ensures second)
    c.put-2.ensures
