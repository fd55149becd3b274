use Rattle.std.proofs.Common.{rules, List, ap}
use Rattle.arrayvec.proofs.ArrayVecLemmas.{filter-from_retain}
use Rattle.sim_base.specs.declared.tags.PacketTag.{PacketTag}
use Rattle.sim_base.specs.PacketTags.{has_other_tag}
use Rattle.tag_lists.specs.TagLists.{TagLists}
use Rattle.tag_lists.proofs.tags.Tags.remove.Goals as goal

pub returns-clause-after : goal.returns-clause-after
returns-clause-after c =
    let made : List PacketTag → TagLists = λ xs. record { byte_tags = c.self.inside.byte_tags.items; packet_tags = xs } in
    rw (← c.self.view_is) (ap made (filter-from_retain _ (has_other_tag c.args.tag) _ (λ x b f' y k. search rules) _ _ c.retain.ensures.filtered))
