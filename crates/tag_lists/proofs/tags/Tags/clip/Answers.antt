use Rattle.std.proofs.Common.{rules, List, length, ap, ◌∙◌, arith}
use Rattle.std.specs.List.{filter}
use Rattle.arrayvec.proofs.ArrayVecLemmas.{filter-from_retain}
use Rattle.std.proofs.lemmas.List.{take_at}
use Rattle.sim_base.specs.declared.tags.ByteTag.{ByteTag}
use Rattle.sim_base.specs.ByteTags.{parts_within, covers_a_byte}
use Rattle.tag_lists.specs.TagLists.{TagLists}
use Rattle.tag_lists.proofs.tags.Tags.clip.Goals as goal

pub returns : goal.returns
returns c =
    let made : List ByteTag → TagLists = λ ts. record { byte_tags = ts; packet_tags = c.self.inside.packet_tags.items } in
    rw (← c.self.view_is)
    (ap made
    (filter-from_retain _ covers_a_byte _ (λ x b f' y k. search rules) _ _ c.retain.ensures.filtered
    ∙ ap (filter covers_a_byte)
    (take_at c.part_all.new.tags _ _ (omega (arith, ap length c.as_mut_slice.ensures.value)) ∙ c.part_all.ensures ∙ ap (parts_within c.args.from c.args.to) c.as_mut_slice.ensures.value)))
