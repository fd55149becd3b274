use Rattle.std.proofs.Common.{rules, length, ap, sym, subst, ◌∙◌, arith}
use Rattle.std.specs.Prelude.{All}
use Rattle.std.specs.List.{filter}
use Rattle.std.proofs.lemmas.List.{take_at}
use Rattle.arrayvec.proofs.ArrayVecLemmas.{filter-from_retain}
use Rattle.sim_base.specs.Items.{IsLeft, cut_each, cut_items, is_left}
use Rattle.sim_base.proofs.ItemLaws.{All-cut_items}
use Rattle.packet_meta.proofs.meta.Meta.cut.Goals as goal

pub returns : goal.returns
returns c =
    filter-from_retain _ is_left _ (λ x b f' y k. search rules) _ c.retain.new.self.items c.retain.ensures.filtered
    ∙ ap (filter is_left)
    (take_at c.cut_all.new.items _ _ (omega (arith, ap length c.as_mut_slice.ensures.value)) ∙ c.cut_all.ensures ∙ ap (cut_each c.args.from c.args.to) c.as_mut_slice.ensures.value)
    ∙ ap (cut_items c.args.from c.args.to) c.self.view_is

pub invariant_of-self : goal.invariant_of-self
invariant_of-self c =
    let inline = c.self.invariant.inline in
    record {
      inline = omega (arith, c.retain.ensures.capacity);
      left = subst (All IsLeft)
          (sym (filter-from_retain _ is_left _ (λ x b f' y k. search rules) _ _ c.retain.ensures.filtered
          ∙ ap (filter is_left)
          (take_at c.cut_all.new.items _ _ (omega (arith, ap length c.as_mut_slice.ensures.value)) ∙ c.cut_all.ensures ∙ ap (cut_each c.args.from c.args.to) c.as_mut_slice.ensures.value)))
          (All-cut_items c.args.from c.args.to c.self.inside.items.items);
    }
