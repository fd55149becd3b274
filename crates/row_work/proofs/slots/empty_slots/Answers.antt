use Rattle.std.proofs.Common.{◌≡◌, ◌∷◌, ◌++◌, [], Some, map, reverse, sym, ap, subst, ◌∙◌, arith}
use Rattle.row_work.proofs.SlotLaws.{come-back, last-filled, rest-filled, rest-length}
use Rattle.row_work.proofs.slots.empty_slots.Goals as goal

pub loop-slot-preserved : goal.loop-slot-preserved
loop-slot-preserved g c =
    let is : c.loop-slot.slots.items ≡ c.pop.new.self.items ++ c.in-Some.slot ∷ [] = c.in-Some.ensures.items in
    let holds : c.loop-slot.slots.items ≡ c.pop.new.self.items ++ Some c.in-Some-slot.item ∷ [] = is ∙ ap (λ s. c.pop.new.self.items ++ s ∷ []) c.in-Some-slot.is in
    record {
      moved =
          subst (λ l. c.pop.new.self.items ++ map Some (reverse l) ≡ c.args.slots.items) (sym c.push_reserved.ensures.items)
          (come-back c.loop-slot.slots.items c.pop.new.self.items c.args.slots.items c.loop-slot.items.items c.in-Some-slot.item c.loop-slot.invariant.moved holds);
      full = rest-filled c.loop-slot.slots.items c.pop.new.self.items c.in-Some.slot c.loop-slot.invariant.full is;
      room =
          let long = rest-length c.loop-slot.slots.items c.pop.new.self.items c.in-Some.slot c.loop-slot.invariant.full is in
          let room = c.loop-slot.invariant.room in
          let more = c.push_reserved.ensures.len in
          let same = c.push_reserved.ensures.capacity in omega (arith, c.push_reserved.new.self.ok.0, c.loop-slot.items.ok.0);
    }

pub unreachable-requires : goal.unreachable-requires
unreachable-requires g c =
    last-filled c.loop-slot.slots.items c.pop.new.self.items c.in-Some.slot c.loop-slot.invariant.full c.in-Some.ensures.items c.in-None.is
