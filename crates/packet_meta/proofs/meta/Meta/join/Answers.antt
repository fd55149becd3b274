use Rattle.std.proofs.Common.{subst, sym, arith}
use Rattle.std.specs.Prelude.{All}
use Rattle.sim_base.specs.Items.{IsLeft}
use Rattle.sim_base.proofs.JoinLaws.{All-join_items}
use Rattle.packet_meta.proofs.Appended.{left-appended}
use Rattle.packet_meta.proofs.meta.Meta.join.Goals as goal

pub invariant_of-self : goal.invariant_of-self
invariant_of-self c =
    let inline = c.self.invariant.inline in
    let behind = c.other.inside.items.items in
    record {
      inline = omega (arith, c.append.ensures.capacity);
      left = left-appended c.append.result c.self.inside.items c.append.new.items _ c.append.ensures.ok c.append.ensures.err
          (All-join_items c.self.inside.items.items c.as_slice.result.now c.self.invariant.left (subst (All IsLeft) (sym c.as_slice.ensures) c.other.invariant.left))
          c.self.invariant.left;
    }
