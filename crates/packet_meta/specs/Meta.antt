-- What holds of the parts that a packet is made of.
use Rattle.std.specs.Prelude.{ℕ, ◌≤◌, All}
use Rattle.sim_base.specs.Items.{IsLeft}
use Rattle.packet_meta.specs.declared.meta.Meta.TheInside.{Inside}

-- how many items stand in the value itself
abbrev pub INLINE : ℕ
INLINE = 8

-- The list has its inline places, or more in an allocation. Something is left of each item.
pub record IsMeta (m : Inside) : Type 0 where
  pub inline : INLINE ≤ m.items.capacity
  pub left : All IsLeft m.items.items
