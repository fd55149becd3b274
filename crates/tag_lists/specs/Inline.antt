-- What holds of the fields of a packet's tags.
use Rattle.std.specs.Prelude.{◌≤◌}
use Rattle.tag_lists.specs.declared.tags.Tags.TheInside.{Inside}
use Rattle.tag_lists.specs.TagLists.{INLINE}

-- both lists have their inline places, or more in an allocation
pub record HasInline (t : Inside) : Type 0 where
  pub bytes : INLINE ≤ t.byte_tags.capacity
  pub packet : INLINE ≤ t.packet_tags.capacity
