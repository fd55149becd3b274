-- The invariant of a node's connections.
use Rattle.std.specs.BTreeSet as set
use Rattle.std.specs.HashMap as hash
use Rattle.std.specs.Ordering.{nat_cmp}
use Rattle.tcp_flow.specs.declared.table.Table.TheInside.{Inside}
use Rattle.tcp_flow.specs.Index.{IsIndexed, InOrder}
use Rattle.tcp_flow.specs.Table.{AllFit, AllWait, under, same_pair}

-- The index has each connection, and the free numbers are those below `next` that no connection has. The positions of each
-- connection fit, and it waits for some time before it sends again.
pub record IsHeld (t : Inside) : Type 0 where
  pub in_order : InOrder t.conns.entries
  pub indexed : IsIndexed (λ number. under number t.conns.entries) (hash.get same_pair t.index) (set.contains nat_cmp t.free) t.next
  pub free_in_order : set.IsOrdered nat_cmp t.free
  pub fit : AllFit t.conns.entries
  pub wait : AllWait t.conns.entries
