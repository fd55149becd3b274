use Rattle.std.proofs.Common.{◌∙◌, ap}
use Rattle.std.specs.BTreeSet as set
use Rattle.std.specs.HashMap as hash
use Rattle.std.specs.Ordering.{nat_cmp}
use Rattle.tcp_flow.specs.Table.{between, same_pair}
use Rattle.tcp_flow.proofs.Lookups.{between_is}
use Rattle.tcp_flow.proofs.table.Table.between.Goals as goal

pub returns : goal.returns
returns c =
    let t = c.self.inside in
    let pair = c.args.pair.now in
    c.copied.ensures ∙ c.get.ensures.value
    ∙ between_is pair t.conns.entries (hash.get same_pair t.index) (set.contains nat_cmp t.free) t.next c.self.invariant.in_order c.self.invariant.indexed
    ∙ ap (between pair) c.self.view_is
