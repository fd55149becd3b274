use Rattle.std.proofs.Common.{◌≡◌, ℕ, cond, None, sym, ap, subst, ◌∙◌, List}
use Rattle.std.specs.BTreeSet as set
use Rattle.std.specs.HashMap as hash
use Rattle.std.specs.Option.{IsSomeAnd}
use Rattle.std.specs.Ordering.{nat_cmp}
use Rattle.tcp_flow.specs.declared.conn.Conn.{Conn}
use Rattle.tcp_flow.specs.Table.{AllFit, AllWait, same_pair, under}
use Rattle.tcp_flow.proofs.Indexing.{gone}
use Rattle.tcp_flow.proofs.Adding.{some_and}
use Rattle.tcp_flow.proofs.Changing.{fits-removed, waits-removed}
use Rattle.tcp_flow.proofs.table.Table.remove.Goals as goal

pub invariant_of-self-2 : goal.invariant_of-self-2
invariant_of-self-2 c =
    let t = c.self.inside in
    let pair = c.args.pair.now in
    let n = c.args.number in
    let held = subst (λ (es : List (ℕ × Conn)). IsSomeAnd (under n es) (λ k. k.pair ≡ pair)) (sym c.self.view_is) c.requires in
    let there = some_and (under n t.conns.entries) (λ k. k.pair ≡ pair) held in
    record {
      in_order = c.remove-2.ensures.ordered;
      indexed =
          gone (λ m. under m t.conns.entries) (λ m. under m c.remove-2.new.self.entries) (hash.get same_pair t.index) (hash.get same_pair c.remove.new.self)
          (set.contains nat_cmp t.free) (set.contains nat_cmp c.insert.new.self) t.next n there.0 c.self.invariant.indexed there.1 c.remove-2.ensures.updates.0
          (λ p. c.remove.ensures.updates.0 p ∙ ap (λ o. cond (same_pair o p) None (hash.get same_pair t.index p)) (sym there.2))
          c.in_ok-insert.ensures.updates.0;
      free_in_order = c.insert.ensures.ordered;
      fit = subst AllFit (sym c.remove-2.ensures.entries) (fits-removed t.conns.entries n c.self.invariant.fit);
      wait = subst AllWait (sym c.remove-2.ensures.entries) (waits-removed t.conns.entries n c.self.invariant.wait);
    }
