use Rattle.std.proofs.Common.{◌≡◌, ℕ, sym, ap, subst, ◌∙◌, List, arith}
use Rattle.std.specs.BTreeSet as set
use Rattle.std.specs.HashMap as hash
use Rattle.std.specs.Map.{lookup}
use Rattle.std.specs.Ordering.{nat_cmp}
use Rattle.tcp_flow.specs.declared.conn.Conn.{Conn}
use Rattle.tcp_flow.specs.Table.{AllFit, AllWait, between, least_free, same_pair, under}
use Rattle.tcp_flow.specs.Index.{IsIndexed}
use Rattle.tcp_flow.proofs.Adding.{number_is_next, with_free, with_next, not_added, same-index}
use Rattle.tcp_flow.proofs.Changing.{fits-added, waits-added}
use Rattle.tcp_flow.proofs.table.Table.add.Goals as goal

pub invariant_of-self : goal.invariant_of-self
invariant_of-self c =
    let t = c.self.inside in
    record {
      in_order = c.self.invariant.in_order;
      indexed =
          same-index (λ m. under m t.conns.entries) (hash.get same_pair t.index) (hash.get same_pair c.insert.new.self) (set.contains nat_cmp t.free) t.next
          c.self.invariant.indexed (λ p. ap (lookup (same_pair p)) c.in_err-insert.ensures.err);
      free_in_order = c.self.invariant.free_in_order;
      fit = c.self.invariant.fit;
      wait = c.self.invariant.wait;
    }

pub overflow_add-self : goal.overflow_add-self
overflow_add-self c =
    let t = c.self.inside in
    let is = c.requires.number ∙ ap (least_free 0) (sym c.self.view_is) in
    let next : c.args.number ≡ t.next = number_is_next t.conns.entries (hash.get same_pair t.index) (set.contains nat_cmp t.free) t.next c.args.number c.self.invariant.in_order c.self.invariant.indexed is (sym c.remove.ensures.test ∙ c.if-not-remove.true) in
    omega arith

pub invariant_of-self-then-not-remove : goal.invariant_of-self-then-not-remove
invariant_of-self-then-not-remove c =
    let t = c.self.inside in
    let is = c.requires.number ∙ ap (least_free 0) (sym c.self.view_is) in
    let alone = ap (between c.args.conn.pair) c.self.view_is ∙ c.requires.new in
    record {
      in_order = c.insert-2.ensures.ordered;
      indexed =
          with_next t.conns.entries c.insert-2.new.self.entries (hash.get same_pair t.index) (hash.get same_pair c.insert.new.self)
          (set.contains nat_cmp t.free) (set.contains nat_cmp c.remove.new.self) t.next c.args.number c.args.conn c.self.invariant.in_order c.self.invariant.indexed
          is alone c.in-Ok.ensures.updates.0 c.in_ok-insert.ensures.updates.0 c.remove.ensures.updates.0 (sym c.remove.ensures.test ∙ c.if-not-remove.true);
      free_in_order = c.remove.ensures.ordered;
      fit = subst AllFit (sym c.in-Ok.ensures.entries) (fits-added t.conns.entries c.args.number c.args.conn c.self.invariant.fit c.requires.fits);
      wait = subst AllWait (sym c.in-Ok.ensures.entries) (waits-added t.conns.entries c.args.number c.args.conn c.self.invariant.wait c.requires.waits);
    }

pub invariant_of-self-else-not-remove : goal.invariant_of-self-else-not-remove
invariant_of-self-else-not-remove c =
    let t = c.self.inside in
    let is = c.requires.number ∙ ap (least_free 0) (sym c.self.view_is) in
    let alone = ap (between c.args.conn.pair) c.self.view_is ∙ c.requires.new in
    record {
      in_order = c.insert-2.ensures.ordered;
      indexed =
          with_free t.conns.entries c.insert-2.new.self.entries (hash.get same_pair t.index) (hash.get same_pair c.insert.new.self)
          (set.contains nat_cmp t.free) (set.contains nat_cmp c.remove.new.self) t.next c.args.number c.args.conn c.self.invariant.in_order c.self.invariant.indexed
          is alone c.in-Ok.ensures.updates.0 c.in_ok-insert.ensures.updates.0 c.remove.ensures.updates.0 (sym c.remove.ensures.test ∙ c.if-not-remove.false);
      free_in_order = c.remove.ensures.ordered;
      fit = subst AllFit (sym c.in-Ok.ensures.entries) (fits-added t.conns.entries c.args.number c.args.conn c.self.invariant.fit c.requires.fits);
      wait = subst AllWait (sym c.in-Ok.ensures.entries) (waits-added t.conns.entries c.args.number c.args.conn c.self.invariant.wait c.requires.waits);
    }

pub invariant_of-self-in-Err : goal.invariant_of-self-in-Err
invariant_of-self-in-Err c =
    let t = c.self.inside in
    let alone = ap (between c.args.conn.pair) c.self.view_is ∙ c.requires.new in
    let h =
    not_added t.conns.entries (hash.get same_pair t.index) (hash.get same_pair c.insert.new.self) (hash.get same_pair c.remove-in-Err.new.self)
    (set.contains nat_cmp t.free) t.next c.args.number c.args.conn.pair c.self.invariant.in_order c.self.invariant.indexed alone
    c.in_ok-insert.ensures.updates.0 c.remove-in-Err.ensures.updates.0 in
    record {
      in_order = c.insert-2.ensures.ordered;
      indexed = subst (λ (es : List (ℕ × Conn)). IsIndexed (λ m. under m es) (hash.get same_pair c.remove-in-Err.new.self) (set.contains nat_cmp t.free) t.next) (sym c.in-Err.ensures.err) h;
      free_in_order = c.self.invariant.free_in_order;
      fit = subst AllFit (sym c.in-Err.ensures.err) c.self.invariant.fit;
      wait = subst AllWait (sym c.in-Err.ensures.err) c.self.invariant.wait;
    }
