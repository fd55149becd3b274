use Rattle.std.proofs.Common.{◌≡◌, ℕ, ◌<◌, List, Some, sym, ap, subst, ◌∙◌}
use Rattle.std.specs.BTreeMap.{is_at}
use Rattle.std.specs.Map.{remove_entry, set_value}
use Rattle.std.specs.Option.{option_copied_mut}
use Rattle.std.specs.Ordering.{nat_cmp}
use Rattle.std.proofs.lemmas.Result.{on_ok_weaker}
use Rattle.tcp_flow.specs.declared.conn.Conn.{Conn}
use Rattle.tcp_flow.specs.Table.{under}
use Rattle.tcp_flow.proofs.Indexing.{written}
use Rattle.tcp_flow.proofs.Changing.{state-removed, fits-at, waits-at}
use Rattle.tcp_flow.proofs.LaterTimers.{happened-waits}
use Rattle.tcp_flow.proofs.table.Table.happens.Goals as goal

pub step-requires-clause-fits : goal.step-requires-clause-fits
step-requires-clause-fits g c κs within =
    fits-at c.self.inside.conns.entries c.args.number c.in-Some.conn.now c.self.invariant.fit (sym c.get_mut.ensures.value ∙ ap option_copied_mut c.in-Some.is)

pub invariant_of-self-then-is_closed : goal.invariant_of-self-then-is_closed
invariant_of-self-then-is_closed g c =
    let w = c.step.new.self in
    let k = c.in-Some.conn.now in
    let is = sym c.get_mut.ensures.value ∙ ap option_copied_mut c.in-Some.is in
    let wait = waits-at c.self.inside.conns.entries c.args.number k c.self.invariant.wait is in
    let waits = subst (λ (x : Conn). 0 < x.connection.round_trip.rto) (sym c.in-Ok.ensures.conn) (happened-waits c.args.now.0 c.args.event.now k c.args.numbers.now wait) in
    written c.self.inside (c.get_mut.follows.lender w) c.args.number k w c.self.invariant is c.step.ensures.pair (c.get_mut.follows.holds w) c.in-Ok.ensures.fits waits

pub invariant_of-self-else-is_closed : goal.invariant_of-self-else-is_closed
invariant_of-self-else-is_closed g c =
    let w = c.step.new.self in
    let k = c.in-Some.conn.now in
    let is = sym c.get_mut.ensures.value ∙ ap option_copied_mut c.in-Some.is in
    let wait = waits-at c.self.inside.conns.entries c.args.number k c.self.invariant.wait is in
    let waits = subst (λ (x : Conn). 0 < x.connection.round_trip.rto) (sym c.in-Ok.ensures.conn) (happened-waits c.args.now.0 c.args.event.now k c.args.numbers.now wait) in
    written c.self.inside (c.get_mut.follows.lender w) c.args.number k w c.self.invariant is c.step.ensures.pair (c.get_mut.follows.holds w) c.in-Ok.ensures.fits waits

pub returns-then-is_closed-clause-conns : goal.returns-then-is_closed-clause-conns
returns-then-is_closed-clause-conns g c =
    let t = c.self.inside in
    let n = c.args.number in
    let k = c.in-Some.conn.now in
    let w = c.step.new.self in
    let is = sym c.get_mut.ensures.value ∙ ap option_copied_mut c.in-Some.is in
    let there = subst (λ (es : List (ℕ × Conn)). under n es ≡ Some k) c.self.view_is is in
    let through = c.get_mut.follows.holds w in
    let entries = through.0 ∙ ap (λ (es : List (ℕ × Conn)). set_value (is_at (nat_cmp n)) es w) c.self.view_is in
    on_ok_weaker c.remove.result
    (λ e.
    state-removed c.args.self.now c.remove.new.self n c.args.now.0 c.args.event.now c.args.numbers.now k w there c.in-Ok.ensures.conn
    (sym c.is_closed.ensures ∙ c.if-is_closed.true) (e ∙ ap (remove_entry (is_at (nat_cmp n))) entries))
    c.remove.ensures
