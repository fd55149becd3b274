use Rattle.std.proofs.Common.{◌≡◌, ℕ, true, false, sym, ◌∙◌, ap}
use Rattle.std.specs.BTreeSet as set
use Rattle.std.specs.HashMap as hash
use Rattle.std.specs.Ordering.{nat_cmp, is_gt}
use Rattle.tcp_flow.specs.Table.{least_free, same_pair}
use Rattle.tcp_flow.proofs.Adding.{first_copied, none_first, least_from_free, least_from_next}
use Rattle.tcp_flow.proofs.table.Table.least_free.Goals as goal

pub returns-in-Some : goal.returns-in-Some
returns-in-Some c =
    let t = c.self.inside in
    let n = c.in-Some.number in
    let free = first_copied c.first.result (λ m. set.contains nat_cmp t.free m ≡ true) n c.first.ensures.member (sym c.copied.ensures ∙ c.in-Some.is) in
    let least = first_copied c.first.result (λ m. (q : ℕ) → set.contains nat_cmp t.free q ≡ true → is_gt (nat_cmp m q) ≡ false) n c.first.ensures.least (sym c.copied.ensures ∙ c.in-Some.is) in
    least_from_free t.conns.entries (hash.get same_pair t.index) (set.contains nat_cmp t.free) t.next n c.self.invariant.in_order c.self.invariant.indexed free least
    ∙ ap (least_free 0) c.self.view_is

pub returns-in-None-2 : goal.returns-in-None-2
returns-in-None-2 c =
    let t = c.self.inside in
    let none = none_first c.first.result t.free c.first.ensures.variant (sym c.copied.ensures ∙ c.in-None.is) in
    least_from_next t.conns.entries (hash.get same_pair t.index) (set.contains nat_cmp t.free) t.next c.self.invariant.in_order c.self.invariant.indexed none
    ∙ ap (least_free 0) c.self.view_is
