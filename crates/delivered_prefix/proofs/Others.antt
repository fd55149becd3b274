-- An input leaves each connection that it doesn't concern, and what becomes of the one that it concerns is its own affair.
use Rattle.std.proofs.Common.{◌≡◌, ℕ, true, false, cond, ⊎_elim, List, Option, None, Some, is_some, sym, ap, subst, ◌∙◌}
use Rattle.std.specs.BTreeMap.{is_at}
use Rattle.std.specs.List.{All}
use Rattle.std.specs.Map.{keys_of, remove_entry, set_value}
use Rattle.std.specs.Ordering.{nat_cmp}
use Rattle.std.proofs.lemmas.Bool.{cond-true, cond-false, eqb-false}
use Rattle.std.proofs.lemmas.Option.{same_Some, none-some}
use Rattle.sim_base.specs.declared.numbers.Numbers.{Numbers}
use Rattle.sim_base.specs.Packet.{Packet}
use Rattle.tcp_flow.specs.declared.words.In.{In}
use Rattle.tcp_flow.specs.declared.conn.Conn.{Conn}
use Rattle.tcp_flow.specs.Conn.{begun, event_of, fresh, happened}
use Rattle.tcp_flow.specs.Conns.{PlainConns, with_conns, step}
use Rattle.tcp_flow.specs.Index.{InOrder}
use Rattle.tcp_flow.specs.Later.{time_of}
use Rattle.tcp_flow.specs.Life.{concerned, is_number}
use Rattle.tcp_flow.specs.Table.{is_closed, kept, under, with_changed}
use Rattle.tcp_flow.proofs.Adding.{any_low}
use Rattle.tcp_flow.proofs.Entries.{apart, under-others_added, under-added, in_order-added, under-changed, in_order-changed, under-removed, in_order-removed}
use Rattle.tcp_flow.proofs.Indexing.{at_itself}
use Rattle.tcp_flow.proofs.Lookups.{least_none}
use Rattle.delivered_prefix.specs.OneConnection.{Begins, GoesOn, IsActOf, IsNobodys, left}
use Rattle.delivered_prefix.proofs.Does.{Does, Happened, Made, Step, step-does}
use Rattle.delivered_prefix.proofs.OwnActs.{all_done-own}

abbrev Entries : Type 0
Entries = List (ℕ × Conn)

-- ---- a connection that has changed, or is removed

kept-others : (m number : ℕ) (k : Conn) (es : Entries) → InOrder es → is_some (under number es) ≡ true → (number ≡ m → ⊥) → under m (kept number k es) ≡ under m es
kept-others m number k es order there ne =
    let off = apart number m ne in
    elim (is_closed k.connection.phase) as (λ b. under m (cond b (remove_entry (is_at (nat_cmp number)) es) (set_value (is_at (nat_cmp number)) es k)) ≡ under m es) [
      | true ↦ under-removed m number es order ∙ cond-false (is_at (nat_cmp number) m) None (under m es) off
      | false ↦ under-changed m number k es there ∙ cond-false (is_at (nat_cmp number) m) (Some k) (under m es) off
    ]

kept-left : (number : ℕ) (k : Conn) (es : Entries) → InOrder es → is_some (under number es) ≡ true → under number (kept number k es) ≡ left k
kept-left number k es order there =
    elim (is_closed k.connection.phase) as
    (λ b. under number (cond b (remove_entry (is_at (nat_cmp number)) es) (set_value (is_at (nat_cmp number)) es k)) ≡ cond b None (Some k)) [
      | true ↦ under-removed number number es order ∙ cond-true (is_at (nat_cmp number) number) None (under number es) (at_itself number)
      | false ↦ under-changed number number k es there ∙ cond-true (is_at (nat_cmp number) number) (Some k) (under number es) (at_itself number)
    ]

kept-in_order : (number : ℕ) (k : Conn) (es : Entries) → InOrder es → InOrder (kept number k es)
kept-in_order number k es order =
    elim (is_closed k.connection.phase) as (λ b. InOrder (cond b (remove_entry (is_at (nat_cmp number)) es) (set_value (is_at (nat_cmp number)) es k))) [
      | true ↦ in_order-removed number es order
      | false ↦ in_order-changed number k es order
    ]

module _ (t : PlainConns) (n : Numbers) (input : In Packet) (u : Step) (order : InOrder t.conns) where
  -- ---- the others

  happened-others : (m number : ℕ) → Happened t n input u number → (number ≡ m → ⊥) → under m u.state.conns ≡ under m t.conns
  happened-others m number h ne =
      ap (λ (s : Step). under m s.state.conns) h.after
      ∙ kept-others m number (happened (time_of input) h.event h.conn n).conn t.conns order (ap (is_some {T = Conn}) h.found) ne

  made-others : (m number : ℕ) → Made t n input u number → (number ≡ m → ⊥) → under m u.state.conns ≡ under m t.conns
  made-others m number h ne =
      ap (under m) h.conns ∙ under-others_added m number (begun number h.app h.pair n h.first).conn t.conns (λ same. ne (sym same))

  pub others : (m : ℕ) (c : Option ℕ) → Does t n input u c → is_number m c ≡ false → under m u.state.conns ≡ under m t.conns
  others m None does off = ap (under m) does.conns
  others m (Some number) does off =
      let ne = eqb-false number m off in
      ⊎_elim (λ (h : Happened t n input u number). happened-others m number h ne) (λ (h : Made t n input u number). made-others m number h ne) does

  -- ---- the order

  happened-in_order : (number : ℕ) → Happened t n input u number → InOrder u.state.conns
  happened-in_order number h =
      subst (λ (s : Step). InOrder s.state.conns) (sym h.after) (kept-in_order number (happened (time_of input) h.event h.conn n).conn t.conns order)

  made-in_order : (number : ℕ) → Made t n input u number → InOrder u.state.conns
  made-in_order number h = subst InOrder (sym h.conns) (in_order-added number (begun number h.app h.pair n h.first).conn t.conns order)

  pub in_order : (c : Option ℕ) → Does t n input u c → InOrder u.state.conns
  in_order None does = subst InOrder (sym does.conns) order
  in_order (Some number) does =
      ⊎_elim (λ (h : Happened t n input u number). happened-in_order number h) (λ (h : Made t n input u number). made-in_order number h) does

  pub nobodys : (c : Option ℕ) → Does t n input u c → c ≡ None → All IsNobodys u.acts
  nobodys None does none = does.acts
  nobodys (Some number) does none = absurd (none-some number (sym none))

-- ---- the one

module _ (t : PlainConns) (n : Numbers) (input : In Packet) (order : InOrder t.conns) (number : ℕ) where
  abbrev Here : Type 0
  Here = Happened t n input (step t n input) number

  abbrev New : Type 0
  New = Made t n input (step t n input) number

  new-free : New → under number t.conns ≡ None
  new-free h = ap (λ m. under m t.conns) h.least ∙ least_none 0 t.conns order (any_low (keys_of t.conns))

  happened-goes_on : (k : Conn) → Here → under number t.conns ≡ Some k → GoesOn t n input number k
  happened-goes_on k h found =
      let same : h.conn ≡ k = same_Some h.conn k (sym h.found ∙ found) in
      let d = happened (time_of input) h.event k n in
      let after : step t n input ≡ with_conns t (with_changed number d t.conns) =
      h.after ∙ ap (λ (j : Conn). with_conns t (with_changed number (happened (time_of input) h.event j n) t.conns)) same in
      let x = event_of (time_of input) h.event k.connection in
      let acts : (step t n input).acts ≡ d.acts = ap (λ (s : Step). s.acts) after in
      record {
        event = h.event;
        is = h.is;
        entry = ap (λ (s : Step). under number s.state.conns) after ∙ kept-left number d.conn t.conns order (ap (is_some {T = Conn}) found);
        numbers = ap (λ (s : Step). s.numbers) after;
        acts = acts;
        own = subst (All (IsActOf k)) (sym acts) (all_done-own (record k { connection = x.now }) n x.effects);
      }

  made-begins : New → Begins t n input number
  made-begins h =
      let d = begun number h.app h.pair n h.first in
      record {
        app = h.app;
        pair = h.pair;
        first = h.first;
        beginning = h.beginning;
        new = h.new;
        least = h.least;
        entry = ap (under number) h.conns ∙ under-added number d.conn t.conns;
        numbers = h.numbers;
        acts = h.acts;
        own = subst (All (IsActOf (fresh number h.app h.pair h.first.now))) (sym h.acts) (all_done-own (fresh number h.app h.pair h.first.now) n h.first.effects);
      }

  does-number : concerned t input ≡ Some number → Does t n input (step t n input) (Some number)
  does-number is = subst (Does t n input (step t n input)) is (step-does t n input order)

  pub goes_on : (k : Conn) → concerned t input ≡ Some number → under number t.conns ≡ Some k → GoesOn t n input number k
  goes_on k is found =
      ⊎_elim (λ (h : Here). happened-goes_on k h found) (λ (h : New). absurd (none-some k (sym (new-free h) ∙ found))) (does-number is)

  pub begins : concerned t input ≡ Some number → under number t.conns ≡ None → Begins t n input number
  begins is free =
      ⊎_elim (λ (h : Here). absurd (none-some h.conn (sym free ∙ h.found))) (λ (h : New). made-begins h) (does-number is)
