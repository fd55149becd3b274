-- Each connection keeps the number under which it stands.
use Rattle.std.proofs.Common.{◌≡◌, ℕ, true, false, cond, List, [], ◌∷◌, None, Some, refl, sym, ap, ◌∙◌}
use Rattle.std.proofs.lemmas.Option.{same_Some, none-some}
use Rattle.sim_base.specs.declared.numbers.Numbers.{Numbers}
use Rattle.sim_base.specs.Packet.{Packet}
use Rattle.tcp_conn.specs.declared.words.Effect.{Effect}
use Rattle.tcp_conn.specs.declared.words.Effect.TheVariants.{Emit, TimerAt, Connected, Room, Deliver, End, Reset, Dropped}
use Rattle.tcp_flow.specs.declared.words.In.{In}
use Rattle.tcp_flow.specs.declared.conn.Conn.{Conn}
use Rattle.tcp_flow.specs.Conn.{done, all_done, begun, event_of, fresh, happened}
use Rattle.tcp_flow.specs.Conns.{PlainConns, step}
use Rattle.tcp_flow.specs.Index.{InOrder}
use Rattle.tcp_flow.specs.Later.{time_of}
use Rattle.tcp_flow.specs.Life.{concerned, is_number}
use Rattle.tcp_flow.specs.Table.{is_closed, under}
use Rattle.tcp_flow.proofs.Indexing.{by_cases}
use Rattle.tcp_flow.proofs.Lookups.{by_option}
use Rattle.delivered_prefix.specs.OneConnection.{AreNumbered, left}
use Rattle.delivered_prefix.proofs.Does.{step-does}
use Rattle.delivered_prefix.proofs.Following.{is-number}
use Rattle.delivered_prefix.proofs.Others.{begins, goes_on, others}

all_done-number : (k : Conn) (n : Numbers) (es : List Effect) → (all_done k n es).conn.number ≡ k.number
all_done-number k n [] = refl
all_done-number k n (Emit o ∷ es) = all_done-number (done k n (Emit o)).conn (done k n (Emit o)).numbers es
all_done-number k n (TimerAt at ∷ es) = all_done-number (done k n (TimerAt at)).conn (done k n (TimerAt at)).numbers es
all_done-number k n (Connected ∷ es) = all_done-number k n es
all_done-number k n (Room free ∷ es) = all_done-number k n es
all_done-number k n (Deliver bytes ∷ es) = all_done-number (done k n (Deliver bytes)).conn (done k n (Deliver bytes)).numbers es
all_done-number k n (End ∷ es) = all_done-number k n es
all_done-number k n (Reset ∷ es) = all_done-number k n es
all_done-number k n (Dropped ∷ es) = all_done-number k n es

left-some : (k j : Conn) → left k ≡ Some j → k ≡ j
left-some k j =
    elim (is_closed k.connection.phase) as (λ b. cond b None (Some k) ≡ Some j → k ≡ j) [
      | true ↦ λ e. absurd (none-some j e)
      | false ↦ λ e. same_Some k j e
    ]

module _ (t : PlainConns) (n : Numbers) (input : In Packet) (order : InOrder t.conns) (all : AreNumbered t.conns) (m : ℕ) (j : Conn)
    (found : under m (step t n input).state.conns ≡ Some j) where
  made-numbered : concerned t input ≡ Some m → under m t.conns ≡ None → j.number ≡ m
  made-numbered is free =
      let g = begins t n input order m is free in
      let same : (begun m g.app g.pair n g.first).conn ≡ j = same_Some (begun m g.app g.pair n g.first).conn j (sym g.entry ∙ found) in
      ap (λ (x : Conn). x.number) (sym same) ∙ all_done-number (fresh m g.app g.pair g.first.now) n g.first.effects

  changed-numbered : (k : Conn) → concerned t input ≡ Some m → under m t.conns ≡ Some k → j.number ≡ m
  changed-numbered k is there =
      let g = goes_on t n input order m k is there in
      let d = happened (time_of input) g.event k n in
      let x = event_of (time_of input) g.event k.connection in
      ap (λ (c : Conn). c.number) (sym (left-some d.conn j (sym g.entry ∙ found)))
      ∙ all_done-number (record k { connection = x.now }) n x.effects ∙ all m k there

  pub numbered : j.number ≡ m
  numbered =
      by_cases (is_number m (concerned t input))
      (λ b.
      let is = is-number m (concerned t input) b in
      by_option (under m t.conns) (λ free. made-numbered is free) (λ k there. changed-numbered k is there))
      (λ b. all m j (sym (others t n input (step t n input) order m (concerned t input) (step-does t n input order) b) ∙ found))
