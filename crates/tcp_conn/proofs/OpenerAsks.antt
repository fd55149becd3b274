-- What an opener sends where its application asks for something.
use Rattle.std.proofs.Common.{◌≡◌, ℕ, ◌+◌, ◌-◌, ◌^◌, ◌<◌, ◌≤◌, Bool, true, false, cond, min, List, [], ◌++◌, length, take, length-append, refl, sym, ap, subst, ◌∙◌, arith}
use Rattle.std.proofs.lemmas.List.{append-nil, drop-append-le, length-take}
use Rattle.tcp_conn.specs.declared.connection.Phase.{Phase}
use Rattle.tcp_conn.specs.declared.connection.Phase.TheVariants.{SynSent, SynReceived, Established, FinWait1, FinWait2, TimeWait, LastAck, Closed}
use Rattle.tcp_conn.specs.declared.connection.Connection.{Connection}
use Rattle.tcp_conn.specs.Send.{room, written_end, pumped}
use Rattle.tcp_conn.specs.Begin.{opening, with_bytes, writes, closes}
use Rattle.tcp_conn.proofs.OpenerState.{InPhase, State, OpenerOf, Sends}
use Rattle.tcp_conn.proofs.OpenerSends.{sends-of, written_end-is, pumped-stays}

no : {A : Type 0} → false ≡ true → A
no e = absurd (let bad : ⊥ = (cc) in bad)

-- what the application asks for

longer-phase : (p : Phase) (total more una max : ℕ) → max ≤ total + 1 → InPhase p total una max → InPhase p (total + more) una max
longer-phase SynSent total more una max h i = i
longer-phase SynReceived total more una max h i = i
longer-phase Established total more una max h i = (i.0, omega arith)
longer-phase FinWait1 total more una max h i = absurd (omega arith)
longer-phase FinWait2 total more una max h i = i
longer-phase TimeWait total more una max h i = i
longer-phase LastAck total more una max h i = i
longer-phase Closed total more una max h i = i

low : (total max : ℕ) → (total + 1 < max → ⊥) → max ≤ total + 1
low total max h = omega arith

-- more was written before a close
longer : (written bytes : List ℕ) (c : Connection) → OpenerOf written c → c.closing ≡ false → length written + length bytes ≤ 2 ^ 30 →
    State (written ++ bytes) c.phase c.opener c.mss c.reno.smss c.una c.nxt c.max (c.buffer ++ bytes) c.closing
longer written bytes c o opened few =
    let top : c.max ≤ length written + 1 = low (length written) c.max (λ h. let e : c.closing ≡ true = o.fin h in no (sym opened ∙ e)) in
    let una : c.una ≤ c.nxt = o.una_nxt in
    let nxt : c.nxt ≤ c.max = o.nxt_max in
    let inside : c.una - 1 ≤ length written = omega arith in
    let size : length (written ++ bytes) ≡ length written + length bytes = length-append written bytes in
    record {
      side = o.side;
      mss_some = o.mss_some;
      smss_some = o.smss_some;
      few = omega arith;
      holds = ap (λ l. l ++ bytes) o.holds ∙ sym (drop-append-le (c.una - 1) written bytes inside);
      una_nxt = o.una_nxt;
      nxt_max = o.nxt_max;
      top = omega arith;
      fin = λ h. absurd (omega arith);
      stands =
          subst (λ n. InPhase c.phase n c.una c.max) (sym size)
          (longer-phase c.phase (length written) (length bytes) c.una c.max top o.stands);
    }

nothing-more : (written : List ℕ) (c : Connection) → OpenerOf written c → State (written ++ []) c.phase c.opener c.mss c.reno.smss c.una c.nxt c.max (c.buffer ++ []) c.closing
nothing-more written c o =
    subst (λ w. State w c.phase c.opener c.mss c.reno.smss c.una c.nxt c.max (c.buffer ++ []) c.closing) (sym (append-nil written))
    (subst (λ b. State written c.phase c.opener c.mss c.reno.smss c.una c.nxt c.max b c.closing) (sym (append-nil c.buffer)) o)

abbrev pub room-is : (c : Connection) (b : Bool) → ℕ
room-is c b = cond b 0 (min (131072 - length c.buffer) (2 ^ 30 + 1 - written_end c))

fits : (room end total bytes : ℕ) → end ≡ total + 1 → total ≤ 2 ^ 30 → room ≤ 2 ^ 30 + 1 - end → bytes ≤ room → total + bytes ≤ 2 ^ 30
fits room end total bytes e f h k = omega arith

with_bytes-opener : (written bytes : List ℕ) (c : Connection) → OpenerOf written c → OpenerOf (written ++ take (room c) bytes) (with_bytes bytes c)
with_bytes-opener written bytes c o =
    elim c.closing as (λ b. c.closing ≡ b → State (written ++ take (room-is c b) bytes) c.phase c.opener c.mss c.reno.smss c.una c.nxt c.max (c.buffer ++ take (room-is c b) bytes) c.closing) [
      | true ↦ λ e. nothing-more written c o
      | false ↦ λ e.
          let space = min (131072 - length c.buffer) (2 ^ 30 + 1 - written_end c) in
          let taken : length (take space bytes) ≡ min space (length bytes) = length-take space bytes in
          let top : c.max ≤ length written + 1 = low (length written) c.max (λ h. let f : c.closing ≡ true = o.fin h in no (sym e ∙ f)) in
          let una : c.una ≤ c.nxt = o.una_nxt in
          let nxt : c.nxt ≤ c.max = o.nxt_max in
          let end : written_end c ≡ length written + 1 = written_end-is written c o (omega arith) in
          longer written (take space bytes) c o e
          (fits space (written_end c) (length written) (length (take space bytes)) end o.few (omega arith) (omega arith))
    ] refl

pub writes-sends : (written : List ℕ) (now : ℕ) (bytes : List ℕ) (c : Connection) → OpenerOf written c → Sends (written ++ take (room c) bytes) c.closing (writes now bytes c)
unfolding writes
writes-sends written now bytes c o =
    let d = with_bytes bytes c in
    let all = written ++ take (room c) bytes in
    sends-of all d (pumped now d) (pumped-stays all now d (with_bytes-opener written bytes c o))

closing-opener : (written : List ℕ) (c : Connection) → OpenerOf written c → OpenerOf written (record c { closing = true })
closing-opener written c o =
    record {
      side = o.side;
      mss_some = o.mss_some;
      smss_some = o.smss_some;
      few = o.few;
      holds = o.holds;
      una_nxt = o.una_nxt;
      nxt_max = o.nxt_max;
      top = o.top;
      fin = λ _. refl;
      stands = o.stands;
    }

pub closes-sends : (written : List ℕ) (now : ℕ) (c : Connection) → OpenerOf written c → Sends written true (closes now c)
unfolding closes
closes-sends written now c o =
    let d = record c { closing = true } in
    sends-of written d (pumped now d) (pumped-stays written now d (closing-opener written c o))

pub opening-sends : (now mss : ℕ) → 0 < mss → Sends [] false (opening now mss)
unfolding opening
opening-sends now mss some =
    record {
      next =
          record {
            side = refl;
            mss_some = some;
            smss_some = some;
            few = omega arith;
            holds = refl;
            una_nxt = omega arith;
            nxt_max = omega arith;
            top = omega arith;
            fin = λ h. absurd (omega arith);
            stands = (refl, refl);
          };
      closing = refl;
      all = (record { syn = λ _. refl; bytes = λ h. absurd (omega arith); fin = λ e. no e }, tt);
    }
