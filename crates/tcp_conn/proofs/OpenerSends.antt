-- What an opener sends: each of its segments carries what was written.
use Rattle.std.proofs.Common.{◌≡◌, ℕ, zero, suc, ◌+◌, ◌-◌, ◌^◌, ◌<◌, ◌≤◌, ◌==◌, ◌&&◌, Bool, true, false, cond, nat_lt, nat_le, min, List, [], ◌∷◌, ◌++◌, length, drop, length-drop, Option, None, Some, refl, sym, ap, subst, ◌∙◌, arith}
use Rattle.std.proofs.Common as common
use Rattle.std.proofs.lemmas.Bool.Decides.{nat_tests}
use Rattle.tcp_reno.specs.declared.RenoIn.{RenoIn}
use Rattle.tcp_reno.specs.declared.RenoIn.TheVariants.{NewAck, DupAck, Timeout}
use Rattle.tcp_reno.specs.declared.RenoAct.{RenoAct}
use Rattle.tcp_reno.specs.NewReno.{NewReno}
use Rattle.tcp_reno.specs.Step as reno
use Rattle.tcp_conn.specs.declared.words.Effect.{Effect}
use Rattle.tcp_conn.specs.declared.words.Effect.TheVariants.{Emit}
use Rattle.tcp_conn.specs.declared.connection.Phase.{Phase}
use Rattle.tcp_conn.specs.declared.connection.Phase.TheVariants.{SynSent, SynReceived, Established, FinWait1, FinWait2, TimeWait, LastAck, Closed}
use Rattle.tcp_conn.specs.declared.connection.Connection.{Connection}
use Rattle.tcp_conn.specs.Send.{Stepped, silently, and_then, first_again, first_size, resent, next_size, may_send, data_sent, fin_sent, sends_data, pumped, resends, controlled, timer_at, timer_restarted, sent, repeated, acknowledged, written_end, outgoing}
use Rattle.tcp_conn.proofs.Pumping.{sends_some}
use Rattle.tcp_conn.proofs.OpenerState.{InPhase, State, OpenerOf, Carries, AllCarry, Sends, Stays}

no : {A : Type 0} → false ≡ true → A
no e = absurd (let bad : ⊥ = (cc) in bad)

-- one step after another

all-append : (written : List ℕ) (closed : Bool) (una : ℕ) (xs ys : List Effect) → AllCarry written closed una xs → AllCarry written closed una ys → AllCarry written closed una (xs ++ ys)
all-append written closed una [] ys p q = q
all-append written closed una (Emit o ∷ xs) ys p q = (p.0, all-append written closed una xs ys p.1 q)
all-append written closed una (other ∷ xs) ys p q = all-append written closed una xs ys p q

pub stays-then : (written : List ℕ) (c : Connection) (s : Stepped) (f : Connection → Stepped) → Stays written c s → Stays written s.now (f s.now) → Stays written c (and_then s f)
stays-then written c s f p q =
    record {
      next = q.next;
      una = q.una ∙ p.una;
      closing = q.closing ∙ p.closing;
      all =
          all-append written c.closing c.una s.effects (f s.now).effects p.all
          (subst (λ u. AllCarry written c.closing u (f s.now).effects) p.una
          (subst (λ b. AllCarry written b s.now.una (f s.now).effects) p.closing q.all));
    }

pub sends-then : (written : List ℕ) (closed : Bool) (s : Stepped) (f : Connection → Stepped) → Sends written closed s → Stays written s.now (f s.now) → Sends written closed (and_then s f)
sends-then written closed s f p q =
    record {
      next = q.next;
      closing = q.closing ∙ p.closing;
      all =
          subst (λ u. AllCarry written closed u (s.effects ++ (f s.now).effects)) (sym q.una)
          (all-append written closed s.now.una s.effects (f s.now).effects p.all
          (subst (λ b. AllCarry written b s.now.una (f s.now).effects) p.closing q.all));
    }

pub sends-of : (written : List ℕ) (c : Connection) (s : Stepped) → Stays written c s → Sends written c.closing s
sends-of written c s p =
    record { next = p.next; closing = p.closing; all = subst (λ u. AllCarry written c.closing u s.effects) (sym p.una) p.all }

pub stays-if : (written : List ℕ) (c : Connection) (b : Bool) (x y : Stepped) → (b ≡ true → Stays written c x) → (b ≡ false → Stays written c y) → Stays written c (cond b x y)
stays-if written c true x y p q = p refl
stays-if written c false x y p q = q refl

pub sends-if : (written : List ℕ) (closed b : Bool) (x y : Stepped) → (b ≡ true → Sends written closed x) → (b ≡ false → Sends written closed y) → Sends written closed (cond b x y)
sends-if written closed true x y p q = p refl
sends-if written closed false x y p q = q refl

-- a step from a connection that differs in what no segment shows
pub stays-from : (written : List ℕ) (c d : Connection) (s : Stepped) → d.una ≡ c.una → d.closing ≡ c.closing → Stays written d s → Stays written c s
stays-from written c d s una closing p =
    record {
      next = p.next;
      una = p.una ∙ una;
      closing = p.closing ∙ closing;
      all =
          subst (λ u. AllCarry written c.closing u s.effects) una
          (subst (λ b. AllCarry written b d.una s.effects) closing p.all);
    }

pub stays-silent : (written : List ℕ) (c : Connection) → OpenerOf written c → Stays written c (silently c)
stays-silent written c o = record { next = o; una = refl; closing = refl; all = tt }

-- the timer sends nothing

starts : (written : List ℕ) (closed : Bool) (una : ℕ) (b : Bool) (now : ℕ) (c : Connection) → AllCarry written closed una (cond b [] (timer_at now c ∷ []))
starts written closed una true now c = tt
starts written closed una false now c = tt

restarts : (written : List ℕ) (closed : Bool) (una : ℕ) (b : Bool) (now : ℕ) (c : Connection) → AllCarry written closed una (cond b (timer_at now c ∷ []) [])
restarts written closed una true now c = tt
restarts written closed una false now c = tt

pub restarted-stays : (written : List ℕ) (now : ℕ) (c : Connection) → OpenerOf written c → Stays written c (timer_restarted now c)
restarted-stays written now c o =
    record { next = o; una = refl; closing = refl; all = restarts written c.closing c.una (nat_lt c.una c.max) now c }

-- a bare acknowledgement
pub acknowledged-stays : (written : List ℕ) (c : Connection) → OpenerOf written c → Stays written c (acknowledged c)
acknowledged-stays written c o =
    record {
      next = o;
      una = refl;
      closing = refl;
      all = (record { syn = λ e. no e; bytes = λ h. absurd (omega arith); fin = λ e. no e }, tt);
    }

-- a SYN, whose position is 0
pub syn-stays : (written : List ℕ) (now : ℕ) (c : Connection) → OpenerOf written c → c.phase ≡ SynSent → c.nxt ≡ c.una → Stays written c (sent now true false 0 c)
syn-stays written now c o phase back =
    let at : InPhase SynSent (length written) c.una c.max = subst (λ p. InPhase p (length written) c.una c.max) phase o.stands in
    let una : c.una ≡ 0 = at.0 in
    let top : c.max ≡ 1 = at.1 in
    let same : common.max c.max (c.nxt + 0 + 1 + 0) ≡ c.max = omega arith in
    record {
      next =
          record {
            side = o.side;
            mss_some = o.mss_some;
            smss_some = o.smss_some;
            few = o.few;
            holds = o.holds;
            una_nxt = omega arith;
            nxt_max = omega arith;
            top = omega arith;
            fin = λ h. o.fin (omega arith);
            stands = subst (λ m. InPhase c.phase (length written) c.una m) (sym same) o.stands;
          };
      una = refl;
      closing = refl;
      all = (
        record { syn = λ _. back ∙ una; bytes = λ h. absurd (omega arith); fin = λ e. no e },
        starts written c.closing c.una c.timer now (record c { nxt = c.nxt + 0 + 1 + 0; max = common.max c.max (c.nxt + 0 + 1 + 0) }),
      );
    }

-- data and the FIN behind it

and-left : (a b : Bool) → (a && b) ≡ true → a ≡ true
and-left true b e = refl
and-left false b e = no e

and-right : (a b : Bool) → (a && b) ≡ true → b ≡ true
and-right true b e = e
and-right false b e = no e

begun : (p : Phase) (total una max : ℕ) → sends_data p ≡ true → InPhase p total una max → 1 ≤ una
begun SynSent total una max s h = no s
begun SynReceived total una max s h = no s
begun Established total una max s h = h.0
begun FinWait1 total una max s h = h.0
begun FinWait2 total una max s h = no s
begun TimeWait total una max s h = no s
begun LastAck total una max s h = no s
begun Closed total una max s h = no s

within : (p : Phase) (total una max : ℕ) → una ≤ max → sends_data p ≡ true → InPhase p total una max → una ≤ total + 1
within SynSent total una max h s i = no s
within SynReceived total una max h s i = no s
within Established total una max h s i = omega arith
within FinWait1 total una max h s i = omega arith
within FinWait2 total una max h s i = no s
within TimeWait total una max h s i = no s
within LastAck total una max h s i = no s
within Closed total una max h s i = no s

further : (p : Phase) (total una max top : ℕ) → sends_data p ≡ true → top ≤ total + 1 → InPhase p total una max → InPhase p total una (common.max max top)
further SynSent total una max top s h i = no s
further SynReceived total una max top s h i = no s
further Established total una max top s h i = (i.0, omega arith)
further FinWait1 total una max top s h i = (i.0, omega arith, omega arith)
further FinWait2 total una max top s h i = no s
further TimeWait total una max top s h i = no s
further LastAck total una max top s h i = no s
further Closed total una max top s h i = no s

-- the position behind the last byte written
pub written_end-is : (written : List ℕ) (c : Connection) → OpenerOf written c → c.una ≤ length written + 1 → written_end c ≡ length written + 1
written_end-is written c o h =
    let held : length c.buffer ≡ length written - (c.una - 1) = ap length o.holds ∙ length-drop (c.una - 1) written in omega arith

data_sent-one : (written : List ℕ) (now n : ℕ) (c : Connection) → OpenerOf written c → sends_data c.phase ≡ true → 0 < n → c.nxt + n ≤ length written + 1 →
    Stays written c (sent now false false n c)
data_sent-one written now n c o s some fits =
    let una : 1 ≤ c.una = begun c.phase (length written) c.una c.max s o.stands in
    let end : c.nxt + n + 0 + 0 ≤ length written + 1 = omega arith in
    record {
      next =
          record {
            side = o.side;
            mss_some = o.mss_some;
            smss_some = o.smss_some;
            few = o.few;
            holds = o.holds;
            una_nxt = omega arith;
            nxt_max = omega arith;
            top = omega arith;
            fin = λ h. o.fin (omega arith);
            stands = further c.phase (length written) c.una c.max (c.nxt + n + 0 + 0) s end o.stands;
          };
      una = refl;
      closing = refl;
      all = (
        record { syn = λ e. no e; bytes = λ _. (una, o.una_nxt); fin = λ e. no e },
        starts written c.closing c.una c.timer now (record c { nxt = c.nxt + n + 0 + 0; max = common.max c.max (c.nxt + n + 0 + 0) }),
      );
    }

inside : (smss end nxt total : ℕ) → end ≡ total + 1 → 0 < min smss (end - nxt) → nxt + min smss (end - nxt) ≤ total + 1
inside smss end nxt total e h = omega arith

data-stays : (written : List ℕ) (now more : ℕ) (c : Connection) → OpenerOf written c → sends_data c.phase ≡ true → Stays written c (data_sent now more c)
unfolding data_sent
data-stays written now zero c o s = stays-silent written c o
data-stays written now (suc more) c o s =
    stays-if written c (may_send c) (and_then (sent now false false (next_size c) c) (data_sent now more)) (silently c)
    (λ e.
    let some : 0 < next_size c = sends_some c e in
    let end : written_end c ≡ length written + 1 =
    written_end-is written c o (within c.phase (length written) c.una c.max (omega arith) s o.stands) in
    let one = data_sent-one written now (next_size c) c o s some (inside c.reno.smss (written_end c) c.nxt (length written) end some) in
    stays-then written c (sent now false false (next_size c) c) (data_sent now more) one
    (data-stays written now more (sent now false false (next_size c) c).now one.next s))
    (λ _. stays-silent written c o)

is-at : (a b : ℕ) → (a == b) ≡ true → a ≡ b
is-at a b h = grind (arith, nat_tests)

is-below : (a b : ℕ) → nat_lt a b ≡ true → a < b
is-below a b h = grind (arith, nat_tests)

fin-stays : (written : List ℕ) (now : ℕ) (c : Connection) → OpenerOf written c → 1 ≤ c.una → c.una ≤ length written + 1 → Stays written c (fin_sent now c)
fin-stays written now c o una low =
    let d = record c { phase = FinWait1 } in
    stays-if written c (c.closing && c.nxt == written_end c) (sent now false true 0 d) (silently c)
    (λ e.
    let closed : c.closing ≡ true = and-left c.closing (c.nxt == written_end c) e in
    let at : c.nxt ≡ written_end c = is-at c.nxt (written_end c) (and-right c.closing (c.nxt == written_end c) e) in
    let end : written_end c ≡ length written + 1 = written_end-is written c o low in
    let sent_at : c.nxt ≡ length written + 1 = omega arith in
    record {
      next =
          record {
            side = o.side;
            mss_some = o.mss_some;
            smss_some = o.smss_some;
            few = o.few;
            holds = o.holds;
            una_nxt = omega arith;
            nxt_max = omega arith;
            top = omega arith;
            fin = λ _. closed;
            stands = (una, omega arith, omega arith);
          };
      una = refl;
      closing = refl;
      all = (
        record { syn = λ e. no e; bytes = λ h. absurd (omega arith); fin = λ _. (closed, sent_at, refl) },
        starts written c.closing c.una c.timer now (record d { nxt = c.nxt + 0 + 0 + 1; max = common.max c.max (c.nxt + 0 + 0 + 1) }),
      );
    })
    (λ _. stays-silent written c o)

pub pumped-stays : (written : List ℕ) (now : ℕ) (c : Connection) → OpenerOf written c → Stays written c (pumped now c)
pumped-stays written now c o =
    stays-if written c (c.opener && sends_data c.phase) (and_then (data_sent now (written_end c - c.nxt) c) (fin_sent now)) (silently c)
    (λ e.
    let s : sends_data c.phase ≡ true = and-right c.opener (sends_data c.phase) e in
    let una : 1 ≤ c.una = begun c.phase (length written) c.una c.max s o.stands in
    let low : c.una ≤ length written + 1 = within c.phase (length written) c.una c.max (omega arith) s o.stands in
    let sent = data_sent now (written_end c - c.nxt) c in
    let p = data-stays written now (written_end c - c.nxt) c o s in
    stays-then written c sent (fin_sent now) p
    (fin-stays written now sent.now p.next (subst (λ u. 1 ≤ u) (sym p.una) una) (subst (λ u. u ≤ length written + 1) (sym p.una) low)))
    (λ _. stays-silent written c o)

-- what is sent again

repeated-stays : (written : List ℕ) (now : ℕ) (syn fin : Bool) (bytes : ℕ) (c : Connection) → OpenerOf written c →
    Carries written c.closing c.una (outgoing c c.una syn fin bytes) → Stays written c (repeated now syn fin bytes c)
repeated-stays written now syn fin bytes c o h =
    record { next = o; una = refl; closing = refl; all = (h, starts written c.closing c.una c.timer now (record c { timed = None })) }

nothing_left : (smss max end una total : ℕ) → 0 < smss → una < max → max ≤ total + 2 → end ≡ total + 1 → min smss (min max end - una) ≡ 0 → (una ≡ total + 1) × (total + 1 < max)
nothing_left smss max end una total h i j e n = (omega arith, omega arith)

pub resent-stays : (written : List ℕ) (now : ℕ) (c : Connection) → OpenerOf written c → Stays written c (resent now c)
resent-stays written now c o =
    stays-if written c (nat_lt c.una c.max) (first_again now c) (silently c)
    (λ b.
    let below : c.una < c.max = is-below c.una c.max b in
    stays-if written c (c.una == 0) (repeated now true false 0 c) (repeated now false (first_size c == 0) (first_size c) c)
    (λ e.
    repeated-stays written now true false 0 c o
    (record { syn = λ _. is-at c.una 0 e; bytes = λ h. absurd (omega arith); fin = λ f. no f }))
    (λ e.
    let una : 1 ≤ c.una = grind (arith, nat_tests) in
    let end : written_end c ≡ length written + 1 = written_end-is written c o (omega arith) in
    repeated-stays written now false (first_size c == 0) (first_size c) c o
    (record {
      syn = λ f. no f;
      bytes = λ _. (una, omega arith);
      fin = λ f.
          let none : first_size c ≡ 0 = is-at (first_size c) 0 f in
          let left = nothing_left c.reno.smss c.max (written_end c) c.una (length written) o.smss_some below o.top end none in
          (o.fin left.1, left.0, none);
    })))
    (λ _. stays-silent written c o)

resends-stays : (written : List ℕ) (now : ℕ) (acts : List RenoAct) (c : Connection) → OpenerOf written c → Stays written c (resends now acts c)
resends-stays written now [] c o = stays-silent written c o
resends-stays written now (act ∷ acts) c o = resent-stays written now c o

-- congestion control keeps the size of a full segment

either-size : (b : Bool) (x y : reno.Answer) (n : ℕ) → x.state.smss ≡ n → y.state.smss ≡ n → (cond b x y).state.smss ≡ n
either-size true x y n p q = p
either-size false x y n p q = q

rule-size : (r : NewReno) (input : RenoIn) → (reno.rule r input).state.smss ≡ r.smss
rule-size r (NewAck ack acked flight) =
    either-size r.recovering (cond (nat_le r.recover ack) (reno.silently (reno.recovered r flight)) (reno.resending (reno.deflated r acked))) (reno.silently (reno.grown r acked)) r.smss
    (either-size (nat_le r.recover ack) (reno.silently (reno.recovered r flight)) (reno.resending (reno.deflated r acked)) r.smss refl refl)
    refl
rule-size r (DupAck ack flight highest) =
    either-size r.recovering (reno.silently (record r { cwnd = r.cwnd + r.smss }))
    (cond (reno.counted r.dup == 3 && nat_lt r.recover ack) (reno.resending (reno.lost r flight highest)) (reno.silently (record r { dup = reno.counted r.dup }))) r.smss
    refl
    (either-size (reno.counted r.dup == 3 && nat_lt r.recover ack) (reno.resending (reno.lost r flight highest)) (reno.silently (record r { dup = reno.counted r.dup })) r.smss refl refl)
rule-size r (Timeout una flight highest) = refl

pub step-size : (r : NewReno) (input : RenoIn) → (reno.step r input).state.smss ≡ r.smss
step-size r input = rule-size r input

with-size : (written : List ℕ) (c : Connection) (n : ℕ) → n ≡ c.reno.smss → OpenerOf written c →
    State written c.phase c.opener c.mss n c.una c.nxt c.max c.buffer c.closing
with-size written c n e o = subst (λ m. State written c.phase c.opener c.mss m c.una c.nxt c.max c.buffer c.closing) (sym e) o

pub controlled-stays : (written : List ℕ) (now : ℕ) (input : RenoIn) (c : Connection) → OpenerOf written c → Stays written c (controlled now input c)
controlled-stays written now input c o =
    let answer = reno.step c.reno input in
    let d = record c { reno = answer.state } in
    stays-from written c d (resends now answer.acts d) refl refl
    (resends-stays written now answer.acts d (with-size written c answer.state.smss (step-size c.reno input) o))
