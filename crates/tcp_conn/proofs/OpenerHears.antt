-- What an opener sends where a segment comes or its timer fires.
use Rattle.std.proofs.Common.{◌≡◌, ℕ, ◌+◌, ◌-◌, ◌<◌, ◌≤◌, ◌==◌, ◌&&◌, ◌||◌, not, Bool, true, false, cond, nat_lt, nat_le, List, length, drop, Option, None, Some, refl, sym, ap, subst, ◌∙◌, arith}
use Rattle.std.proofs.lemmas.Bool.Decides.{nat_tests}
use Rattle.std.proofs.lemmas.List.{drop-drop}
use Rattle.tcp_reno.specs.declared.RenoIn.TheVariants.{NewAck, DupAck, Timeout}
use Rattle.tcp_conn.specs.declared.words.Heard.{Heard}
use Rattle.tcp_conn.specs.declared.words.Effect.TheVariants.{Connected}
use Rattle.tcp_conn.specs.declared.connection.Phase.{Phase}
use Rattle.tcp_conn.specs.declared.connection.Phase.TheVariants.{SynSent, SynReceived, Established, FinWait1, FinWait2, TimeWait, LastAck, Closed}
use Rattle.tcp_conn.specs.declared.connection.Timed.{Timed}
use Rattle.tcp_conn.specs.declared.connection.Connection.{Connection}
use Rattle.tcp_conn.specs.RoundTrip.{Estimate, with_sample}
use Rattle.tcp_conn.specs.Send.{Stepped, silently, with_effect, and_then, sends_data, in_flight, pumped, controlled, timer_restarted, acknowledged}
use Rattle.tcp_conn.specs.Step.{reset, dropped, named_size, established, in_syn_sent, sampled, advanced, acked_phase, moved_on, told_room, goes_on, settled, new_ack, is_duplicate, dup_ack, took_window, counted_ack, acks, has_content, sink_takes, ended, past_fin, fin_taken, opener_takes, takes, answers_syn, hears_reset, in_later_states, hears_in, hears, sent_again, timed_out, times_out}
use Rattle.tcp_conn.proofs.OpenerState.{InPhase, OpenerOf, Sends, Stays}
use Rattle.tcp_conn.proofs.OpenerSends.{stays-then, sends-then, sends-of, stays-if, sends-if, stays-from, stays-silent, restarted-stays, acknowledged-stays, syn-stays, pumped-stays, controlled-stays, step-size}

no : {A : Type 0} → false ≡ true → A
no e = absurd (let bad : ⊥ = (cc) in bad)

in-phase : (p q : Phase) (total una max : ℕ) → p ≡ q → InPhase p total una max → InPhase q total una max
in-phase p q total una max e h = subst (λ r. InPhase r total una max) e h

-- a reset, and what is dropped

pub reset-stays : (written : List ℕ) (c : Connection) → OpenerOf written c → Stays written c (reset c)
reset-stays written c o =
    record {
      next =
          record {
            side = o.side;
            mss_some = o.mss_some;
            smss_some = o.smss_some;
            few = o.few;
            holds = o.holds;
            una_nxt = o.una_nxt;
            nxt_max = o.nxt_max;
            top = o.top;
            fin = o.fin;
            stands = tt;
          };
      una = refl;
      closing = refl;
      all = tt;
    }

dropped-stays : (written : List ℕ) (c : Connection) → OpenerOf written c → Stays written c (dropped c)
dropped-stays written c o = record { next = o; una = refl; closing = refl; all = tt }

-- acknowledgements

sampled-keeps : (P : Connection → Type 0) (now ack : ℕ) (t : Option Timed) (c : Connection) → ((e : Estimate) (u : Option Timed) → P (record c { round_trip = e; timed = u })) → P (sampled now ack t c)
sampled-keeps P now ack None c h = h c.round_trip c.timed
sampled-keeps P now ack (Some t) c h =
    elim (nat_le t.end ack) as (λ b. P (cond b (record c { round_trip = with_sample (now - t.at.0) c.round_trip; timed = None }) c)) [
      | true ↦ h (with_sample (now - t.at.0) c.round_trip) None
      | false ↦ h c.round_trip c.timed
    ]

acked : (p : Phase) (all : Bool) (total una ack max : ℕ) → 1 ≤ una → una < ack → (all ≡ false → ack < max) → InPhase p total una max → InPhase (acked_phase all p) total ack max
acked SynSent all total una ack max h k f i = absurd (omega arith)
acked SynReceived all total una ack max h k f i = absurd i
acked Established all total una ack max h k f i = (omega arith, i.1)
acked FinWait1 true total una ack max h k f i = omega arith
acked FinWait1 false total una ack max h k f i = (omega arith, f refl, i.2)
acked FinWait2 all total una ack max h k f i = omega arith
acked TimeWait all total una ack max h k f i = omega arith
acked LastAck all total una ack max h k f i = absurd i
acked Closed all total una ack max h k f i = tt

less : (a b : ℕ) → a ≤ b → (a == b) ≡ false → a < b
less a b h e = grind (arith, nat_tests)

advanced-opener : (written : List ℕ) (ack : ℕ) (c : Connection) → OpenerOf written c → 1 ≤ c.una → c.una < ack → ack ≤ c.max → OpenerOf written (moved_on ack (advanced ack c))
advanced-opener written ack c o una more known =
    let same : c.una - 1 + (ack - c.una) ≡ ack - 1 = omega arith in
    record {
      side = o.side;
      mss_some = o.mss_some;
      smss_some = o.smss_some;
      few = o.few;
      holds =
          ap (drop (ack - c.una)) o.holds ∙ drop-drop (ack - c.una) (c.una - 1) written ∙ ap (λ n. drop n written) same;
      una_nxt = omega arith;
      nxt_max = omega arith;
      top = o.top;
      fin = o.fin;
      stands = acked c.phase (ack == c.max) (length written) c.una ack c.max una more (less ack c.max known) o.stands;
    }

settled-sends : (written : List ℕ) (now ack : ℕ) (c : Connection) → OpenerOf written c → 1 ≤ c.una → c.una < ack → ack ≤ c.max → Sends written c.closing (settled now ack c)
unfolding settled
settled-sends written now ack c o una more known =
    sampled-keeps (λ d. Sends written c.closing (timer_restarted now (moved_on ack (advanced ack d)))) now ack c.timed c
    (λ e t.
    let d = record c { round_trip = e; timed = t } in
    let m = moved_on ack (advanced ack d) in
    let next : OpenerOf written m = advanced-opener written ack d o una more known in
    sends-of written m (timer_restarted now m) (restarted-stays written now m next))

goes_on-stays : (written : List ℕ) (now ack acked : ℕ) (c : Connection) → OpenerOf written c → Stays written c (goes_on now ack acked c)
unfolding goes_on
goes_on-stays written now ack acked c o =
    let s = controlled now (NewAck ack acked (in_flight c)) c in
    let t = and_then s (pumped now) in
    let p = controlled-stays written now (NewAck ack acked (in_flight c)) c o in
    let q = stays-then written c s (pumped now) p (pumped-stays written now s.now p.next) in
    stays-if written c (sends_data c.phase) (and_then t told_room) (silently c)
    (λ _. stays-then written c t told_room q (record { next = q.next; una = refl; closing = refl; all = tt }))
    (λ _. stays-silent written c o)

new_ack-sends : (written : List ℕ) (now ack : ℕ) (c : Connection) → OpenerOf written c → 1 ≤ c.una → c.una < ack → ack ≤ c.max → Sends written c.closing (new_ack now ack c)
unfolding new_ack
new_ack-sends written now ack c o una more known =
    let p = settled-sends written now ack c o una more known in
    sends-then written c.closing (settled now ack c) (goes_on now ack (ack - c.una)) p
    (goes_on-stays written now ack (ack - c.una) (settled now ack c).now p.next)

dup_ack-stays : (written : List ℕ) (now ack : ℕ) (c : Connection) → OpenerOf written c → Stays written c (dup_ack now ack c)
dup_ack-stays written now ack c o =
    let s = controlled now (DupAck ack (in_flight c) c.max) c in
    let p = controlled-stays written now (DupAck ack (in_flight c) c.max) c o in
    stays-then written c s (pumped now) p (pumped-stays written now s.now p.next)

is-below : (a b : ℕ) → nat_lt a b ≡ true → a < b
is-below a b h = grind (arith, nat_tests)

counted-sends : (written : List ℕ) (now : ℕ) (s : Heard) (bytes : List ℕ) (c : Connection) → OpenerOf written c → 1 ≤ c.una → s.ack ≤ c.max → Sends written c.closing (counted_ack now s bytes c)
unfolding counted_ack
counted-sends written now s bytes c o una known =
    sends-if written c.closing (nat_lt c.una s.ack) (new_ack now s.ack c) (cond (is_duplicate s bytes c) (dup_ack now s.ack c) (silently c))
    (λ e. new_ack-sends written now s.ack c o una (is-below c.una s.ack e) known)
    (λ _.
    sends-of written c (cond (is_duplicate s bytes c) (dup_ack now s.ack c) (silently c))
    (stays-if written c (is_duplicate s bytes c) (dup_ack now s.ack c) (silently c)
    (λ _. dup_ack-stays written now s.ack c o)
    (λ _. stays-silent written c o)))

not-above : (a : Bool) (max ack : ℕ) → (a || nat_lt max ack) ≡ false → ack ≤ max
not-above true max ack e = no (sym e)
not-above false max ack e = grind (arith, nat_tests)

acks-sends : (written : List ℕ) (now : ℕ) (s : Heard) (bytes : List ℕ) (c : Connection) → OpenerOf written c → 1 ≤ c.una → Sends written c.closing (acks now s bytes c)
unfolding acks
acks-sends written now s bytes c o una =
    let t = counted_ack now s bytes c in
    sends-if written c.closing (nat_lt s.ack c.una || nat_lt c.max s.ack) (silently c) (and_then t (took_window s.window))
    (λ _. sends-of written c (silently c) (stays-silent written c o))
    (λ e.
    let p = counted-sends written now s bytes c o una (not-above (nat_lt s.ack c.una) c.max s.ack e) in
    sends-then written c.closing t (took_window s.window) p (record { next = p.next; una = refl; closing = refl; all = tt }))

-- data and FIN

ended-stays : (written : List ℕ) (c : Connection) → OpenerOf written c → c.phase ≡ FinWait2 → Stays written c (ended c)
ended-stays written c o phase =
    let d = record c { phase = TimeWait; sink = past_fin c.sink } in
    let stands : InPhase FinWait2 (length written) c.una c.max = in-phase c.phase FinWait2 (length written) c.una c.max phase o.stands in
    stays-from written c d (acknowledged d) refl refl
    (acknowledged-stays written d
    (record {
      side = o.side;
      mss_some = o.mss_some;
      smss_some = o.smss_some;
      few = o.few;
      holds = o.holds;
      una_nxt = o.una_nxt;
      nxt_max = o.nxt_max;
      top = o.top;
      fin = o.fin;
      stands = stands;
    }))

fin_taken-stays : (written : List ℕ) (s : Heard) (p : Phase) (c : Connection) → OpenerOf written c → c.phase ≡ p → Stays written c (fin_taken s p c)
fin_taken-stays written s FinWait2 c o e =
    stays-if written c (s.seq == c.sink.rcv) (ended c) (silently c) (λ _. ended-stays written c o e) (λ _. stays-silent written c o)
fin_taken-stays written s TimeWait c o e = acknowledged-stays written c o
fin_taken-stays written s other c o e = stays-silent written c o

where-true : (written : List ℕ) (c : Connection) (b : Bool) (x y : Stepped) → b ≡ true → Stays written c x → Stays written c (cond b x y)
where-true written c b x y e p = subst (λ v. Stays written c (cond v x y)) (sym e) p

takes-stays : (written : List ℕ) (now : ℕ) (s : Heard) (bytes : List ℕ) (c : Connection) → OpenerOf written c → Stays written c (takes now s bytes c)
unfolding takes
takes-stays written now s bytes c o =
    where-true written c c.opener (opener_takes s c) (cond (has_content s bytes) (sink_takes now s bytes c.phase c) (silently c)) o.side
    (stays-if written c s.fin (fin_taken s c.phase c) (silently c)
    (λ _. fin_taken-stays written s c.phase c o refl)
    (λ _. stays-silent written c o))

-- a segment comes

answers-stays : (written : List ℕ) (now : ℕ) (p : Phase) (c : Connection) → OpenerOf written c → c.phase ≡ p → Stays written c (answers_syn now p c)
answers-stays written now SynReceived c o e = absurd (in-phase c.phase SynReceived (length written) c.una c.max e o.stands)
answers-stays written now other c o e = acknowledged-stays written c o

hears_reset-stays : (written : List ℕ) (s : Heard) (c : Connection) → OpenerOf written c → Stays written c (hears_reset s c)
hears_reset-stays written s c o =
    stays-if written c (s.seq == c.sink.rcv) (reset c) (dropped c) (λ _. reset-stays written c o) (λ _. dropped-stays written c o)

later-sends : (written : List ℕ) (now : ℕ) (s : Heard) (bytes : List ℕ) (c : Connection) → OpenerOf written c → 1 ≤ c.una → Sends written c.closing (in_later_states now s bytes c)
later-sends written now s bytes c o una =
    let a = acks now s bytes c in
    let taken = and_then a (takes now s bytes) in
    let rest = cond s.has_ack taken (dropped c) in
    sends-if written c.closing s.rst (hears_reset s c) (cond s.syn (answers_syn now c.phase c) rest)
    (λ _. sends-of written c (hears_reset s c) (hears_reset-stays written s c o))
    (λ _.
    sends-if written c.closing s.syn (answers_syn now c.phase c) rest
    (λ _. sends-of written c (answers_syn now c.phase c) (answers-stays written now c.phase c o refl))
    (λ _.
    sends-if written c.closing s.has_ack taken (dropped c)
    (λ _.
    let p = acks-sends written now s bytes c o una in
    sends-then written c.closing a (takes now s bytes) p (takes-stays written now s bytes a.now p.next))
    (λ _. sends-of written c (dropped c) (dropped-stays written c o))))

some-size : (o : Option ℕ) → 0 < named_size o
some-size None = omega arith
some-size (Some mss) = omega arith

established-opener : (written : List ℕ) (s : Heard) (c : Connection) → OpenerOf written c → c.phase ≡ SynSent → OpenerOf written (established c s)
established-opener written s c o phase =
    let at : InPhase SynSent (length written) c.una c.max = in-phase c.phase SynSent (length written) c.una c.max phase o.stands in
    let una : c.una ≡ 0 = at.0 in
    let top : c.max ≡ 1 = at.1 in
    let named : 0 < named_size s.mss = some-size s.mss in
    let mss : 0 < c.mss = o.mss_some in
    let nxt : c.nxt ≤ c.max = o.nxt_max in
    record {
      side = o.side;
      mss_some = o.mss_some;
      smss_some = omega arith;
      few = o.few;
      holds = o.holds ∙ ap (λ n. drop (n - 1) written) una;
      una_nxt = omega arith;
      nxt_max = omega arith;
      top = o.top;
      fin = o.fin;
      stands = (omega arith, omega arith);
    }

syn_sent-sends : (written : List ℕ) (now : ℕ) (s : Heard) (c : Connection) → OpenerOf written c → c.phase ≡ SynSent → Sends written c.closing (in_syn_sent now s c)
syn_sent-sends written now s c o phase =
    let d = established c s in
    let a = and_then (acknowledged d) (pumped now) in
    let next : OpenerOf written d = established-opener written s c o phase in
    let p = stays-then written d (acknowledged d) (pumped now) (acknowledged-stays written d next) (pumped-stays written now d next) in
    sends-if written c.closing (s.rst && s.ack == 1) (reset c) (cond (s.syn && (s.has_ack && (s.seq == 0 && s.ack == 1))) (and_then a (with_effect Connected)) (dropped c))
    (λ _. sends-of written c (reset c) (reset-stays written c o))
    (λ _.
    sends-if written c.closing (s.syn && (s.has_ack && (s.seq == 0 && s.ack == 1))) (and_then a (with_effect Connected)) (dropped c)
    (λ _.
    sends-then written c.closing a (with_effect Connected) (sends-of written d a p) (record { next = p.next; una = refl; closing = refl; all = tt }))
    (λ _. sends-of written c (dropped c) (dropped-stays written c o)))

in-sends : (written : List ℕ) (p : Phase) (now : ℕ) (s : Heard) (bytes : List ℕ) (c : Connection) → OpenerOf written c → c.phase ≡ p → Sends written c.closing (hears_in p now s bytes c)
in-sends written SynSent now s bytes c o e = syn_sent-sends written now s c o e
in-sends written Closed now s bytes c o e = sends-of written c (silently c) (stays-silent written c o)
in-sends written SynReceived now s bytes c o e = absurd (in-phase c.phase SynReceived (length written) c.una c.max e o.stands)
in-sends written LastAck now s bytes c o e = absurd (in-phase c.phase LastAck (length written) c.una c.max e o.stands)
in-sends written Established now s bytes c o e =
    later-sends written now s bytes c o (in-phase c.phase Established (length written) c.una c.max e o.stands).0
in-sends written FinWait1 now s bytes c o e =
    later-sends written now s bytes c o (in-phase c.phase FinWait1 (length written) c.una c.max e o.stands).0
in-sends written FinWait2 now s bytes c o e =
    later-sends written now s bytes c o (in-phase c.phase FinWait2 (length written) c.una c.max e o.stands)
in-sends written TimeWait now s bytes c o e =
    later-sends written now s bytes c o (in-phase c.phase TimeWait (length written) c.una c.max e o.stands)

pub hears-sends : (written : List ℕ) (now : ℕ) (s : Heard) (bytes : List ℕ) (c : Connection) → OpenerOf written c → Sends written c.closing (hears now s bytes c)
unfolding hears
hears-sends written now s bytes c o = in-sends written c.phase now s bytes c o refl

-- the timer fires

timed_out-opener : (written : List ℕ) (c : Connection) → OpenerOf written c → OpenerOf written (timed_out c)
timed_out-opener written c o =
    let una : c.una ≤ c.nxt = o.una_nxt in
    let nxt : c.nxt ≤ c.max = o.nxt_max in
    record {
      side = o.side;
      mss_some = o.mss_some;
      smss_some = subst (λ n. 0 < n) (sym (step-size c.reno (Timeout c.una (in_flight c) c.max))) o.smss_some;
      few = o.few;
      holds = o.holds;
      una_nxt = omega arith;
      nxt_max = omega arith;
      top = o.top;
      fin = o.fin;
      stands = o.stands;
    }

again-stays : (written : List ℕ) (now : ℕ) (p : Phase) (c : Connection) → OpenerOf written c → c.phase ≡ p → c.nxt ≡ c.una → Stays written c (sent_again now p c)
again-stays written now SynSent c o e back = syn-stays written now c o e back
again-stays written now SynReceived c o e back = absurd (in-phase c.phase SynReceived (length written) c.una c.max e o.stands)
again-stays written now LastAck c o e back = absurd (in-phase c.phase LastAck (length written) c.una c.max e o.stands)
again-stays written now other c o e back = pumped-stays written now c o

pub times_out-sends : (written : List ℕ) (now : ℕ) (c : Connection) → OpenerOf written c → Sends written c.closing (times_out now c)
unfolding times_out
times_out-sends written now c o =
    let d = timed_out c in
    let s = sent_again now c.phase d in
    let t = and_then s (timer_restarted now) in
    let next : OpenerOf written d = timed_out-opener written c o in
    let p = again-stays written now c.phase d next refl refl in
    sends-of written c (cond (not c.timer) (silently c) (cond (nat_le 12 c.tries) (reset c) t))
    (stays-if written c (not c.timer) (silently c) (cond (nat_le 12 c.tries) (reset c) t)
    (λ _. stays-silent written c o)
    (λ _.
    stays-if written c (nat_le 12 c.tries) (reset c) t
    (λ _. reset-stays written c o)
    (λ _. stays-from written c d t refl refl (stays-then written d s (timer_restarted now) p (restarted-stays written now s.now p.next)))))
