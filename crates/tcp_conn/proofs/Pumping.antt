-- Sending data while the windows let it go: each segment is the first of the rest.
use Rattle.std.proofs.Common.{◌≡◌, ℕ, zero, suc, ◌+◌, ◌-◌, ◌<◌, ◌≤◌, min, Bool, true, false, cond, ◌&&◌, nat_lt, nat_le, ◌++◌, refl, sym, ap, ◌∙◌, arith}
use Rattle.std.proofs.lemmas.Bool.Decides.{nat_tests}
use Rattle.tcp_conn.specs.declared.connection.Connection.{Connection}
use Rattle.tcp_conn.specs.Send.{silently, and_then, sent, next_size, may_send, in_flight, written_end, data_sent}

-- what is written and was not sent
abbrev pub left : Connection → ℕ
left c = written_end c - c.nxt

abbrev pub one_sent : ℕ → Connection → Connection
one_sent now c = (sent now false false (next_size c) c).now

some : (a : ℕ) (b : Bool) → (nat_lt 0 a && b) ≡ true → 0 < a
some a true h = grind (arith, nat_tests)
some a false h = grind (arith, nat_tests)

pub sends_some : (c : Connection) → may_send c ≡ true → 0 < next_size c
sends_some c h = some (next_size c) (nat_le (in_flight c + next_size c) (min c.reno.cwnd c.peer_window)) h

none_left : (a : ℕ) (b : Bool) → a ≡ 0 → (nat_lt 0 a && b) ≡ false
none_left a b e = ap (λ n. nat_lt 0 n && b) e

stops : (c : Connection) → left c ≡ 0 → may_send c ≡ false
stops c h =
    let nothing : next_size c ≡ 0 = omega arith in
    none_left (next_size c) (nat_le (in_flight c + next_size c) (min c.reno.cwnd c.peer_window)) nothing

pub left-sent : (now : ℕ) (c : Connection) → may_send c ≡ true → left (one_sent now c) < left c
left-sent now c h = let n : 0 < next_size c = sends_some c h in omega arith

-- after a segment
pub data_sent-more : (now k : ℕ) (c : Connection) → may_send c ≡ true →
    data_sent now (suc k) c ≡ and_then (sent now false false (next_size c) c) (data_sent now k)
unfolding data_sent
data_sent-more now k c h = ap (λ b. cond b (and_then (sent now false false (next_size c) c) (data_sent now k)) (silently c)) h

pub data_sent-stop : (now k : ℕ) (c : Connection) → may_send c ≡ false → data_sent now k c ≡ silently c
unfolding data_sent
data_sent-stop now zero c h = refl
data_sent-stop now (suc k) c h = ap (λ b. cond b (and_then (sent now false false (next_size c) c) (data_sent now k)) (silently c)) h

one_more : (now k : ℕ) (c : Connection) → left c ≤ k → data_sent now (suc k) c ≡ data_sent now k c
one_more now zero c h =
    let quiet : may_send c ≡ false = stops c (omega arith) in
    data_sent-stop now (suc zero) c quiet ∙ sym (data_sent-stop now zero c quiet)
one_more now (suc k) c h =
    elim (may_send c) as (λ b. may_send c ≡ b → data_sent now (suc (suc k)) c ≡ data_sent now (suc k) c) [
      | true ↦ λ e.
          let fewer : left (one_sent now c) < left c = left-sent now c e in
          data_sent-more now (suc k) c e
          ∙ ap (λ t. record { now = t.now; effects = (sent now false false (next_size c) c).effects ++ t.effects }) (one_more now k (one_sent now c) (omega arith))
          ∙ sym (data_sent-more now k c e)
      | false ↦ λ e. data_sent-stop now (suc (suc k)) c e ∙ sym (data_sent-stop now (suc k) c e)
    ] refl

more_by : (now d k : ℕ) (c : Connection) → left c ≤ k → data_sent now (d + k) c ≡ data_sent now k c
more_by now zero k c h = let e : zero + k ≡ k = omega arith in ap (λ n. data_sent now n c) e
more_by now (suc d) k c h =
    let e : suc d + k ≡ suc (d + k) = omega arith in
    ap (λ n. data_sent now n c) e ∙ one_more now (d + k) c (omega arith) ∙ more_by now d k c h

-- more steps than there are bytes send no more
pub enough : (now k : ℕ) (c : Connection) → left c ≤ k → data_sent now k c ≡ data_sent now (left c) c
enough now k c h =
    let e : k ≡ (k - left c) + left c = omega arith in
    ap (λ n. data_sent now n c) e ∙ more_by now (k - left c) (left c) c (omega arith)

-- all that is left is sent by one segment and then all that is left
pub data_sent-step : (now : ℕ) (c : Connection) → may_send c ≡ true →
    data_sent now (left c) c ≡ and_then (sent now false false (next_size c) c) (λ d. data_sent now (left d) d)
data_sent-step now c h =
    let fewer : left (one_sent now c) < left c = left-sent now c h in
    let e : left c ≡ suc (left c - 1) = omega arith in
    ap (λ n. data_sent now n c) e ∙ data_sent-more now (left c - 1) c h
    ∙ ap (λ t. record { now = t.now; effects = (sent now false false (next_size c) c).effects ++ t.effects }) (enough now (left c - 1) (one_sent now c) (omega arith))
