-- What holds of the congestion window and of the threshold over many inputs.
use Rattle.std.proofs.Common.{◌≡◌, ℕ, suc, ◌+◌, ◌*◌, ◌^◌, ◌≤◌, Bool, true, false, cond, ◌&&◌, ◌==◌, nat_lt, nat_le, List, [], ◌∷◌, All, refl, sym, ap, ◌∙◌, subst, arith}
use Rattle.std.proofs.lemmas.Bool.Decides.{nat_tests}
use Rattle.tcp_reno.specs.declared.RenoIn.{RenoIn}
use Rattle.tcp_reno.specs.declared.RenoIn.TheVariants.{NewAck, DupAck, Timeout}
use Rattle.tcp_reno.specs.NewReno.{NewReno, start, initial_window}
use Rattle.tcp_reno.specs.Step.{Answer, silently, resending, counted, lost, recovered, deflated, grown, rule, step, run, IsAckUpTo}

-- a choice between answers that agree in a part has this part
chosen : {A : Type 0} (part : Answer → A) (b : Bool) (x y : Answer) (a : A) → part x ≡ a → part y ≡ a → part (cond b x y) ≡ a
chosen part true x y a p q = p
chosen part false x y a p q = q

rule-smss : (r : NewReno) (input : RenoIn) → (rule r input).state.smss ≡ r.smss
rule-smss r (NewAck ack acked flight) =
    chosen (λ a. a.state.smss) r.recovering (cond (nat_le r.recover ack) (silently (recovered r flight)) (resending (deflated r acked))) (silently (grown r acked)) r.smss
    (chosen (λ a. a.state.smss) (nat_le r.recover ack) (silently (recovered r flight)) (resending (deflated r acked)) r.smss refl refl) refl
rule-smss r (DupAck ack flight highest) =
    let third = counted r.dup == 3 && nat_lt r.recover ack in
    chosen (λ a. a.state.smss) r.recovering (silently (record r { cwnd = r.cwnd + r.smss })) (cond third (resending (lost r flight highest)) (silently (record r { dup = counted r.dup }))) r.smss refl
    (chosen (λ a. a.state.smss) third (resending (lost r flight highest)) (silently (record r { dup = counted r.dup })) r.smss refl refl)
rule-smss r (Timeout una flight highest) = refl

pub record IsInBounds (smss : ℕ) (r : NewReno) : Type 0 where
  pub same : r.smss ≡ smss
  pub low : smss ≤ r.cwnd
  pub high : r.cwnd ≤ 2 ^ 30

in_bounds-step : (smss : ℕ) (r : NewReno) (input : RenoIn) → smss ≤ 2 ^ 30 → r.smss ≡ smss → IsInBounds smss (step r input).state
in_bounds-step smss r input small same =
    let kept : (rule r input).state.smss ≡ smss = rule-smss r input ∙ same in
    record { same = kept; low = omega arith; high = omega arith }

pub in_bounds-run : (smss : ℕ) (r : NewReno) (inputs : List RenoIn) → smss ≤ 2 ^ 30 → IsInBounds smss r → IsInBounds smss (run r inputs)
in_bounds-run smss r [] small now = now
in_bounds-run smss r (input ∷ inputs) small now =
    in_bounds-run smss (step r input).state inputs small (in_bounds-step smss r input small now.same)

initial-low : (smss : ℕ) (repeated : Bool) → smss ≤ initial_window smss repeated
initial-low smss true = omega arith
initial-low smss false = grind (arith, nat_tests)

initial-high : (smss : ℕ) (repeated : Bool) → smss ≤ 9000 → initial_window smss repeated ≤ 4 * 9000
initial-high smss true small = omega arith
initial-high smss false small = grind (arith, nat_tests)

pub in_bounds-start : (smss : ℕ) (repeated : Bool) → smss ≤ 9000 → IsInBounds smss (start smss repeated)
in_bounds-start smss repeated small = record {
  same = refl;
  low = initial-low smss repeated;
  high = let h = initial-high smss repeated small in omega arith;
}

-- an acknowledgement up to recover leaves the threshold and recover
record HasThreshold (threshold recover : ℕ) (r : NewReno) : Type 0 where
  pub threshold_is : r.ssthresh ≡ threshold
  pub recover_is : r.recover ≡ recover

not_above : (ack recover : ℕ) (b : Bool) → ack ≤ recover → (b && nat_lt recover ack) ≡ false
not_above ack recover true h = grind (arith, nat_tests)
not_above ack recover false h = refl

unless : {A : Type 0} (b : Bool) (x y : A) → b ≡ false → cond b x y ≡ y
unless b x y e = ap (λ b. cond b x y) e

threshold-step : (r : NewReno) (input : RenoIn) → IsAckUpTo r.recover input → HasThreshold r.ssthresh r.recover (step r input).state
threshold-step r (NewAck ack acked flight) h = record {
  threshold_is =
      chosen (λ a. a.state.ssthresh) r.recovering (cond (nat_le r.recover ack) (silently (recovered r flight)) (resending (deflated r acked))) (silently (grown r acked)) r.ssthresh
      (chosen (λ a. a.state.ssthresh) (nat_le r.recover ack) (silently (recovered r flight)) (resending (deflated r acked)) r.ssthresh refl refl) refl;
  recover_is =
      chosen (λ a. a.state.recover) r.recovering (cond (nat_le r.recover ack) (silently (recovered r flight)) (resending (deflated r acked))) (silently (grown r acked)) r.recover
      (chosen (λ a. a.state.recover) (nat_le r.recover ack) (silently (recovered r flight)) (resending (deflated r acked)) r.recover refl refl) refl;
}
threshold-step r (DupAck ack flight highest) h =
    let third = counted r.dup == 3 && nat_lt r.recover ack in
    let none : third ≡ false = not_above ack r.recover (counted r.dup == 3) h in
    let quiet : cond third (resending (lost r flight highest)) (silently (record r { dup = counted r.dup })) ≡ silently (record r { dup = counted r.dup }) =
    unless third (resending (lost r flight highest)) (silently (record r { dup = counted r.dup })) none in
    record {
      threshold_is =
          chosen (λ a. a.state.ssthresh) r.recovering (silently (record r { cwnd = r.cwnd + r.smss })) (cond third (resending (lost r flight highest)) (silently (record r { dup = counted r.dup }))) r.ssthresh refl
          (ap (λ a. a.state.ssthresh) quiet);
      recover_is =
          chosen (λ a. a.state.recover) r.recovering (silently (record r { cwnd = r.cwnd + r.smss })) (cond third (resending (lost r flight highest)) (silently (record r { dup = counted r.dup }))) r.recover refl
          (ap (λ a. a.state.recover) quiet);
    }
threshold-step r (Timeout una flight highest) h = absurd h

pub threshold-run : (r : NewReno) (inputs : List RenoIn) → All (IsAckUpTo r.recover) inputs → (run r inputs).ssthresh ≡ r.ssthresh
threshold-run r [] h = refl
threshold-run r (input ∷ inputs) h =
    let kept = threshold-step r input (h 0 input (omega arith)) in
    threshold-run (step r input).state inputs
    (subst (λ recover. All (IsAckUpTo recover) inputs) (sym kept.recover_is) (λ k d below. h (suc k) d (omega arith))) ∙ kept.threshold_is
