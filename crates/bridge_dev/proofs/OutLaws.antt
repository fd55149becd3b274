-- Where a frame goes out.
use Rattle.std.proofs.Common.{◌≡◌, ℕ, ◌+◌, ◌≤◌, cond, List, [], ◌∷◌, Option, None, Some, refl, ap, ◌∙◌, subst, sym, arith}
use Rattle.std.proofs.lemmas.Bool.{cond_both, cond-false}
use Rattle.std.proofs.lemmas.List.Sums.{sum_by-cons}
use Rattle.std.specs.List.{AllByRecursion, count_by}
use Rattle.std.specs.Prelude.{◌==◌}
use Rattle.sim_base.specs.declared.time.Time.{Time}
use Rattle.sim_base.specs.Packet.{Packet}
use Rattle.bridge_dev.specs.declared.words.In.{In}
use Rattle.bridge_dev.specs.declared.words.In.TheVariants.{Frame}
use Rattle.bridge_dev.specs.declared.words.Act.{Act}
use Rattle.bridge_dev.specs.declared.words.Act.TheVariants.{Out, Ignored}
use Rattle.bridge_dev.specs.Law.{HasFrame, IsSentOn, is_out_at}
use Rattle.bridge_dev.specs.Step.{forwards, others, outs, source, step, way}
use Rattle.bridge_dev.specs.Table.{PlainBridge, learned}
use Rattle.bridge_dev.proofs.PortLaws.{counted, counted-cons, others_away, others_once}

outs-counted : (frame : Packet) (q : ℕ) (xs : List ℕ) → count_by (is_out_at q) (outs frame xs) ≡ counted q xs
outs-counted frame q [] = refl
outs-counted frame q (x ∷ xs) =
    sum_by-cons (λ (act : Act Packet). cond (is_out_at q act) 1 0) (Out x frame) (outs frame xs)
    ∙ ap (λ (n : ℕ). cond (x == q) 1 0 + n) (outs-counted frame q xs) ∙ sym (counted-cons q x xs)

outs-same : (frame : Packet) (xs : List ℕ) → AllByRecursion (HasFrame frame) (outs frame xs)
outs-same frame [] = tt
outs-same frame (x ∷ xs) = (refl, outs-same frame xs)

one_out : (n q : ℕ) → 0 + cond (n == q) 1 0 ≤ 1
one_out n q = cond_both (n == q) 1 0 (λ (k : ℕ). 0 + k ≤ 1) (λ _. omega arith) (λ _. omega arith)

sends_on : (o : Option ℕ) (port ports : ℕ) (now : Time) (frame : Packet) → IsSentOn (Frame now port frame) (forwards o port ports frame)
sends_on None port ports now frame = record {
  elsewhere = outs-counted frame port (others port ports) ∙ others_away port ports;
  once = λ q. subst (λ (n : ℕ). n ≤ 1) (sym (outs-counted frame q (others port ports))) (others_once port q ports);
  same = outs-same frame (others port ports);
}
sends_on (Some known) port ports now frame =
    cond_both (known == port) Ignored (Out known frame) (λ (act : Act Packet). IsSentOn (Frame now port frame) (act ∷ []))
    (λ _. record { elsewhere = refl; once = λ q. omega arith; same = (tt, tt) })
    (λ apart. record {
      elsewhere = omega (arith, cond-false {A = ℕ} (known == port) 1 0 apart);
      once = λ q. one_out known q;
      same = (refl, tt);
    })

pub step_sends_on : (b : PlainBridge) (input : In Packet) → IsSentOn input (step b input).acts
step_sends_on b (Frame now port frame) = sends_on (way now.0 frame (learned now.0 port (source frame) b)) port b.ports now frame
