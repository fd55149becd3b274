use Rattle.std.proofs.Common.{ℕ, ◌-◌, ◌≤◌, replicate, ap, ◌∙◌, arith}
use Rattle.std.proofs.lemmas.List.{take-replicate}
use Rattle.iface_step.proofs.Attached.{padded-is}
use Rattle.iface_step.proofs.frames.pad.Goals as goal

pub returns-in_ok-push_back-clause-value : goal.returns-in_ok-push_back-clause-value
returns-in_ok-push_back-clause-value g c =
    let within : 46 - c.len-size.result ≤ 46 = omega arith in
    padded-is (g.P.Pkt.plain c.args.packet.now) _ _ (omega (arith, c.len-size.ensures.value))
    (take-replicate {X = ℕ} (46 - c.len-size.result) 46 0 within ∙ ap (λ (n : ℕ). replicate (46 - n) 0) c.len-size.ensures.value)
    c.in_ok-push_back.ensures.ok
