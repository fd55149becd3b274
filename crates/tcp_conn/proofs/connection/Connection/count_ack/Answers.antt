use Rattle.std.proofs.Common.{◌≡◌, ◌<◌, ◌++◌, sym, ap, ◌∙◌, arith}
use Rattle.tcp_conn.specs.Step.{new_ack}
use Rattle.tcp_conn.proofs.Acknowledging.{counted_ack-more}
use Rattle.tcp_conn.proofs.connection.Connection.count_ack.Goals as goal

pub returns-then-ack-self-clause-now : goal.returns-then-ack-self-clause-now
returns-then-ack-self-clause-now c =
    let e : c.from-ack.result ≡ c.args.heard.now.ack = (cc) in
    let more : c.args.self.now.una < c.args.heard.now.ack = omega arith in
    c.in_ok-new_ack.ensures.now ∙ ap (λ a. (new_ack c.args.now.0 a c.args.self.now).now) e
    ∙ sym (ap (λ s. s.now) (counted_ack-more c.args.now.0 c.args.heard.now c.args.bytes.now c.args.self.now more))

pub returns-then-ack-self-clause-effects : goal.returns-then-ack-self-clause-effects
returns-then-ack-self-clause-effects c =
    let e : c.from-ack.result ≡ c.args.heard.now.ack = (cc) in
    let more : c.args.self.now.una < c.args.heard.now.ack = omega arith in
    c.in_ok-new_ack.ensures.effects ∙ ap (λ a. c.args.out.now.items ++ (new_ack c.args.now.0 a c.args.self.now).effects) e
    ∙ sym (ap (λ s. c.args.out.now.items ++ s.effects) (counted_ack-more c.args.now.0 c.args.heard.now c.args.bytes.now c.args.self.now more))
