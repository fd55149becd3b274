use Rattle.std.proofs.Common.{◌≡◌, ◌++◌, false, ap, ◌∙◌, map}
use Rattle.tcp_stream.specs.History.{receive}
use Rattle.tcp_conn.specs.Step.{effect_of}
use Rattle.tcp_conn.proofs.connection.Connection.receive.Goals as goal

pub returns-clause-now : goal.returns-clause-now
returns-clause-now c =
    let e : c.from-seq.result ≡ c.args.heard.now.seq = (cc) in
    ap (λ p. record c.args.self.now { sink = p.0 }) c.in_ok-received.ensures.received
    ∙ ap (λ q. record c.args.self.now { sink = (receive c.args.self.now.sink (record { seq = q; syn = false; fin = c.args.heard.now.fin; bytes = c.args.bytes.now })).0 }) e

pub returns-clause-effects : goal.returns-clause-effects
returns-clause-effects c =
    let e : c.from-seq.result ≡ c.args.heard.now.seq = (cc) in
    c.in_ok-tell.ensures
    ∙ ap (λ p. c.args.out.now.items ++ map effect_of p.1) c.in_ok-received.ensures.received
    ∙ ap (λ q. c.args.out.now.items ++ map effect_of (receive c.args.self.now.sink (record { seq = q; syn = false; fin = c.args.heard.now.fin; bytes = c.args.bytes.now })).1) e
