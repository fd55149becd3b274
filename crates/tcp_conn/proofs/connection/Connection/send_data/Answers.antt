use Rattle.std.proofs.Common.{◌≡◌, ◌<◌, ◌≤◌, ◌+◌, ◌^◌, ◌++◌, true, false, sym, ap, ◌∙◌, subst, arith, append_assoc}
use Rattle.std.proofs.lemmas.List.{append-nil}
use Rattle.tcp_conn.specs.Send.{data_sent, may_send, next_size, sent}
use Rattle.tcp_conn.proofs.Pumping.{left, left-sent, sends_some, data_sent-step, data_sent-stop}
use Rattle.tcp_conn.proofs.connection.Connection.send_data.Goals as goal

pub segments-preserved : goal.segments-preserved
segments-preserved c =
    let now = c.args.now.0 in
    let old = c.segments.self in
    let goes : may_send old ≡ true = sym c.may_send.ensures ∙ c.segments-test.true in
    let size = ap (λ n. sent now false false n old) c.next_size-n.ensures.value in
    let is : c.send.new.self ≡ (sent now false false (next_size old) old).now = c.in_ok-send.ensures.now ∙ ap (λ s. s.now) size in
    let emitted : c.send.new.out.items ≡ c.segments.out.items ++ (sent now false false (next_size old) old).effects =
    c.in_ok-send.ensures.effects ∙ ap (λ s. c.segments.out.items ++ s.effects) size in
    let step = data_sent-step now old goes in
    let rest = ap (λ d. data_sent now (left d) d) is in
    record {
      fits = c.in_ok-send.ensures.fits;
      phase = ap (λ d. d.phase) is ∙ c.segments.invariant.phase;
      now = ap (λ s. s.now) rest ∙ sym (ap (λ s. s.now) step) ∙ c.segments.invariant.now;
      effects =
          ap (λ o. o ++ (data_sent now (left c.send.new.self) c.send.new.self).effects) emitted
          ∙ append_assoc c.segments.out.items (sent now false false (next_size old) old).effects (data_sent now (left c.send.new.self) c.send.new.self).effects
          ∙ ap (λ s. c.segments.out.items ++ ((sent now false false (next_size old) old).effects ++ s.effects)) rest
          ∙ sym (ap (λ s. c.segments.out.items ++ s.effects) step)
          ∙ c.segments.invariant.effects;
    }

pub segments-smaller : goal.segments-smaller
segments-smaller c =
    let now = c.args.now.0 in
    let old = c.segments.self in
    let goes : may_send old ≡ true = sym c.may_send.ensures ∙ c.segments-test.true in
    let size = ap (λ n. sent now false false n old) c.next_size-n.ensures.value in
    let is : c.send.new.self ≡ (sent now false false (next_size old) old).now = c.in_ok-send.ensures.now ∙ ap (λ s. s.now) size in
    subst (λ d. left d < left old) (sym is) (left-sent now old goes)

pub send-requires-clause-end : goal.send-requires-clause-end
send-requires-clause-end c =
    let goes : may_send c.segments.self ≡ true = sym c.may_send.ensures ∙ c.segments-test.true in
    let some : 0 < next_size c.segments.self = sends_some c.segments.self goes in
    let size : c.next_size-n.result ≡ next_size c.segments.self = c.next_size-n.ensures.value in
    let inside : c.segments.self.nxt + c.next_size-n.result ≤ 2 ^ 33 = c.next_size-n.ensures.inside (omega arith) in
    omega arith

pub returns-clause-now : goal.returns-clause-now
returns-clause-now c =
    let quiet : may_send c.segments.self ≡ false = sym c.may_send.ensures ∙ c.segments-test.false in
    sym (ap (λ s. s.now) (data_sent-stop c.args.now.0 (left c.segments.self) c.segments.self quiet)) ∙ c.segments.invariant.now

pub returns-clause-effects : goal.returns-clause-effects
returns-clause-effects c =
    let quiet : may_send c.segments.self ≡ false = sym c.may_send.ensures ∙ c.segments-test.false in
    sym (append-nil c.segments.out.items)
    ∙ sym (ap (λ s. c.segments.out.items ++ s.effects) (data_sent-stop c.args.now.0 (left c.segments.self) c.segments.self quiet)) ∙ c.segments.invariant.effects
