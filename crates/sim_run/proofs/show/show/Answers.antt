use Rattle.std.proofs.Common.{◌≡◌}
use Rattle.sim_run.specs.Outcome.{Outcome}
use Rattle.sim_run.specs.Output.{HasGot, HasGotPrefix}
use Rattle.sim_run.specs.Plain.{IsAnswer}
use Rattle.sim_run.proofs.ShowLaws.{on_capture}
use Rattle.sim_run.proofs.show.show.Goals as goal

pub returns-clause-answer : goal.returns-clause-answer
returns-clause-answer g c =
    on_capture (g.S.Source.left c.args.source.now) _ _ (λ (o : Outcome). IsAnswer o.status c.show_bytes.result) c.in-Ok.ensures.read
    (rw c.as_slice.ensures.value at c.show_bytes.ensures.answer)

pub returns-clause-text : goal.returns-clause-text
returns-clause-text g c =
    on_capture (g.S.Source.left c.args.source.now) _ _
    (λ (o : Outcome). c.show_bytes.result ≡ o.status → HasGot (g.O.Sink.got c.args.out.now) (g.O.Sink.got c.show_bytes.new.out) o.text)
    c.in-Ok.ensures.read (rw c.as_slice.ensures.value at c.show_bytes.ensures.text)

pub returns-clause-text_prefix : goal.returns-clause-text_prefix
returns-clause-text_prefix g c =
    on_capture (g.S.Source.left c.args.source.now) _ _
    (λ (o : Outcome). HasGotPrefix (g.O.Sink.got c.args.out.now) (g.O.Sink.got c.show_bytes.new.out) o.text) c.in-Ok.ensures.read
    (rw c.as_slice.ensures.value at c.show_bytes.ensures.text_prefix)
