use Rattle.tcp_reno.proofs.WindowLaws.{threshold-run}
use Rattle.tcp_reno.proofs.one_loss_a_window.Goals as goal

pub returns : goal.returns
returns c r inputs h = threshold-run r inputs h
