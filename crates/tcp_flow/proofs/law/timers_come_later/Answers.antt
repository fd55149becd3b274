use Rattle.tcp_flow.proofs.LaterTimers.{step-lasts}
use Rattle.tcp_flow.proofs.law.timers_come_later.Goals as goal

pub returns-clause-later : goal.returns-clause-later
returns-clause-later c t n input h = let p = step-lasts t n input h in p.later

pub returns-clause-waits : goal.returns-clause-waits
returns-clause-waits c t n input h = let p = step-lasts t n input h in p.waits
