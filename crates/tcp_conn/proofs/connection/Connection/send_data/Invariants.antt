use Rattle.std.proofs.Common.{◌≡◌, ◌++◌}
use Rattle.tcp_conn.specs.Fits.{Fits}
use Rattle.tcp_conn.specs.Send.{data_sent}
use Rattle.tcp_conn.proofs.Pumping.{left}
use Rattle.tcp_conn.proofs.connection.Connection.send_data.Given as goal

abbrev pub invariant-segments : goal.invariant-segments
invariant-segments l =
    record {
      fits : Fits l.self;
      phase : l.self.phase ≡ l.initial.self.phase;
      now : (data_sent l.now.0 (left l.self) l.self).now ≡ (data_sent l.now.0 (left l.initial.self) l.initial.self).now;
      effects : l.out.items ++ (data_sent l.now.0 (left l.self) l.self).effects ≡ l.initial.out.items ++ (data_sent l.now.0 (left l.initial.self) l.initial.self).effects;
    }

abbrev pub decreases-segments : goal.decreases-segments
decreases-segments l = left l.self
