use Rattle.std.proofs.Common.{◌≡◌, map, drop}
use Rattle.tcp_flow.specs.Seen.{plain_act}
use Rattle.tcp_flow.proofs.Carrying.{IsCarried}
use Rattle.tcp_flow.proofs.conn.Conn.carry_out.Given as goal

abbrev pub invariant-loop-effect : goal.invariant-loop-effect
invariant-loop-effect g l =
    record {
      carried :
          IsCarried l.initial.self l.initial.numbers (map (plain_act g.P.Pkt.plain) l.initial.out.items) l.effects
          l.self l.numbers (map (plain_act g.P.Pkt.plain) l.out.items) (drop l.effect-index l.effects);
      connection : l.self.connection ≡ l.initial.self.connection;
      pair : l.self.pair ≡ l.initial.self.pair;
    }
