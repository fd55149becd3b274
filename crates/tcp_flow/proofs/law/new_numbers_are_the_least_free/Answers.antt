use Rattle.std.proofs.Common.{is_some, ap, arith}
use Rattle.std.specs.Map.{keys_of}
use Rattle.tcp_flow.specs.declared.conn.Conn.{Conn}
use Rattle.tcp_flow.specs.Table.{under}
use Rattle.tcp_flow.proofs.Adding.{any_low}
use Rattle.tcp_flow.proofs.Lookups.{by_option, least_none, least_le}
use Rattle.tcp_flow.proofs.law.new_numbers_are_the_least_free.Goals as goal

pub returns-clause-free : goal.returns-clause-free
returns-clause-free c conns order = least_none 0 conns order (any_low (keys_of conns))

pub returns-clause-least : goal.returns-clause-least
returns-clause-least c conns number low =
    by_option (under number conns)
    (λ none. absurd (let le = least_le 0 number conns none (omega arith) in omega arith))
    (λ k is. ap (is_some {T = Conn}) is)
