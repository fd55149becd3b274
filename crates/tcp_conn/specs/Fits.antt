-- The positions of a connection stay in order, and small.
use Rattle.std.specs.Prelude.{ℕ, ◌+◌, ◌^◌, ◌<◌, ◌≤◌}
use Rattle.tcp_conn.specs.declared.connection.Phase.{Phase}
use Rattle.tcp_conn.specs.declared.connection.Phase.TheVariants.{FinWait2, TimeWait, LastAck, Closed}
use Rattle.tcp_conn.specs.declared.connection.Connection.{Connection}

-- how many positions behind the stream's are reached in a state
abbrev pub past : Phase → ℕ
past FinWait2 = 1
past TimeWait = 1
past LastAck = 1
past Closed = 1
past other = 0

pub record Fits (c : Connection) : Type 0 where
  pub una : c.una < 2 ^ 32
  pub order : c.una ≤ c.nxt
  pub nxt : c.nxt ≤ c.max
  pub begun : 1 ≤ c.max
  pub max : c.max ≤ 2 ^ 33 + past c.phase
  pub least_mss : 64 ≤ c.mss
  pub greatest_mss : c.mss ≤ 9000
