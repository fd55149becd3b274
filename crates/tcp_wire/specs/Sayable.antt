-- What a segment can say: each number fits its place in the header.
use Rattle.std.specs.Prelude.{ℕ, ◌^◌, ◌<◌, ◌≤◌, IfSome, List, All, length}
use Rattle.tcp_conn.specs.declared.words.Heard.{Heard}
use Rattle.tcp_wire.specs.declared.words.SocketPair.{SocketPair}

pub record IsSayable (pair : SocketPair) (s : Heard) (bytes : List ℕ) : Type 0 where
  pub port : pair.port < 2 ^ 16
  pub other_port : pair.other_port < 2 ^ 16
  pub seq : s.seq < 2 ^ 32
  pub ack : s.ack < 2 ^ 32
  pub window : s.window < 2 ^ 16
  pub mss : IfSome s.mss (λ mss. mss < 2 ^ 16)
  pub small : All (λ b. b < 256) bytes
  pub few : length bytes ≤ 9000
