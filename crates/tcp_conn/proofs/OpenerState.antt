-- What holds of an opener whose writes have taken a list of bytes, and of the segments that it sends.
use Rattle.std.proofs.Common.{◌≡◌, ℕ, ◌+◌, ◌-◌, ◌^◌, ◌<◌, ◌≤◌, Bool, true, List, [], ◌∷◌, length, drop}
use Rattle.tcp_conn.specs.declared.words.Outgoing.{Outgoing}
use Rattle.tcp_conn.specs.declared.words.Effect.{Effect}
use Rattle.tcp_conn.specs.declared.words.Effect.TheVariants.{Emit}
use Rattle.tcp_conn.specs.declared.connection.Phase.{Phase}
use Rattle.tcp_conn.specs.declared.connection.Phase.TheVariants.{SynSent, SynReceived, Established, FinWait1, FinWait2, TimeWait, LastAck, Closed}
use Rattle.tcp_conn.specs.declared.connection.Connection.{Connection}
use Rattle.tcp_conn.specs.Send.{Stepped}

-- where the positions lie in each state, when so many bytes were written; the FIN is one past them
abbrev pub InPhase : Phase → ℕ → ℕ → ℕ → Type 0
InPhase SynSent total una max = (una ≡ 0) × (max ≡ 1)
InPhase Established total una max = (1 ≤ una) × (max ≤ total + 1)
InPhase FinWait1 total una max = (1 ≤ una) × (una < max) × (max ≡ total + 2)
InPhase FinWait2 total una max = 1 ≤ una
InPhase TimeWait total una max = 1 ≤ una
InPhase Closed total una max = Unit {0}
InPhase SynReceived total una max = ⊥
InPhase LastAck total una max = ⊥

pub record State (written : List ℕ) (phase : Phase) (opener : Bool) (mss smss una nxt max : ℕ) (buffer : List ℕ) (closing : Bool) : Type 0 where
  pub side : opener ≡ true
  pub mss_some : 0 < mss
  pub smss_some : 0 < smss
  pub few : length written ≤ 2 ^ 30
  pub holds : buffer ≡ drop (una - 1) written
  pub una_nxt : una ≤ nxt
  pub nxt_max : nxt ≤ max
  pub top : max ≤ length written + 2
  pub fin : length written + 1 < max → closing ≡ true
  pub stands : InPhase phase (length written) una max

abbrev pub OpenerOf : List ℕ → Connection → Type 0
OpenerOf written c = State written c.phase c.opener c.mss c.reno.smss c.una c.nxt c.max c.buffer c.closing

-- a segment that may be sent when so much is acknowledged
pub record Carries (written : List ℕ) (closed : Bool) (una : ℕ) (o : Outgoing) : Type 0 where
  pub syn : o.syn ≡ true → o.position ≡ 0
  pub bytes : 0 < o.bytes → (1 ≤ una) × (una ≤ o.position)
  pub fin : o.fin ≡ true → (closed ≡ true) × (o.position ≡ length written + 1) × (o.bytes ≡ 0)

abbrev pub AllCarry : List ℕ → Bool → ℕ → List Effect → Type 0
AllCarry written closed una [] = Unit {0}
AllCarry written closed una (Emit o ∷ effects) = Carries written closed una o × AllCarry written closed una effects
AllCarry written closed una (other ∷ effects) = AllCarry written closed una effects

-- a step that sends what it may, and is closed behind it or not
pub record Sends (written : List ℕ) (closed : Bool) (s : Stepped) : Type 0 where
  pub next : OpenerOf written s.now
  pub closing : s.now.closing ≡ closed
  pub all : AllCarry written closed s.now.una s.effects

-- one by which no more is acknowledged
pub record Stays (written : List ℕ) (c : Connection) (s : Stepped) : Type 0 where
  pub next : OpenerOf written s.now
  pub una : s.now.una ≡ c.una
  pub closing : s.now.closing ≡ c.closing
  pub all : AllCarry written c.closing c.una s.effects
