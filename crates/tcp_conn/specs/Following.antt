-- What a sink's step is in the law of the delivered prefix: it takes one segment in as the law does, or nothing.
use Rattle.std.specs.Prelude.{◌≡◌, ◌⊎◌, ℕ, false, List, [], ◌∷◌}
use Rattle.tcp_stream.specs.History.{Told, receive}
use Rattle.tcp_stream.specs.History.Told.{Deliver as Delivered, End as Ended}
use Rattle.tcp_conn.specs.declared.words.Heard.{Heard}
use Rattle.tcp_conn.specs.declared.words.Effect.{Effect}
use Rattle.tcp_conn.specs.declared.words.Effect.TheVariants.{Deliver, End}
use Rattle.tcp_conn.specs.declared.connection.Connection.{Connection}
use Rattle.tcp_conn.specs.Send.{Stepped}
use Rattle.tcp_conn.specs.Step.{carried}

-- what effects tell the application of a sink
abbrev pub told_by : List Effect → List Told
told_by [] = []
told_by (Deliver bytes ∷ effects) = Delivered bytes ∷ told_by effects
told_by (End ∷ effects) = Ended ∷ told_by effects
told_by (other ∷ effects) = told_by effects

-- a step that takes nothing in
pub record IsQuiet (c : Connection) (s : Stepped) : Type 0 where
  pub sink : s.now.sink ≡ c.sink
  pub side : s.now.opener ≡ c.opener
  pub told : told_by s.effects ≡ []

-- a step that takes a segment in, as the law does where it comes
pub record TakesIn (c : Connection) (heard : Heard) (bytes : List ℕ) (s : Stepped) : Type 0 where
  pub running : c.sink.ended ≡ false
  pub no_syn : heard.syn ≡ false
  pub side : s.now.opener ≡ c.opener
  pub sink : s.now.sink ≡ (receive c.sink (carried heard bytes)).0
  pub told : told_by s.effects ≡ (receive c.sink (carried heard bytes)).1

-- a step that a segment brings about
abbrev pub Follows : Connection → Heard → List ℕ → Stepped → Type 0
Follows c heard bytes s = IsQuiet c s ⊎ TakesIn c heard bytes s
