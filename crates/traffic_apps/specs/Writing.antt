-- A bulk sender over many inputs.
use Rattle.std.specs.Prelude.{ℕ, suc, ◌≡◌, ◌<◌, ◌≤◌, List, [], ◌∷◌, ◌++◌}
use Rattle.sim_base.specs.declared.numbers.Numbers.{Numbers}
use Rattle.sim_base.specs.Packet.{Packet}
use Rattle.traffic_apps.specs.declared.app.Act.{Act}
use Rattle.traffic_apps.specs.declared.app.Act.TheVariants.{Write, Close}
use Rattle.traffic_apps.specs.declared.app.In.{In}
use Rattle.traffic_apps.specs.App.{PlainApp}
use Rattle.traffic_apps.specs.Step.{step}
use Rattle.traffic_apps.specs.Stream.{stream}

-- an application after inputs, and what it has asked for then

abbrev pub app_after : List (In Packet) → PlainApp → Numbers → PlainApp
app_after [] a numbers = a
app_after (input ∷ inputs) a numbers =
    app_after inputs (step a numbers input).state (step a numbers input).numbers

abbrev pub asked_over : List (In Packet) → PlainApp → Numbers → List (Act Packet)
asked_over [] a numbers = []
asked_over (input ∷ inputs) a numbers =
    (step a numbers input).acts ++ asked_over inputs (step a numbers input).state (step a numbers input).numbers

-- the bytes of the writes among acts, joined together
abbrev pub written_in : List (Act Packet) → List ℕ
written_in [] = []
written_in (Write bytes ∷ acts) = bytes ++ written_in acts
written_in (other ∷ acts) = written_in acts

-- how many closes are among them
abbrev pub closes_in : List (Act Packet) → ℕ
closes_in [] = 0
closes_in (Close ∷ acts) = suc (closes_in acts)
closes_in (other ∷ acts) = closes_in acts

-- So many bytes have been written and no others: the first of the stream. There is a close where they are all, and only there.
pub record WritesStream (bytes sent : ℕ) (acts : List (Act Packet)) : Type 0 where
  pub most : sent ≤ bytes
  pub written : written_in acts ≡ stream sent 0
  pub only_behind_all : 0 < closes_in acts → sent ≡ bytes
  pub behind_all : 0 < bytes → sent ≡ bytes → 0 < closes_in acts
