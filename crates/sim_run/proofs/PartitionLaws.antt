-- A cut of a scenario's network, from a cut of its shape.
use Rattle.std.proofs.Common.{◌≡◌, Result, Ok, Err, IfOk, ap, ◌∙◌}
use Rattle.sim_base.specs.declared.memory.NoMemory.{NoMemory}
use Rattle.partition_cut.specs.declared.network.Cut.{Cut}
use Rattle.partition_cut.specs.declared.network.Shape.{Shape}
use Rattle.partition_cut.specs.AllowedCut.{IsCutOf}
use Rattle.partition_cut.specs.Network.{PlainCut, PlainShape, plain_cut, plain_shape}
use Rattle.scenario_form.specs.declared.scenario.Scenario.{Scenario}
use Rattle.scenario_form.specs.Shape.{IsCutFor, IsNetworkOf, network_of}
use Rattle.scenario_form.proofs.ShapeLaws.{is-network}

pub allowed-for : (s : Scenario) (shape : Shape) (r : Result Cut NoMemory) → IsNetworkOf s shape → IfOk r (IsCutOf shape) → IfOk r (IsCutFor s)
allowed-for s shape (Ok cut) are is = record { shape = shape; network = are; is_cut = is }
allowed-for s shape (Err e) are is = is

pub named-for : (s : Scenario) (shape : Shape) (make : PlainShape → PlainCut) (r : Result Cut NoMemory) → IsNetworkOf s shape
    → IfOk r (λ cut. plain_cut cut ≡ make (plain_shape shape)) → IfOk r (λ cut. plain_cut cut ≡ make (network_of s))
named-for s shape make (Ok cut) are is = is ∙ ap make (is-network s shape are)
named-for s shape make (Err e) are is = is
