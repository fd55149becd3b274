-- A step begins with nothing asked for.
use Rattle.std.proofs.Common.{◌≡◌, List, [], ap, ◌∙◌}
use Rattle.sim_base.specs.declared.numbers.Numbers.{Numbers}
use Rattle.sim_base.specs.Draws.{PlainRandom}
use Rattle.sim_base.specs.Packet.{Packet}
use Rattle.csma_dev.specs.declared.bus.Bus.{Bus}
use Rattle.iface_step.specs.declared.words.Act.{Act}
use Rattle.iface_step.specs.declared.words.In.{In}
use Rattle.iface_step.specs.Iface.{PlainIface}
use Rattle.iface_step.specs.Step.{handled, step}
use Rattle.iface_step.specs.Transit.{Progress}

pub step_from : (input : In Packet) (i : PlainIface) (bus : Bus) (r : PlainRandom) (n : Numbers) (acts : List (Act Packet)) (end : Progress) → acts ≡ [] →
    end ≡ handled input (record { iface = i; bus = bus; random = r; numbers = n; acts = acts }) → end ≡ step i bus r n input
step_from input i bus r n acts end none is =
    is ∙ ap (λ (xs : List (Act Packet)). handled input (record { iface = i; bus = bus; random = r; numbers = n; acts = xs })) none
