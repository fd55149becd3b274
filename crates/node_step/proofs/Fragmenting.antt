-- The fragments of a packet that is longer than its link takes.
use Rattle.std.proofs.Common.{◌≡◌, ℕ, ◌<◌, ◌≤◌, ◌^◌, max, List, All, arith}
use Rattle.std.proofs.lemmas.List.Elements.{All-weaker}
use Rattle.sim_base.specs.Packet.{Packet, len}
use Rattle.node_step.specs.Leaving.{least_mtu}

-- each of them fits a datagram with its header
pub all-short : (mtu m size : ℕ) (packets : List Packet) → m ≡ max mtu least_mtu → mtu < size → size < 2 ^ 16 → All (λ p. len p ≤ m) packets →
    All (λ p. len p < 2 ^ 16) packets
all-short mtu m size packets is long short fit =
    All-weaker (λ p. len p ≤ m) (λ p. len p < 2 ^ 16) (λ p le. omega arith) packets fit
