-- Reports answer no reports: RFC 1122, section 3.2.2.
use Rattle.std.specs.Prelude.{ℕ, ◌≡◌, ◌≢◌, ◌<◌, ◌^◌, []}
use Rattle.sim_base.specs.declared.numbers.Numbers.{Numbers}
use Rattle.sim_base.specs.Packet.{Packet}
use Rattle.header_forms.specs.declared.ipv4.Ipv4.{Ipv4}
use Rattle.udp_icmp.specs.declared.ports.In.TheVariants.{Report}
use Rattle.udp_icmp.specs.Icmp.{message}
use Rattle.udp_icmp.specs.Ports.{PlainPorts}
use Rattle.udp_icmp.specs.Step.{step}

-- the kind of a message that is no echo
abbrev pub IsErrorKind : ℕ → Type 0
IsErrorKind kind = (kind < 2 ^ 8) × (kind ≢ 0) × (kind ≢ 8)

-- whatever became of such a message, nothing is reported about it
abbrev pub IsSilentAbout : ℕ → ℕ → ℕ → Packet → Type 0
IsSilentAbout kind code rest about =
    (ports : PlainPorts) (numbers : Numbers) (head : Ipv4) (why which : ℕ) → head.proto ≡ 1
    → (step ports numbers (Report why which head (message kind code rest about))).acts ≡ []
