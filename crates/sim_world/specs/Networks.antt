-- Links and LANs, as the interfaces on them see them.
use Rattle.std.specs.Prelude.{ℕ, ◌≤◌, Option, None, Some, IfSome}
use Rattle.sim_base.specs.declared.time.Rate.{Rate}
use Rattle.sim_base.specs.declared.time.Time.{Time}
use Rattle.queue_discs.specs.declared.disc.DiscKind.{DiscKind}
use Rattle.queue_discs.specs.declared.disc.DiscKind.TheVariants as disc
use Rattle.queue_discs.specs.Disc.{IsKind}
use Rattle.scenario_form.specs.declared.scenario.Lan.{Lan}
use Rattle.scenario_form.specs.declared.scenario.Link.{Link}
use Rattle.scenario_form.specs.declared.scenario.Queue.{Queue}
use Rattle.scenario_form.specs.declared.scenario.Queue.TheVariants.{Fifo, Prio, Tbf}
use Rattle.sim_world.specs.declared.networks.Network.{Network}

-- a token bucket has the rate and the burst that a scenario with one names
abbrev pub token_bucket : ℕ → Option Rate → Option ℕ → DiscKind
token_bucket limit (Some rate) (Some burst) = disc.Tbf limit rate burst
token_bucket limit (Some rate) None = disc.Fifo limit
token_bucket limit None burst = disc.Fifo limit

-- the queue disc before each interface of a network
abbrev pub disc_of : Queue → ℕ → Option Rate → Option ℕ → DiscKind
disc_of Fifo limit rate burst = disc.Fifo limit
disc_of Prio limit rate burst = disc.Prio limit
disc_of Tbf limit rate burst = token_bucket limit rate burst

-- networks are numbered from 0, the links first and then the LANs
abbrev pub link_network : ℕ → Link → Network
link_network number l = record {
  number = number;
  prefix = l.prefix;
  mtu = l.mtu;
  rate = l.rate_bps;
  delay = l.delay_ns;
  disc = disc_of l.queue l.limit l.tbf_bps l.tbf_burst;
  captured = l.pcap;
}

abbrev pub lan_network : ℕ → Lan → Network
lan_network number l = record {
  number = number;
  prefix = l.prefix;
  mtu = l.mtu;
  rate = l.rate_bps;
  delay = l.delay_ns;
  disc = disc_of l.queue l.limit l.tbf_bps l.tbf_burst;
  captured = l.pcap;
}

-- the prefix, the MTU, the queue's limit, the rate, the delay, and the rate and size of the bucket of a link or a LAN, within the limits
pub record AreNumbers (bits longest most : ℕ) (speed : Rate) (time : Time) (fill : Option Rate) (size : Option ℕ) : Type 0 where
  pub prefix : bits ≤ 30
  pub mtu : longest ≤ 65535
  pub limit : most ≤ 100000
  pub some_rate : 1 ≤ speed.0
  pub rate : speed.0 ≤ 1000000000000
  pub delay : time.0 ≤ 1000000000000
  pub bucket_rate : IfSome fill (λ r. (1 ≤ r.0) × (r.0 ≤ 1000000000000))
  pub burst : IfSome size (λ b. (1 ≤ b) × (b ≤ 1000000000))

abbrev pub HasLinkNumbers : Link → Type 0
HasLinkNumbers l = AreNumbers l.prefix l.mtu l.limit l.rate_bps l.delay_ns l.tbf_bps l.tbf_burst

abbrev pub HasLanNumbers : Lan → Type 0
HasLanNumbers l = AreNumbers l.prefix l.mtu l.limit l.rate_bps l.delay_ns l.tbf_bps l.tbf_burst

-- a network whose numbers are within the limits
pub record IsNetwork (n : Network) : Type 0 where
  pub some_rate : 1 ≤ n.rate.0
  pub rate : n.rate.0 ≤ 1000000000000
  pub delay : n.delay.0 ≤ 1000000000000
  pub disc : IsKind n.disc
  pub mtu : n.mtu ≤ 65535
  pub prefix : n.prefix ≤ 30
