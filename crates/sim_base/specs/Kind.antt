-- Which kinds are the same.
use Rattle.std.specs.Prelude.{ℕ, Bool, ◌==◌}
use Rattle.sim_base.specs.declared.item.Kind.{Kind}
use Rattle.sim_base.specs.declared.item.Kind.TheVariants.{Ppp, Ethernet, Trailer, Arp, Ipv4, Icmp, Udp, Tcp, Payload, Pad}

abbrev pub kind_number : Kind → ℕ
kind_number Ppp = 0
kind_number Ethernet = 1
kind_number Trailer = 2
kind_number Arp = 3
kind_number Ipv4 = 4
kind_number Icmp = 5
kind_number Udp = 6
kind_number Tcp = 7
kind_number Payload = 8
kind_number Pad = 9

abbrev pub same_kind : Kind → Kind → Bool
same_kind a b = kind_number a == kind_number b
