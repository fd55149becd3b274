-- Addresses and networks. A prefix of p bits leaves 32 - p bits for the host.
use Rattle.std.specs.Prelude.{ℕ, ◌-◌, ◌/◌, ◌%◌, ◌^◌, Bool, true, not, ◌&&◌, ◌==◌, List, [], ◌∷◌}
use Rattle.std.specs.List.{list_all}

abbrev pub network_size : ℕ → ℕ
network_size prefix = 2 ^ (32 - prefix)

-- the prefix bits and the length
abbrev pub Network : Type 0
Network = ℕ × ℕ

abbrev pub network_of : ℕ → ℕ → Network
network_of prefix address = (address / network_size prefix, prefix)

abbrev pub same_network : Network → Network → Bool
same_network m n = (m.0 == n.0) && (m.1 == n.1)

abbrev pub host_part : ℕ → ℕ → ℕ
host_part prefix address = address % network_size prefix

-- neither all zeros nor all ones behind the prefix
abbrev pub is_host : ℕ → ℕ → Bool
is_host prefix address = not (host_part prefix address == 0) && not (host_part prefix address == network_size prefix - 1)

-- the addresses are hosts of one network
abbrev pub share_network : ℕ → List ℕ → Bool
share_network prefix [] = true
share_network prefix (first ∷ more) =
    list_all (λ a. same_network (network_of prefix a) (network_of prefix first) && is_host prefix a) (first ∷ more)
