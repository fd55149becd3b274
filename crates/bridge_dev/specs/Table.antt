-- What a bridge knows of stations (IEEE 802.1D, section 7.9): the entries of its filtering database, and how long they count.
use Rattle.std.specs.BTreeMap.{insert_entry, is_at}
use Rattle.std.specs.Cmp.Lexicographic.{slice_cmp}
use Rattle.std.specs.List.{AllByRecursion}
use Rattle.std.specs.Map as map
use Rattle.std.specs.Ordering.{nat_cmp}
use Rattle.std.specs.Prelude.{ℕ, ◌-◌, ◌<◌, nat_lt, Bool, List, [], Option, None, Some, if◌then◌else◌}
use Rattle.bridge_dev.specs.declared.bridge.Sighting.{Sighting}

-- a station is looked for at the port of its last frame for 300 s
abbrev pub belief : ℕ
belief = 300000000000

abbrev pub counts : ℕ → Sighting → Bool
counts now s = nat_lt (now - s.at.0) belief

-- the number of ports, and where and when each station was heard last, in the order of the addresses
pub record PlainBridge : Type 0 where
  pub ports : ℕ
  pub entries : List (List ℕ × Sighting)

abbrev pub empty : ℕ → PlainBridge
empty ports = record { ports = ports; entries = [] }

-- a frame came in at a port, at a time, from a source
abbrev pub learned : ℕ → ℕ → List ℕ → PlainBridge → PlainBridge
learned now port source b =
    record b { entries = insert_entry (slice_cmp nat_cmp) b.entries source (record { port = port; at = record { 0 = now } }) }

-- where and when a station was heard last
abbrev pub entry_of : List ℕ → PlainBridge → Option Sighting
entry_of mac b = map.lookup (is_at (slice_cmp nat_cmp mac)) b.entries

-- the port of a sighting, while that counts
abbrev pub found : ℕ → Option Sighting → Option ℕ
found now None = None
found now (Some s) = if counts now s then Some s.port else None

abbrev pub lookup : ℕ → List ℕ → PlainBridge → Option ℕ
lookup now mac b = found now (entry_of mac b)

-- stations were heard at ports of the bridge
abbrev pub IsBridge : PlainBridge → Type 0
IsBridge b = AllByRecursion (λ e. e.1.port < b.ports) b.entries
