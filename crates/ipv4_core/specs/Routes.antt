-- Where packets are sent.
use Rattle.std.specs.Prelude.{ℕ, ◌≡◌, ◌⊎◌, ◌-◌, ◌%◌, ◌^◌, ◌<◌, ◌≤◌, IsSome, Option, None, Some, List, [], ◌∷◌, unwrap_or}
use Rattle.std.specs.List.{AllByRecursion}
use Rattle.std.specs.Map.{lookup}
use Rattle.std.specs.Ordering.{is_eq, nat_cmp}
use Rattle.ipv4_core.specs.declared.routes.Hop.{Hop}
use Rattle.ipv4_core.specs.declared.routes.Way.{Way}

-- the routes to networks whose prefixes have one length: each by its network
pub record PlainTable : Type 0 where
  pub prefix : ℕ
  pub ways : List (ℕ × Way)

-- the network of an address: the bits beyond the prefix are zeros
abbrev pub network : ℕ → ℕ → ℕ
network prefix addr = addr - addr % 2 ^ (32 - prefix)

abbrev pub way_in : PlainTable → ℕ → Option Way
way_in table addr = lookup (λ net. is_eq (nat_cmp (network table.prefix addr) net)) table.ways

abbrev pub or_else : Option Way → Option Way → Option Way
or_else None later = later
or_else (Some way) later = Some way

-- the way to an address: tables of longer prefixes come first
abbrev pub route : ℕ → List PlainTable → Option Way
route addr [] = None
route addr (table ∷ tables) = or_else (way_in table addr) (route addr tables)

-- the prefixes of tables grow shorter from one to the next
abbrev pub IsFalling : List PlainTable → Type 0
IsFalling [] = Unit {0}
IsFalling (table ∷ tables) = AllByRecursion (λ t. t.prefix < table.prefix) tables × IsFalling tables

abbrev pub IsIn : PlainTable → List PlainTable → Type 0
IsIn table [] = ⊥
IsIn table (t ∷ tables) = (table ≡ t) ⊎ IsIn table tables

-- a way to an address, and no table of a longer prefix has one
pub record IsLongest (addr : ℕ) (tables : List PlainTable) (way : Way) : Type 0 where
  pub table : PlainTable
  pub held : IsIn table tables
  pub here : way_in table addr ≡ Some way
  pub longest : (t : PlainTable) → IsIn t tables → IsSome (way_in t addr) → t.prefix ≤ table.prefix

-- no table has a way to an address
abbrev pub HasNoWay : ℕ → List PlainTable → Type 0
HasNoWay addr tables = (t : PlainTable) → IsIn t tables → way_in t addr ≡ None

-- the neighbour that a way leads through; on a connected network it is the destination itself
abbrev pub neighbour : Way → ℕ → ℕ
neighbour way dst = unwrap_or way.via dst

-- the interface and the neighbour by which an address is reached
abbrev pub hop : ℕ → Option Way → Option Hop
hop dst None = None
hop dst (Some way) = Some (record { iface = way.iface; addr = neighbour way dst })

-- the own address that packets to an address are sent from
abbrev pub source : Option Way → Option ℕ
source None = None
source (Some way) = Some way.addr
