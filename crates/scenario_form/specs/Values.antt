-- What a table says under a key, or what holds where the key is left out.
use Rattle.std.specs.Prelude.{ℕ, min, ℤ, pos, negsuc, Bool, false, List, [], Option, option_map, option_and_then, unwrap_or}
use Rattle.std.specs.List.{filter_map}
use Rattle.toml.specs.Data.{Data, Members, as_str, as_integer, as_bool, as_array, as_table, get_member}
use Rattle.sim_base.specs.declared.key.NodeId.{NodeId}
use Rattle.sim_base.specs.declared.time.Time.{Time}
use Rattle.sim_base.specs.declared.time.Rate.{Rate}
use Rattle.scenario_form.specs.Address.{address}
use Rattle.scenario_form.specs.Forms.{values_in}

-- numbers of a scenario are never negative where they are accepted
abbrev pub natural : ℤ → ℕ
natural (pos n) = n
natural (negsuc n) = 0

-- a node's number; what has more than 32 bits is refused before it matters
abbrev pub node_of : ℕ → NodeId
node_of n = record { 0 = min n 4294967295 }

abbrev pub time_of : ℕ → Time
time_of n = record { 0 = n }

abbrev pub rate_of : ℕ → Rate
rate_of n = record { 0 = n }

abbrev pub number_in : Data → Option ℕ
number_in d = option_map natural (as_integer d)

abbrev pub address_in : Data → Option ℕ
address_in d = option_and_then address (as_str d)

abbrev pub number_at : List ℕ → Members → Option ℕ
number_at k t = option_and_then number_in (get_member k t)

abbrev pub number_or : ℕ → List ℕ → Members → ℕ
number_or default k t = unwrap_or (number_at k t) default

abbrev pub node_at : List ℕ → Members → NodeId
node_at k t = node_of (number_or 0 k t)

abbrev pub integer_or : ℤ → List ℕ → Members → ℤ
integer_or default k t = unwrap_or (option_and_then as_integer (get_member k t)) default

abbrev pub address_at : List ℕ → Members → Option ℕ
address_at k t = option_and_then address_in (get_member k t)

abbrev pub address_or_zero : List ℕ → Members → ℕ
address_or_zero k t = unwrap_or (address_at k t) 0

abbrev pub text_or : List ℕ → List ℕ → Members → List ℕ
text_or default k t = unwrap_or (option_and_then as_str (get_member k t)) default

abbrev pub flag_or_false : List ℕ → Members → Bool
flag_or_false k t = unwrap_or (option_and_then as_bool (get_member k t)) false

abbrev pub list_at : List ℕ → Members → Option (List Data)
list_at k t = option_map values_in (option_and_then as_array (get_member k t))

abbrev pub numbers_in : List Data → List ℕ
numbers_in ds = filter_map number_in ds

abbrev pub nodes_in : List Data → List NodeId
nodes_in ds = filter_map (λ d. option_map node_of (number_in d)) ds

abbrev pub addresses_in : List Data → List ℕ
addresses_in ds = filter_map address_in ds

abbrev pub tables_in : List Data → List Members
tables_in ds = filter_map as_table ds

abbrev pub tables_at : List ℕ → Members → List Members
tables_at k t = tables_in (unwrap_or (list_at k t) [])
