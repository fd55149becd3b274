-- What a field may hold, and when a value is refused.
use Rattle.std.specs.Prelude.{ℕ, ℤ, pos, negsuc, ◌+ℤ◌, int_le, int_lt, nat_le, Bool, ◌&&◌, List, [], ◌∷◌, length, Option, Some, None, is_some, unwrap_or, Ok, Err, codes}
use Rattle.std.specs.List.{list_any, list_all}
use Rattle.std.specs.Str.{bytes_eq}
use Rattle.toml.specs.Data.{Data, Items, no_items, item, as_str, as_integer, as_bool, as_array, as_table}
use Rattle.scenario_form.specs.declared.field.Code.{Code}
use Rattle.scenario_form.specs.declared.field.Code.TheVariants.{WrongType, Range}
use Rattle.scenario_form.specs.declared.field.Code.TheVariants as code
use Rattle.scenario_form.specs.declared.field.Words.{Words}
use Rattle.scenario_form.specs.declared.field.Words.TheVariants.{Routing, Queue, Kind}
use Rattle.scenario_form.specs.declared.field.Item.{Item}
use Rattle.scenario_form.specs.declared.field.Item.TheVariants.{Integer, Node, Word, Address, Flag}
use Rattle.scenario_form.specs.declared.field.Form.{Form}
use Rattle.scenario_form.specs.declared.field.Form.TheVariants.{One, List as ListOf, Rising, Groups, Tables}
use Rattle.scenario_form.specs.Checks.{Check, ◌>>◌, require, each}
use Rattle.scenario_form.specs.Address.{address}

-- the lists of texts
abbrev pub words : Words → List (List ℕ)
words Routing = codes "static" ∷ codes "auto" ∷ []
words Queue = codes "fifo" ∷ codes "prio" ∷ codes "tbf" ∷ []
words Kind =
    codes "udp-send" ∷ codes "udp-echo-client" ∷ codes "udp-sink" ∷ codes "udp-echo-server" ∷ codes "tcp-sink"
    ∷ codes "on-off" ∷ codes "ping" ∷ codes "tcp-bulk" ∷ []

-- the value has the type, and what it holds passes the check
abbrev pub of_type : {A : Type 0} → Option A → (A → Check Code) → Check Code
of_type None check = Err WrongType
of_type (Some a) check = check a

abbrev pub is_from_to : ℤ → ℤ → ℤ → Bool
is_from_to low high z = int_le low z && int_le z high

abbrev pub integer_check : ℤ → ℤ → Data → Check Code
integer_check low high d = of_type (as_integer d) (λ z. require (is_from_to low high z) Range)

-- a single value, where the scenario has so many nodes
abbrev pub item_check : ℕ → Item → Data → Check Code
item_check nodes (Integer low high) d = integer_check low high d
item_check nodes Node d = integer_check (pos 0) (pos nodes +ℤ negsuc 0) d
item_check nodes (Word list) d = of_type (as_str d) (λ s. require (list_any (bytes_eq s) (words list)) Range)
item_check nodes Address d = of_type (as_str d) (λ s. require (is_some (address s)) code.Address)
item_check nodes Flag d = of_type (as_bool d) (λ _. Ok tt)

-- the values of an array
abbrev pub values_in : Items → List Data
values_in no_items = []
values_in (item d ds) = d ∷ values_in ds

abbrev pub integer_of : Data → ℤ
integer_of d = unwrap_or (as_integer d) (pos 0)

-- numbers from 1, each above the one before
abbrev pub rising_check : ℤ → ℤ → List Data → Check Code
rising_check before high [] = Ok tt
rising_check before high (d ∷ ds) =
    integer_check (pos 1) high d >> (require (int_lt before (integer_of d)) Range >> rising_check (integer_of d) high ds)

abbrev pub count_check : ℕ → ℕ → List Data → Check Code
count_check least most ds = require (nat_le least (length ds) && nat_le (length ds) most) Range

-- the elements from first to last, and then their count
abbrev pub list_check : (Data → Check Code) → ℕ → ℕ → Data → Check Code
list_check check least most d =
    of_type (as_array d) (λ ds. each check (values_in ds) >> count_check least most (values_in ds))

-- no more values than an array can have
abbrev pub any_count : ℕ
any_count = 18446744073709551615

abbrev pub form_check : ℕ → Form → Data → Check Code
form_check nodes (One i) d = item_check nodes i d
form_check nodes (ListOf i least most) d = list_check (item_check nodes i) least most d
form_check nodes (Rising high) d = of_type (as_array d) (λ ds. rising_check (pos 0) high (values_in ds))
form_check nodes (Groups i) d = list_check (list_check (item_check nodes i) 1 any_count) 0 any_count d
form_check nodes (Tables most) d =
    of_type (as_array d) (λ ds. require (list_all (λ e. is_some (as_table e)) (values_in ds)) WrongType >> count_check 0 most (values_in ds))
