-- The tables of a scenario, field by field: number, key, form, and whether the key has to stand.
use Rattle.std.specs.Prelude.{ℕ, ℤ, pos, negsuc, Bool, true, false, not, ◌&&◌, List, [], ◌∷◌, Option, Some, None, codes}
use Rattle.std.specs.List.{list_any}
use Rattle.std.specs.Str.{bytes_eq}
use Rattle.toml.specs.Data.{Data, Members, no_members, member, get_member}
use Rattle.scenario_form.specs.declared.field.Code.{Code}
use Rattle.scenario_form.specs.declared.field.Code.TheVariants.{Unknown, Missing}
use Rattle.scenario_form.specs.declared.field.Fault.{Fault}
use Rattle.scenario_form.specs.declared.field.Words.TheVariants as words
use Rattle.scenario_form.specs.declared.field.Item.TheVariants.{Integer, Node, Word, Address, Flag}
use Rattle.scenario_form.specs.declared.field.Form.{Form}
use Rattle.scenario_form.specs.declared.field.Form.TheVariants.{One, List as ListOf, Rising, Groups, Tables}
use Rattle.scenario_form.specs.Checks.{Check, ◌>>◌, require, refuse_as, each}
use Rattle.scenario_form.specs.Forms.{form_check, any_count}

pub record Row : Type 0 where
  pub number : ℕ
  pub key : List ℕ
  pub form : Form
  pub required : Bool

-- a key without a default, and one that may be left out
abbrev pub must : ℕ → List ℕ → Form → Row
must n k f = record { number = n; key = k; form = f; required = true }

abbrev pub may : ℕ → List ℕ → Form → Row
may n k f = record { number = n; key = k; form = f; required = false }

abbrev pub integer : ℕ → ℕ → Form
integer low high = One (Integer (pos low) (pos high))

abbrev pub node : Form
node = One Node

abbrev pub addr : Form
addr = One Address

abbrev pub flag : Form
flag = One Flag

abbrev pub time_from : ℕ → Form
time_from low = integer low 1000000000000

abbrev pub rate : Form
rate = integer 1 1000000000000

abbrev pub top_rows : List Row
top_rows =
    must 1 (codes "format") (integer 1 1)
    ∷ must 2 (codes "nodes") (integer 1 1000)
    ∷ must 3 (codes "stop_ns") (time_from 0)
    ∷ may 4 (codes "seed") (integer 0 9007199254740992)
    ∷ may 5 (codes "events_per_node") (integer 1 1000000000)
    ∷ may 6 (codes "routing") (One (Word words.Routing))
    ∷ may 7 (codes "ascii") flag
    ∷ may 8 (codes "groups") (Groups Node)
    ∷ may 9 (codes "link") (Tables 4000)
    ∷ may 10 (codes "lan") (Tables 200)
    ∷ may 11 (codes "route") (Tables 10000)
    ∷ may 12 (codes "app") (Tables 4000)
    ∷ may 13 (codes "loss") (Tables 1000)
    ∷ []

abbrev pub link_rows : List Row
link_rows =
    must 1 (codes "a") node
    ∷ must 2 (codes "b") node
    ∷ must 3 (codes "a_addr") addr
    ∷ must 4 (codes "b_addr") addr
    ∷ may 5 (codes "prefix") (integer 8 30)
    ∷ must 6 (codes "rate_bps") rate
    ∷ must 7 (codes "delay_ns") (time_from 0)
    ∷ may 8 (codes "mtu") (integer 68 65535)
    ∷ may 9 (codes "cost") (integer 1 65535)
    ∷ may 10 (codes "queue") (One (Word words.Queue))
    ∷ may 11 (codes "limit") (integer 1 100000)
    ∷ may 12 (codes "tbf_bps") rate
    ∷ may 13 (codes "tbf_burst") (integer 1 1000000000)
    ∷ may 14 (codes "pcap") flag
    ∷ []

abbrev pub lan_rows : List Row
lan_rows =
    must 1 (codes "members") (ListOf Node 2 200)
    ∷ must 2 (codes "addrs") (ListOf Address 0 any_count)
    ∷ may 3 (codes "prefix") (integer 8 30)
    ∷ must 4 (codes "rate_bps") rate
    ∷ must 5 (codes "delay_ns") (time_from 0)
    ∷ may 6 (codes "mtu") (integer 68 65535)
    ∷ may 7 (codes "cost") (integer 1 65535)
    ∷ may 8 (codes "queue") (One (Word words.Queue))
    ∷ may 9 (codes "limit") (integer 1 100000)
    ∷ may 10 (codes "tbf_bps") rate
    ∷ may 11 (codes "tbf_burst") (integer 1 1000000000)
    ∷ may 12 (codes "pcap") flag
    ∷ []

abbrev pub route_rows : List Row
route_rows =
    must 1 (codes "node") node
    ∷ must 2 (codes "dest") addr
    ∷ must 3 (codes "prefix") (integer 0 30)
    ∷ must 4 (codes "via") addr
    ∷ []

-- the fields of an application, of which each kind has some
abbrev pub app_rows : List Row
app_rows =
    must 1 (codes "kind") (One (Word words.Kind))
    ∷ must 2 (codes "node") node
    ∷ must 3 (codes "port") (integer 1 49152)
    ∷ must 4 (codes "dst") addr
    ∷ may 5 (codes "start_ns") (time_from 0)
    ∷ may 6 (codes "count") (integer 1 1000000000)
    ∷ may 7 (codes "interval_ns") (time_from 1)
    ∷ may 8 (codes "size") (integer 0 65507)
    ∷ may 9 (codes "priority") (integer 0 15)
    ∷ must 10 (codes "rate_bps") rate
    ∷ must 11 (codes "on_ns") (time_from 1)
    ∷ must 12 (codes "off_ns") (time_from 0)
    ∷ must 13 (codes "bytes") (integer 0 1073741824)
    ∷ may 14 (codes "mss") (integer 64 9000)
    ∷ []

abbrev pub loss_rows : List Row
loss_rows =
    must 1 (codes "node") node
    ∷ must 2 (codes "iface") (One (Integer lowest highest))
    ∷ may 3 (codes "frames") (Rising (pos 1000000000))
    ∷ may 4 (codes "millionths") (integer 0 1000000)
    ∷ []
  where
    lowest : ℤ
    lowest = negsuc 9223372036854775807

    highest : ℤ
    highest = pos 9223372036854775807

-- ---- the refusals of a table

abbrev pub fault : ℕ → Code → Fault
fault n c = record { field = n; code = c }

-- the key is one of the fields'
abbrev pub is_known : List Row → List ℕ → Bool
is_known rows k = list_any (λ r. bytes_eq k r.key) rows

-- each key is one of the fields'
abbrev pub known_keys : List Row → Members → Bool
known_keys rows no_members = true
known_keys rows (member k d ms) = is_known rows k && known_keys rows ms

-- a field that stands has its form, and one that doesn't may be left out
abbrev pub value_check : ℕ → Row → Option Data → Check Code
value_check nodes r None = require (not r.required) Missing
value_check nodes r (Some d) = form_check nodes r.form d

abbrev pub row_check : ℕ → Members → Row → Check Fault
row_check nodes t r = refuse_as (fault r.number) (value_check nodes r (get_member r.key t))

-- first the keys, and then each field by its number
abbrev pub table_check : ℕ → List Row → Members → Check Fault
table_check nodes rows t = require (known_keys rows t) (fault 0 Unknown) >> each (row_check nodes t) rows
