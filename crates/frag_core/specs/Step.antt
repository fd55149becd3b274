-- Reassembly: RFC 791, section 3.2, with this profile's rules of dropping.
use Rattle.std.specs.Prelude.{ℕ, ◌≡◌, ◌+◌, ◌^◌, ◌≤◌, if◌then◌else◌, List, [], ◌∷◌, length, replicate, Option, None, Some}
use Rattle.std.specs.BTreeMap.{insert_entry, is_at}
use Rattle.std.specs.List.{AllByRecursion}
use Rattle.std.specs.Map.{lookup, set_value, remove_entry}
use Rattle.std.specs.Ordering.{nat_cmp, ordering_then}
use Rattle.std.specs.declared.cmp.Ordering.{Ordering}
use Rattle.sim_base.specs.declared.numbers.Numbers.{Numbers}
use Rattle.sim_base.specs.Packet.{Packet, len}
use Rattle.layer_words.specs.Acts.{Numbered, Stepped}
use Rattle.layer_words.specs.Counting.{with_stamp}
use Rattle.frag_core.specs.declared.fragment.DatagramId.{DatagramId}
use Rattle.frag_core.specs.declared.fragment.Fragment.{Fragment}
use Rattle.frag_core.specs.declared.words.In.{In}
use Rattle.frag_core.specs.declared.words.In.TheVariants.{Piece, Timer}
use Rattle.frag_core.specs.declared.words.Act.{Act}
use Rattle.frag_core.specs.declared.words.Act.TheVariants.{Whole, TimerAt, Dropped}
use Rattle.frag_core.specs.Fragment.{id_of}
use Rattle.frag_core.specs.Held.{is_refused, is_whole, most_data, put, ready, whole_of}
use Rattle.frag_core.specs.Inside.{PlainReassembly}

-- datagrams are kept in the order of source, destination, protocol and identification
abbrev pub id_cmp : DatagramId → DatagramId → Ordering
id_cmp a b =
    ordering_then (nat_cmp a.src b.src)
    (ordering_then (nat_cmp a.dst b.dst) (ordering_then (nat_cmp a.proto b.proto) (nat_cmp a.id b.id)))

-- the datagrams of which fragments are held; and, by the stamps of the running timers, which datagram each is for
pub record PlainFrags : Type 0 where
  pub datagrams : List (DatagramId × PlainReassembly)
  pub timers : List (ℕ × DatagramId)

abbrev pub no_frags : PlainFrags
no_frags = record { datagrams = []; timers = [] }

-- what is held of a datagram
abbrev pub under : DatagramId → List (DatagramId × PlainReassembly) → Option PlainReassembly
under id datagrams = lookup (is_at (id_cmp id)) datagrams

-- thirty seconds
abbrev pub patience : ℕ
patience = 30000000000

abbrev pub dropped : PlainFrags → Numbers → Numbered PlainFrags (Act Packet)
dropped t n = record { state = t; numbers = n; acts = Dropped ∷ [] }

-- a datagram of which the first fragment is held, unless that is the whole
abbrev pub with_new : DatagramId → PlainReassembly → PlainFrags → PlainFrags
with_new id r t =
    if is_whole r.held then t
    else record { datagrams = insert_entry id_cmp t.datagrams id r; timers = insert_entry nat_cmp t.timers r.stamp id }

-- the first fragment of a datagram sets its timer
abbrev pub begins : ℕ → Fragment Packet → PlainFrags → Numbers → Numbered PlainFrags (Act Packet)
begins now f t n = record {
  state = with_new (id_of f.head) (record { stamp = n.stamps; held = f ∷ [] }) t;
  numbers = with_stamp n;
  acts = TimerAt (record { 0 = now + patience }) n.stamps ∷ ready (f ∷ []);
}

-- a datagram is no longer held, and its timer's stamp is no longer current
abbrev pub without : DatagramId → ℕ → PlainFrags → PlainFrags
without id stamp t = record {
  datagrams = remove_entry (is_at (id_cmp id)) t.datagrams;
  timers = remove_entry (is_at (nat_cmp stamp)) t.timers;
}

abbrev pub with_held : DatagramId → PlainReassembly → PlainFrags → PlainFrags
with_held id r t =
    if is_whole r.held then without id r.stamp t
    else record t { datagrams = set_value (is_at (id_cmp id)) t.datagrams r }

-- what is handed on of a datagram that is whole
abbrev pub whole_under : Option PlainReassembly → List (Act Packet)
whole_under None = []
whole_under (Some r) = whole_of r.held

-- one more fragment of a datagram is dropped or kept
abbrev pub with_more : Option PlainReassembly → DatagramId → Fragment Packet → PlainFrags → PlainFrags
with_more None id f t = t
with_more (Some r) id f t = if is_refused r.held f then t else with_held id (record r { held = put f r.held }) t

abbrev pub acts_of_more : Option PlainReassembly → Fragment Packet → List (Act Packet)
acts_of_more None f = []
acts_of_more (Some r) f = if is_refused r.held f then Dropped ∷ [] else ready (put f r.held)

abbrev pub goes_on : Fragment Packet → PlainReassembly → PlainFrags → Numbers → Numbered PlainFrags (Act Packet)
goes_on f r t n = record {
  state = with_held (id_of f.head) (record r { held = put f r.held }) t;
  numbers = n;
  acts = ready (put f r.held);
}

abbrev pub comes_to : ℕ → Fragment Packet → Option PlainReassembly → PlainFrags → Numbers → Numbered PlainFrags (Act Packet)
comes_to now f None t n = if is_refused [] f then dropped t n else begins now f t n
comes_to now f (Some r) t n = if is_refused r.held f then dropped t n else goes_on f r t n

-- a fragment arrives
abbrev pub comes : ℕ → Fragment Packet → PlainFrags → Numbers → Numbered PlainFrags (Act Packet)
comes now f t n = comes_to now f (under (id_of f.head) t.datagrams) t n

-- each fragment that is held counts as dropped
abbrev pub given_up : Option PlainReassembly → List (Act Packet)
given_up None = []
given_up (Some r) = replicate (length r.held) Dropped

-- a timer drops what is held of its datagram; one whose stamp isn't current does nothing
abbrev pub fires_for : Option DatagramId → ℕ → PlainFrags → Stepped PlainFrags (Act Packet)
fires_for None stamp t = record { state = t; acts = [] }
fires_for (Some id) stamp t = record { state = without id stamp t; acts = given_up (under id t.datagrams) }

abbrev pub fires : ℕ → PlainFrags → Stepped PlainFrags (Act Packet)
fires stamp t = fires_for (lookup (is_at (nat_cmp stamp)) t.timers) stamp t

abbrev pub step : PlainFrags → Numbers → In Packet → Numbered PlainFrags (Act Packet)
step t n (Piece now head packet) = comes now.0 (record { head = head; packet = packet }) t n
step t n (Timer stamp) = record { state = (fires stamp t).state; numbers = n; acts = (fires stamp t).acts }

-- fragments are held under their own datagram's identity
abbrev pub AreFiled : List (DatagramId × PlainReassembly) → Type 0
AreFiled datagrams = AllByRecursion (λ e. AllByRecursion (λ f. id_of f.head ≡ e.0) e.1.held) datagrams

-- times are within their limits
abbrev pub CanTake : In Packet → Type 0
CanTake (Piece now head packet) = now.0 ≤ 2 ^ 60
CanTake (Timer stamp) = Unit {0}

-- what is handed on fits a datagram behind its header
abbrev pub FitsDatagram : Act Packet → Type 0
FitsDatagram (Whole head packet) = len packet ≤ most_data
FitsDatagram (TimerAt at stamp) = Unit {0}
FitsDatagram Dropped = Unit {0}
