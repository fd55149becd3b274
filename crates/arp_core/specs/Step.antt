-- Address resolution: RFC 826, with this profile's times and counts.
use Rattle.std.specs.Prelude.{ℕ, ◌+◌, ◌^◌, ◌≤◌, ◌==◌, nat_lt, List, [], ◌∷◌, ◌++◌, Option, None, Some, if◌then◌else◌}
use Rattle.sim_base.specs.declared.numbers.Numbers.{Numbers}
use Rattle.sim_base.specs.Packet.{Packet}
use Rattle.header_forms.specs.declared.arp.Arp.{Arp}
use Rattle.layer_words.specs.Acts.{Numbered, Stepped}
use Rattle.arp_core.specs.declared.entry.Resolution.TheVariants.{Waiting, Failed}
use Rattle.arp_core.specs.declared.words.In.{In}
use Rattle.arp_core.specs.declared.words.In.TheVariants.{Resolve, Heard, Timer}
use Rattle.arp_core.specs.declared.words.Act.{Act}
use Rattle.arp_core.specs.declared.words.Act.TheVariants.{Ask, Answer, TimerAt}
use Rattle.arp_core.specs.Cache.{PlainCache, under, with_entry, with_changed}
use Rattle.layer_words.specs.Counting.{with_stamp}
use Rattle.arp_core.specs.Entry.{PlainEntry, all_dropped, all_sent, counts, first_try, known, offered, tries_under}

-- an answer is waited for for a second, and asked for three times; it is believed for two minutes; where none came, nothing is asked for a hundred seconds
abbrev pub patience : ℕ
patience = 1000000000

abbrev pub most_tries : ℕ
most_tries = 3

abbrev pub belief : ℕ
belief = 120000000000

abbrev pub silence : ℕ
silence = 100000000000

-- a message that asks who has an address
abbrev pub request : ℕ → PlainCache → Arp
request addr c = record { op = 1; sender_mac = c.mac; sender = c.addr; target_mac = 0 ∷ 0 ∷ 0 ∷ 0 ∷ 0 ∷ 0 ∷ []; target = addr }

-- a message that answers the sender of another
abbrev pub reply : Arp → PlainCache → Arp
reply arp c = record { op = 2; sender_mac = c.mac; sender = c.addr; target_mac = arp.sender_mac; target = arp.sender }

-- asking for an address sets a timer, which takes the next stamp
abbrev pub asks : ℕ → ℕ → PlainCache → Numbers → List (Act Packet)
asks now addr c n = Ask (request addr c) ∷ TimerAt (record { 0 = now + patience }) addr n.stamps ∷ []

-- an address of which nothing is known is asked for
abbrev pub begins : ℕ → ℕ → Packet → PlainCache → Numbers → Numbered PlainCache (Act Packet)
begins now addr packet c n =
    record { state = with_entry addr (first_try n.stamps packet) c; numbers = with_stamp n; acts = asks now addr c n }

-- so is one of which what was known no longer counts
abbrev pub begins_anew : ℕ → ℕ → Packet → PlainCache → Numbers → Numbered PlainCache (Act Packet)
begins_anew now addr packet c n =
    record { state = with_changed addr (first_try n.stamps packet) c; numbers = with_stamp n; acts = asks now addr c n }

abbrev pub goes_on : ℕ → Packet → PlainEntry → PlainCache → Numbers → Numbered PlainCache (Act Packet)
goes_on addr packet e c n =
    record { state = with_changed addr (offered packet e).entry c; numbers = n; acts = (offered packet e).acts }

-- a packet is to go to an address
abbrev pub resolves_by : Option PlainEntry → ℕ → ℕ → Packet → PlainCache → Numbers → Numbered PlainCache (Act Packet)
resolves_by None now addr packet c n = begins now addr packet c n
resolves_by (Some e) now addr packet c n =
    if counts now e.resolution then goes_on addr packet e c n else begins_anew now addr packet c n

abbrev pub resolves : ℕ → ℕ → Packet → PlainCache → Numbers → Numbered PlainCache (Act Packet)
resolves now addr packet c n = resolves_by (under addr c) now addr packet c n

-- the packets that wait for an answer
abbrev pub waiting : Option PlainEntry → List Packet
waiting None = []
waiting (Some e) = e.held

-- a message that asks is answered
abbrev pub answered : Arp → PlainCache → List (Act Packet)
answered arp c = if arp.op == 1 then Answer (reply arp c) ∷ [] else []

-- the sender is known, and what waited for it goes out
abbrev pub learns : ℕ → Arp → PlainCache → Stepped PlainCache (Act Packet)
learns now arp c = record {
  state = with_entry arp.sender (known arp.sender_mac (record { 0 = now + belief })) c;
  acts = all_sent arp.sender_mac (waiting (under arp.sender c)) ++ answered arp c;
}

-- a message to another is ignored
abbrev pub hears : ℕ → Arp → PlainCache → Stepped PlainCache (Act Packet)
hears now arp c = if arp.target == c.addr then learns now arp c else record { state = c; acts = [] }

abbrev pub nothing : PlainCache → Numbers → Numbered PlainCache (Act Packet)
nothing c n = record { state = c; numbers = n; acts = [] }

-- an address is asked for once more
abbrev pub asks_again : ℕ → ℕ → ℕ → PlainEntry → PlainCache → Numbers → Numbered PlainCache (Act Packet)
asks_again now addr tries e c n = record {
  state = with_changed addr (record { resolution = Waiting (tries + 1) n.stamps; held = e.held }) c;
  numbers = with_stamp n;
  acts = asks now addr c n;
}

-- nothing answered: what waited is dropped
abbrev pub gives_up : ℕ → ℕ → PlainEntry → PlainCache → Numbers → Numbered PlainCache (Act Packet)
gives_up now addr e c n = record {
  state = with_changed addr (record { resolution = Failed (record { 0 = now + silence }); held = [] }) c;
  numbers = n;
  acts = all_dropped e.held;
}

-- the entry of an address stays as it is
abbrev pub stays : ℕ → PlainEntry → PlainCache → Numbers → Numbered PlainCache (Act Packet)
stays addr e c n = record { state = with_changed addr e c; numbers = n; acts = [] }

abbrev pub times_out : Option ℕ → ℕ → ℕ → PlainEntry → PlainCache → Numbers → Numbered PlainCache (Act Packet)
times_out None now addr e c n = stays addr e c n
times_out (Some tries) now addr e c n =
    if nat_lt tries most_tries then asks_again now addr tries e c n else gives_up now addr e c n

-- a timer whose stamp isn't the current one does nothing
abbrev pub fires_for : Option PlainEntry → ℕ → ℕ → ℕ → PlainCache → Numbers → Numbered PlainCache (Act Packet)
fires_for None now addr stamp c n = nothing c n
fires_for (Some e) now addr stamp c n = times_out (tries_under stamp e.resolution) now addr e c n

abbrev pub fires : ℕ → ℕ → ℕ → PlainCache → Numbers → Numbered PlainCache (Act Packet)
fires now addr stamp c n = fires_for (under addr c) now addr stamp c n

abbrev pub step : PlainCache → Numbers → In Packet → Numbered PlainCache (Act Packet)
step c n (Resolve now addr packet) = resolves now.0 addr packet c n
step c n (Heard now arp) = record { state = (hears now.0 arp c).state; numbers = n; acts = (hears now.0 arp c).acts }
step c n (Timer now addr stamp) = fires now.0 addr stamp c n

-- times are within their limits
abbrev pub CanTake : In Packet → Type 0
CanTake (Resolve now addr packet) = now.0 ≤ 2 ^ 60
CanTake (Heard now arp) = now.0 ≤ 2 ^ 60
CanTake (Timer now addr stamp) = now.0 ≤ 2 ^ 60
