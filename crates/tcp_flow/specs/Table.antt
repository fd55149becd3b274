-- The connections of a node, each under its number, in the order of the numbers.
use Rattle.std.specs.Prelude.{ℕ, suc, ◌<◌, ◌==◌, ◌&&◌, Bool, true, false, if◌then◌else◌, List, [], ◌∷◌, Option, None, Some}
use Rattle.std.specs.List.{All}
use Rattle.std.specs.Map.{lookup, set_value, remove_entry, values_of}
use Rattle.std.specs.BTreeMap.{insert_entry, is_at}
use Rattle.std.specs.Ordering.{nat_cmp}
use Rattle.sim_base.specs.declared.numbers.Numbers.{Numbers}
use Rattle.sim_base.specs.Packet.{Packet}
use Rattle.layer_words.specs.Acts.{Numbered}
use Rattle.tcp_conn.specs.declared.connection.Phase.{Phase}
use Rattle.tcp_conn.specs.declared.connection.Phase.TheVariants.{Closed}
use Rattle.tcp_conn.specs.Fits.{Fits}
use Rattle.tcp_wire.specs.declared.words.SocketPair.{SocketPair}
use Rattle.tcp_flow.specs.declared.words.Act.{Act}
use Rattle.tcp_flow.specs.declared.words.Event.{Event}
use Rattle.tcp_flow.specs.declared.conn.Conn.{Conn}
use Rattle.tcp_flow.specs.Conn.{Done, happened}

-- what stands under a number, or at a port
abbrev pub under : {X : Type 0} → ℕ → List (ℕ × X) → Option X
under number entries = lookup (is_at (nat_cmp number)) entries

abbrev pub same_pair : SocketPair → SocketPair → Bool
same_pair p q =
    p.addr == q.addr && (p.port == q.port && (p.other_addr == q.other_addr && p.other_port == q.other_port))

-- the number of the connection between these two
abbrev pub between : SocketPair → List (ℕ × Conn) → Option ℕ
between pair [] = None
between pair (e ∷ es) = if same_pair pair e.1.pair then Some e.0 else between pair es

-- The least number, from one on, that no connection has. They are in order, so it is the first that isn't met in its place.
abbrev pub least_free : ℕ → List (ℕ × Conn) → ℕ
least_free number [] = number
least_free number (e ∷ es) = if e.0 == number then least_free (suc number) es else number

-- the connections, the node's numbers and the acts after an input
abbrev pub After : Type 0
After = Numbered (List (ℕ × Conn)) (Act Packet)

-- a connection that has begun
abbrev pub with_begun : ℕ → Done → List (ℕ × Conn) → After
with_begun number d conns =
    record { state = insert_entry nat_cmp conns number d.conn; numbers = d.numbers; acts = d.acts }

-- a connection that an event has changed; once it is closed it is removed
abbrev pub is_closed : Phase → Bool
is_closed Closed = true
is_closed other = false

abbrev pub kept : ℕ → Conn → List (ℕ × Conn) → List (ℕ × Conn)
kept number k conns =
    if is_closed k.connection.phase then remove_entry (is_at (nat_cmp number)) conns
    else set_value (is_at (nat_cmp number)) conns k

abbrev pub with_changed : ℕ → Done → List (ℕ × Conn) → After
with_changed number d conns = record { state = kept number d.conn conns; numbers = d.numbers; acts = d.acts }

-- an event of the connection with this number; there may be none any longer
abbrev pub happens_to : Option Conn → ℕ → ℕ → Event → Numbers → List (ℕ × Conn) → After
happens_to None number now event n conns = record { state = conns; numbers = n; acts = [] }
happens_to (Some k) number now event n conns = with_changed number (happened now event k n) conns

abbrev pub happens : ℕ → ℕ → Event → Numbers → List (ℕ × Conn) → After
happens number now event n conns = happens_to (under number conns) number now event n conns

-- whether a timer with this stamp is that of the connection
abbrev pub has_stamp : ℕ → Option Conn → Bool
has_stamp stamp None = false
has_stamp stamp (Some k) = k.stamp == stamp

-- whether the connection was opened by this application
abbrev pub is_opener_of : ℕ → Option Conn → Bool
is_opener_of app None = false
is_opener_of app (Some k) = k.connection.opener && k.app == app

-- the positions of every connection are in order, and small
abbrev pub AllFit : List (ℕ × Conn) → Type 0
AllFit conns = All (λ k. Fits k.connection) (values_of conns)

-- every connection waits for some time before it sends again
abbrev pub AllWait : List (ℕ × Conn) → Type 0
AllWait conns = All (λ k. 0 < k.connection.round_trip.rto) (values_of conns)
