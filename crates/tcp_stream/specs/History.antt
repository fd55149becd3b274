-- Histories of one TCP connection, from the sink's first SYN on: what an opener writes and sends, and what the sink tells.
use Rattle.std.specs.Prelude.{◌≡◌, ℕ, zero, suc, ◌+◌, ◌%◌, ◌^◌, ◌≤◌, Bool, true, false, ◌&&◌, ◌||◌, ◌==◌, nat_le, if◌then◌else◌, List, [], ◌∷◌, ◌++◌, length, Option, None, Some}
use Rattle.std.specs.List.{slice_get}
use Rattle.std.specs.Option.{option_or}
use Rattle.std.specs.FinMap.{empty, retain_keys}
use Rattle.tcp_stream.specs.Held.{Held, window, in_window, taken_in, front}

-- Positions: SYN has 0, the first byte written 1, and FIN the one behind the last byte.

pub record Segment : Type 0 where
  pub seq : ℕ
  pub syn : Bool
  pub fin : Bool
  pub bytes : List ℕ

-- what the sink tells its application
pub data Told : Type 0 where
  Deliver : (bytes : List ℕ) → Told
  End : Told

pub record Sink : Type 0 where
  pub rcv : ℕ  -- the position that it waits for
  pub held : Held
  pub fin_at : Option ℕ
  pub ended : Bool

pub record World : Type 0 where
  pub written : List ℕ
  pub closed : Bool
  pub sent : List Segment  -- each segment that the opener ever sent
  pub sink : Sink
  pub told : List Told

-- What may happen next. A segment that is lost never comes; one may come again, and in any order. What else a
-- connection meets, as timers and acknowledgements, only makes its opener send.
pub data Event : Type 0 where
  Write : (bytes : List ℕ) → Event
  Close : Event
  Send : (segment : Segment) → Event
  Comes : (which : ℕ) → Event
  Timer : Event

-- what was written at a position
abbrev pub written_at : List ℕ → ℕ → Option ℕ
written_at written zero = None
written_at written (suc i) = slice_get written i

-- A segment that an opener may send: its bytes are those written at its positions, a FIN is one past all that was
-- written and comes after the close. Its sequence number is its position in 32 bits.
pub record CarriesWritten (written : List ℕ) (closed : Bool) (s : Segment) : Type 0 where
  pub position : ℕ
  pub seq : s.seq ≡ position % 2 ^ 32
  pub syn : s.syn ≡ true → position ≡ 0
  pub bytes : (i byte : ℕ) → slice_get s.bytes i ≡ Some byte → written_at written (position + i) ≡ Some byte
  pub fin : s.fin ≡ true → (closed ≡ true) × (position + length s.bytes ≡ length written + 1)

-- the position of a segment's FIN, where it has one in the window
abbrev pub fin_of : ℕ → Segment → Option ℕ
fin_of rcv s = if s.fin && in_window rcv (s.seq + length s.bytes) then Some (s.seq + length s.bytes) else None

abbrev pub with_segment : Sink → Segment → Sink
with_segment k s = record k { held = taken_in k.rcv k.held s.seq s.bytes; fin_at = option_or k.fin_at (fin_of k.rcv s) }

-- past bytes that were delivered
abbrev pub past : Sink → List ℕ → Sink
past k bytes = record k { rcv = k.rcv + length bytes; held = retain_keys k.held (λ p. nat_le (k.rcv + length bytes) p) }

abbrev pub delivery : List ℕ → List Told
delivery [] = []
delivery (byte ∷ bytes) = Deliver (byte ∷ bytes) ∷ []

abbrev pub is_at : Option ℕ → ℕ → Bool
is_at None position = false
is_at (Some fin) position = fin == position

-- past the FIN, where that is next
abbrev pub finished : Sink → Sink × List Told
finished k = if is_at k.fin_at k.rcv then (record k { rcv = k.rcv + 1; ended = true }, End ∷ []) else (k, [])

-- what the sink becomes and tells when it takes a segment in
abbrev pub receive : Sink → Segment → Sink × List Told
receive k s =
    let taken = with_segment k s in
    let bytes = front window taken.held taken.rcv in
    let end = finished (past taken bytes) in
    (end.0, delivery bytes ++ end.1)

abbrev pub comes : World → Option Segment → World
comes w None = w
comes w (Some s) =
    if w.sink.ended || s.syn then w
    else (let r = receive w.sink s in record w { sink = r.0; told = w.told ++ r.1 })

abbrev pub happens : World → Event → World
happens w (Write bytes) = record w { written = w.written ++ bytes }
happens w Close = record w { closed = true }
happens w (Send s) = record w { sent = s ∷ w.sent }
happens w (Comes which) = comes w (slice_get w.sent which)
happens w Timer = w

abbrev pub run : World → List Event → World
run w [] = w
run w (e ∷ es) = run (happens w e) es

-- no write after a close, at most 2 ^ 30 bytes in all, and only segments that carry what was written
abbrev pub MayHappen : World → Event → Type 0
MayHappen w (Write bytes) = (w.closed ≡ false) × (length w.written + length bytes ≤ 2 ^ 30)
MayHappen w Close = Unit {0}
MayHappen w (Send s) = CarriesWritten w.written w.closed s
MayHappen w (Comes which) = Unit {0}
MayHappen w Timer = Unit {0}

abbrev pub IsHistory : World → List Event → Type 0
IsHistory w [] = Unit {0}
IsHistory w (e ∷ es) = MayHappen w e × IsHistory (happens w e) es

-- a connection that the first SYN made
abbrev pub opened : World
opened = record { written = []; closed = false; sent = []; sink = record { rcv = 1; held = empty; fin_at = None; ended = false }; told = [] }

-- the deliveries joined together
abbrev pub delivered : List Told → List ℕ
delivered [] = []
delivered (Deliver bytes ∷ told) = bytes ++ delivered told
delivered (End ∷ told) = delivered told

abbrev pub has_end : List Told → Bool
has_end [] = false
has_end (Deliver bytes ∷ told) = has_end told
has_end (End ∷ told) = true

abbrev pub IsPrefixOf : List ℕ → List ℕ → Type 0
IsPrefixOf xs ys = (rest : List ℕ) × (xs ++ rest ≡ ys)

-- a whole transfer: all is written and closed, and comes in one segment
abbrev pub transfer : List ℕ → List Event
transfer bytes = Write bytes ∷ Close ∷ Send (record { seq = 1; syn = false; fin = true; bytes = bytes }) ∷ Comes 0 ∷ []
