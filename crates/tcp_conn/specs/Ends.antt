-- Both ends of one connection, from the opener's first SYN to the removal of the sink: what their applications do, what
-- comes, and what the sink tells. A segment is lost where it never comes; it may come again, and in any order.
use Rattle.std.specs.Prelude.{ℕ, ◌==◌, ◌&&◌, not, Bool, if◌then◌else◌, List, [], ◌∷◌, ◌++◌, take, Option, None, Some}
use Rattle.std.specs.List.{slice_get}
use Rattle.tcp_stream.specs.History.{Told}
use Rattle.tcp_conn.specs.declared.words.Heard.{Heard}
use Rattle.tcp_conn.specs.declared.connection.Connection.{Connection}
use Rattle.tcp_conn.specs.Send.{Stepped, room}
use Rattle.tcp_conn.specs.Step.{hears, times_out}
use Rattle.tcp_conn.specs.Begin.{opening, heard_syn, writes, closes}
use Rattle.tcp_conn.specs.Following.{told_by}
use Rattle.tcp_conn.specs.OnItsWay.{OnItsWay, with_sent}

pub record Ends : Type 0 where
  pub opener : Connection
  pub written : List ℕ  -- what the opener's writes have taken
  pub sent : List OnItsWay  -- each segment that the opener ever sent
  pub sink : Option Connection  -- none before the first SYN comes
  pub told : List Told  -- what the sink has told its application

-- What may happen next. The opener may hear anything at all, and the sink whatever the opener has sent.
pub data Happening : Type 0 where
  Writes : (now : ℕ) (bytes : List ℕ) → Happening
  Closes : (now : ℕ) → Happening
  OpenerHears : (now : ℕ) (heard : Heard) (bytes : List ℕ) → Happening
  OpenerTimesOut : (now : ℕ) → Happening
  Comes : (now : ℕ) (which : ℕ) → Happening
  SinkTimesOut : (now : ℕ) → Happening

abbrev pub opener_steps : Ends → Stepped → Ends
opener_steps e s = record e { opener = s.now; sent = with_sent s.now s.effects e.sent }

-- a SYN without an acknowledgement makes the sink, and what comes then is heard by it
abbrev pub opens : OnItsWay → Bool
opens s = s.says.syn && (not s.says.has_ack && s.says.seq == 0)

abbrev pub sink_hears : ℕ → OnItsWay → Option Connection → Option Stepped
sink_hears now s None = if opens s then Some (heard_syn now) else None
sink_hears now s (Some c) = Some (hears now s.says s.bytes c)

abbrev pub sink_times_out : ℕ → Option Connection → Option Stepped
sink_times_out now None = None
sink_times_out now (Some c) = Some (times_out now c)

abbrev pub sink_steps : Ends → Option Stepped → Ends
sink_steps e None = e
sink_steps e (Some s) = record e { sink = Some s.now; told = e.told ++ told_by s.effects }

abbrev pub comes : ℕ → Ends → Option OnItsWay → Ends
comes now e None = e
comes now e (Some s) = sink_steps e (sink_hears now s e.sink)

abbrev pub happens : Ends → Happening → Ends
happens e (Writes now bytes) =
    opener_steps (record e { written = e.written ++ take (room e.opener) bytes }) (writes now bytes e.opener)
happens e (Closes now) = opener_steps e (closes now e.opener)
happens e (OpenerHears now heard bytes) = opener_steps e (hears now heard bytes e.opener)
happens e (OpenerTimesOut now) = opener_steps e (times_out now e.opener)
happens e (Comes now which) = comes now e (slice_get e.sent which)
happens e (SinkTimesOut now) = sink_steps e (sink_times_out now e.sink)

abbrev pub run : Ends → List Happening → Ends
run e [] = e
run e (h ∷ hs) = run (happens e h) hs

-- an opener has sent its SYN
abbrev pub opened : ℕ → ℕ → Ends
opened now mss =
    let s = opening now mss in
    record { opener = s.now; written = []; sent = with_sent s.now s.effects []; sink = None; told = [] }
