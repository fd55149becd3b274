-- How maps of interfaces stand for the places of traces.
use Rattle.std.specs.Prelude.{◌≡◌, ℕ, Bool, nat_eq, ◌&&◌, if◌then◌else◌, List, length, Option, Vec}
use Rattle.std.specs.HashMap.{get}
use Rattle.std.specs.declared.alloc.Global.{Global}
use Rattle.pkt_face.specs.declared.line.Sign.{Sign}
use Rattle.sim_run.specs.declared.places.Places.{Places}
use Rattle.sim_run.specs.declared.traces.Trace.{Trace}
use Rattle.sim_run.specs.Captures.{is_save}
use Rattle.sim_run.specs.Traces.{HaveOwnLines, place_for}

-- a piece, as the code has it
abbrev pub Piece : Type 0
Piece = Vec ℕ Global

-- whether two pairs of a node and an interface are the same
abbrev pub same_interface : ℕ × ℕ → ℕ × ℕ → Bool
same_interface a b = nat_eq a.0 b.0 && nat_eq a.1 b.1

-- what is noted for a line
abbrev pub noted : Places → Sign → ℕ → ℕ → Option ℕ
noted places sign node iface = if is_save sign then get same_interface places.captured (node, iface) else places.text

-- for each line the place of the trace that it goes to is noted
abbrev pub FindsPlaces : Places → List Trace → Type 0
FindsPlaces places traces = (sign : Sign) (node iface : ℕ) → noted places sign node iface ≡ place_for sign node iface traces

-- no line goes to two traces, the place of each is noted, and each has a piece
pub record HasPlaces (traces : List Trace) (places : Places) (pieces : List Piece) : Type 0 where
  pub own : HaveOwnLines traces
  pub found : FindsPlaces places traces
  pub count : length pieces ≡ length traces
