-- What is kept of the lines of a trace.
use Rattle.std.specs.Prelude.{◌≡◌, Bool, false, List, [], ◌++◌, map, refl}
use Rattle.sim_base.specs.Packet.{Packet}
use Rattle.pkt_face.specs.declared.line.Line.{Line}
use Rattle.trace_merge.specs.declared.kept.KeptLine.{KeptLine}
use Rattle.trace_merge.specs.declared.kept.KeptLines.{KeptLines}

-- a line with the bytes of its packet
abbrev pub kept_of : Line Packet → KeptLine
kept_of l =
    record { key = l.key; index = l.index; node = l.node; iface = l.iface; sign = l.sign; uid = l.packet.uid; bytes = l.packet.bytes }

-- the lines that are kept
abbrev pub lines_kept : KeptLines → List KeptLine
lines_kept kept = kept.lines.items

-- behind those that were kept first, these lines are kept now; where a put has failed, the first of them
pub record AreKept (failed : Bool) (first now : List KeptLine) (lines : List (Line Packet)) : Type 0 where
  pub rest : List KeptLine
  pub are : first ++ map kept_of lines ≡ now ++ rest
  pub whole : failed ≡ false → rest ≡ []

-- before the first put nothing is kept behind them
pub kept-none : (failed : Bool) (first : List KeptLine) → AreKept failed first first []
kept-none failed first = record { rest = []; are = refl; whole = λ going. refl }
