-- What a run writes of its lines: the files, and which of them a line goes to.
use Rattle.std.specs.Prelude.{ℕ, ◌≡◌, suc, Bool, true, false, not, ◌&&◌, if◌then◌else◌, List, [], ◌∷◌, ◌++◌, map, codes, Option, None, Some, option_map}
use Rattle.std.specs.List.{AllByRecursion, flat_map}
use Rattle.sim_base.specs.Packet.{Packet}
use Rattle.pkt_face.specs.declared.line.Line.{Line}
use Rattle.pkt_face.specs.declared.line.Sign.{Sign}
use Rattle.outside.specs.declared.store.File.{File}
use Rattle.pcap_form.specs.Capture.{capture_head, captured_packet}
use Rattle.ascii_trace.specs.Text.{line_text}
use Rattle.scenario_form.specs.declared.scenario.Scenario.{Scenario}
use Rattle.sim_run.specs.declared.traces.Trace.{Trace}
use Rattle.sim_run.specs.declared.traces.Trace.TheVariants.{Packets, Text}
use Rattle.sim_run.specs.Captures.{capture_name, captures_of, is_of, is_save, saved_packet}

-- ---- the files

abbrev pub trace_name : Trace → List ℕ
trace_name (Packets c) = capture_name c
trace_name Text = codes "trace.tr"

-- what stands in a file before the first line
abbrev pub trace_head : Trace → List ℕ
trace_head (Packets c) = capture_head c.linktype
trace_head Text = []

-- what a line writes: to a capture the packet that it saves there, and to the text trace its text, where it saves none
abbrev pub written_by : Trace → Line Packet → List ℕ
written_by (Packets c) line = saved_packet c line
written_by Text line = line_text line

-- what lines write, in their order
abbrev pub written : Trace → List (Line Packet) → List ℕ
written t lines = flat_map (written_by t) lines

-- a file: the head, and then what the lines write
abbrev pub trace_file : List (Line Packet) → Trace → File
trace_file lines t = record { name = trace_name t; bytes = trace_head t ++ written t lines }

-- a file for each trace
abbrev pub trace_files : List Trace → List (Line Packet) → List File
trace_files traces lines = map (trace_file lines) traces

-- the text trace, where it is asked for
abbrev pub text_traces : Bool → List Trace
text_traces asked = if asked then Text ∷ [] else []

-- the traces of a scenario: its captures, and then the text
abbrev pub traces_of : Scenario → List Trace
traces_of s = map Packets (captures_of s) ++ text_traces s.ascii

-- the files of a run with these lines
abbrev pub run_files : Scenario → List (Line Packet) → List File
run_files s lines = trace_files (traces_of s) lines

-- ---- the way of a line

-- whether a line with this sign, of this interface, goes to a trace
abbrev pub goes_to : Sign → ℕ → ℕ → Trace → Bool
goes_to sign node iface (Packets c) = is_save sign && is_of node iface c
goes_to sign node iface Text = not (is_save sign)

-- what a line writes to the trace that it goes to
abbrev pub line_bytes : Line Packet → List ℕ
line_bytes l = if is_save l.sign then captured_packet l.key.time.0 l.packet.bytes else line_text l

-- which of the traces a line goes to
abbrev pub place_for : Sign → ℕ → ℕ → List Trace → Option ℕ
place_for sign node iface [] = None
place_for sign node iface (t ∷ traces) = if goes_to sign node iface t then Some 0 else option_map suc (place_for sign node iface traces)

-- no line that goes to the one goes to the other
abbrev pub LeavesLinesTo : Trace → Trace → Type 0
LeavesLinesTo t other = (sign : Sign) (node iface : ℕ) → goes_to sign node iface t ≡ true → goes_to sign node iface other ≡ false

-- no line goes to two traces
abbrev pub HaveOwnLines : List Trace → Type 0
HaveOwnLines [] = Unit {0}
HaveOwnLines (t ∷ traces) = AllByRecursion (LeavesLinesTo t) traces × HaveOwnLines traces

-- no two traces have files of one name
abbrev pub HaveOwnNames : List Trace → Type 0
HaveOwnNames [] = Unit {0}
HaveOwnNames (t ∷ traces) = AllByRecursion (λ other. trace_name other ≡ trace_name t → ⊥) traces × HaveOwnNames traces
