-- The lines of a trace on their way out.
use Rattle.std.specs.Prelude.{◌*◌, ◌^◌, ◌<◌}
use Rattle.pkt_face.specs.declared.line.Line.{Line}

-- a line whose time a capture file can hold
abbrev pub IsInTime : {P : Type 0} → Line P → Type 0
IsInTime l = l.key.time.0 < 2 ^ 32 * 10 ^ 9
