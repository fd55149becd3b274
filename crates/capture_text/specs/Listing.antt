-- The text of a capture: a line for its head, and a line for each packet.
use Rattle.std.specs.Prelude.{ℕ, Bool, true, false, List, ◌++◌, codes}
use Rattle.std.specs.Fmt.{decimal}
use Rattle.std.specs.List.{flat_map}
use Rattle.pcap_form.specs.declared.capture.Capture.{Capture}
use Rattle.pcap_form.specs.declared.capture.Captured.{Captured}
use Rattle.ascii_trace.specs.Numbers.{last_digits}

-- a big file has the highest byte of a number first
abbrev pub order_name : Bool → List ℕ
order_name true = codes "big"
order_name false = codes "little"

abbrev pub unit_name : Bool → List ℕ
unit_name true = codes "nanoseconds"
unit_name false = codes "microseconds"

unfoldable pub head_line : Capture → List ℕ
head_line c =
    order_name c.big ++ codes " " ++ unit_name c.nano ++ codes " linktype " ++ decimal c.linktype ++ codes " snaplen " ++ decimal c.snaplen
    ++ codes "\n"

-- a fraction of a second: a point, and nine digits for nanoseconds or six for microseconds
abbrev pub fraction_text : Bool → ℕ → List ℕ
fraction_text true fraction = codes "." ++ last_digits 9 fraction
fraction_text false fraction = codes "." ++ last_digits 6 fraction

-- how many bytes the file holds, and how many the packet had
abbrev pub sizes_text : Captured → List ℕ
sizes_text p = codes " " ++ decimal p.captured ++ codes " " ++ decimal p.original ++ codes "\n"

abbrev pub packet_line : Bool → Captured → List ℕ
packet_line nano p = decimal p.seconds ++ fraction_text nano p.fraction ++ sizes_text p

-- the text of a capture
abbrev pub listing : Capture → List ℕ
listing c = head_line c ++ flat_map (packet_line c.nano) c.packets
