use Rattle.pcap_form.specs.Reading.{capture_of}
use Rattle.pcap_form.proofs.ReadingLaws.{capture_read, every_read, none_has, read_spelled}
use Rattle.pcap_form.proofs.reader.read_capture.Goals as goal

pub returns-clause-read : goal.returns-clause-read
returns-clause-read c = read_spelled c.args.bytes.now c.read_limited.result c.type_inv.bytes c.read_limited.ensures

pub returns-clause-every : goal.returns-clause-every
returns-clause-every c =
    λ d is. every_read (capture_of c.args.bytes.now) c.read_limited.result d c.read_limited.ensures (capture_read c.args.bytes.now d is)

pub returns-clause-refused : goal.returns-clause-refused
returns-clause-refused c = λ offset e d is. none_has c.args.bytes.now c.read_limited.result offset c.read_limited.ensures e d is
