use Rattle.pcap_form.specs.Written.{file_bytes, capture_written}
use Rattle.pcap_form.proofs.ReadingLaws.{capture_read}
use Rattle.pcap_form.proofs.WrittenLaws.{capture_written-is}
use Rattle.pcap_form.proofs.laws.written_captures_are_files.Goals as goal

pub returns-clause-files : goal.returns-clause-files
returns-clause-files c = λ linktype packets small all short. capture_written-is linktype packets small all short

pub returns-clause-read : goal.returns-clause-read
returns-clause-read c =
    λ linktype packets small all short. capture_read (file_bytes linktype packets) (capture_written linktype packets) (capture_written-is linktype packets small all short)
