-- The command show: a capture that is read, and its listing.
use Rattle.std.specs.Prelude.{ℕ, ◌+◌, List, [], take, Result, Ok, Err}
use Rattle.pcap_form.specs.declared.capture.Capture.{Capture as CaptureFile}
use Rattle.pcap_form.specs.CaptureFile.{file_limit}
use Rattle.pcap_form.specs.Reading.{capture_of}
use Rattle.capture_text.specs.Listing.{listing}
use Rattle.sim_run.specs.declared.status.Status.TheVariants.{Done, Capture}
use Rattle.sim_run.specs.Outcome.{Outcome, refused}

-- a capture is told as text; bytes that are none are refused where they leave the format
abbrev pub shown : Result CaptureFile ℕ → Outcome
shown (Ok c) = record { status = Done; files = []; text = listing c }
shown (Err place) = refused (Capture place)

-- no more is read than one byte past what a capture may have
abbrev pub taken : List ℕ → List ℕ
taken input = take (file_limit + 1) input

-- what the whole input asks for
abbrev pub shown_of : List ℕ → Outcome
shown_of input = shown (capture_of (taken input))
