-- A capture that is shown is that of the whole input, as far as it is read.
use Rattle.std.proofs.Common.{◌≡◌, ℕ, ◌+◌, ◌≤◌, List, [], ◌++◌, length, take, Option, Some, None, Ok, Err, Result, refl, ap, sym, ◌∙◌, append-nil, subst, arith, IfSome, inl, inr}
use Rattle.std.proofs.lemmas.Bool.Decides.{leb_tells}
use Rattle.std.proofs.lemmas.List.{take_all, take_at}
use Rattle.outside.specs.declared.store.File.{File}
use Rattle.pcap_form.specs.declared.capture.Capture.{Capture as CaptureFile}
use Rattle.pcap_form.specs.CaptureFile.{file_limit}
use Rattle.pcap_form.specs.Reading.{capture_of}
use Rattle.sim_run.specs.declared.status.Status.{Status}
use Rattle.sim_run.specs.declared.status.Status.TheVariants.{Done, Words, Scenario as Refused, ReadFault, WriteFault, Limit, NoMemory, Capture}
use Rattle.sim_run.specs.Input.{HasReadAll}
use Rattle.sim_run.specs.Outcome.{Outcome}
use Rattle.sim_run.specs.Output.{HasFiles, HasFilePrefixes, HasGotPrefix}
use Rattle.sim_run.specs.Plain.{BeforeFiles}
use Rattle.sim_run.specs.Show.{shown, shown_of, taken}
use Rattle.sim_run.proofs.Outputs.{got-start}

taken-read : (input bytes : List ℕ) (now : Option (List ℕ)) → HasReadAll file_limit (Some input) bytes now → taken input ≡ bytes
taken-read input bytes now read =
    let (rest, whole, left) = read.read in
    elim (leb_tells (length bytes) file_limit) [
      | inl short ↦
          let ended : rest ≡ [] = rw left at (read.end short.1) in
          let all : input ≡ bytes = whole ∙ ap (λ xs. bytes ++ xs) ended ∙ append-nil bytes in
          ap (take (file_limit + 1)) all ∙ take_all (file_limit + 1) bytes (omega (arith, short.1))
      | inr long ↦
          ap (take (file_limit + 1)) whole ∙ take_at bytes rest (file_limit + 1) (omega (arith, long.1, read.bound))
    ]

-- what holds of what is shown of the bytes that were read holds of what is shown of the input, where it is told
pub on_capture : (left : Option (List ℕ)) (bytes : List ℕ) (now : Option (List ℕ)) (P : Outcome → Type 0)
    → HasReadAll file_limit left bytes now → P (shown (capture_of bytes)) → IfSome left (λ input. P (shown_of input))
on_capture None bytes now P read holds = tt
on_capture (Some input) bytes now P read holds =
    subst (λ bs. P (shown (capture_of bs))) (sym (taken-read input bytes now read)) holds

shown-files : (r : Result CaptureFile ℕ) → (shown r).files ≡ []
shown-files (Ok c) = refl
shown-files (Err place) = refl

no-files : (before : Option (List File)) → HasFiles before before []
no-files None = tt
no-files (Some files) = ap Some (sym (append-nil files))

same-files : (before : Option (List File)) (files : List File) → files ≡ [] → HasFiles before before files
same-files before files none = subst (HasFiles before before) (sym none) (no-files before)

-- nothing is made where a capture is shown
pub shown-makes_none : (left : Option (List ℕ)) (before : Option (List File)) (result : Status)
    → IfSome left (λ input. result ≡ (shown_of input).status → HasFiles before before (shown_of input).files)
shown-makes_none None before result = tt
shown-makes_none (Some input) before result = λ same. same-files before (shown_of input).files (shown-files (capture_of (taken input)))

pub shown-begins_none : (left : Option (List ℕ)) (before : Option (List File))
    → IfSome left (λ input. HasFilePrefixes before before (shown_of input).files)
shown-begins_none None before = tt
shown-begins_none (Some input) before = ([], tt, no-files before)

-- what wasn't touched beside the sink
pub untouched_both : {A B : Type 0} (result : Status) (a b : A) (c d : B) → a ≡ b → BeforeFiles result (c ≡ d) → BeforeFiles result ((a ≡ b) × (c ≡ d))
untouched_both (Words fault) a b c d same before = (same, before)
untouched_both (Refused refusal) a b c d same before = (same, before)
untouched_both ReadFault a b c d same before = (same, before)
untouched_both (Capture place) a b c d same before = (same, before)
untouched_both Done a b c d same before = tt
untouched_both WriteFault a b c d same before = tt
untouched_both (Limit node time) a b c d same before = tt
untouched_both NoMemory a b c d same before = tt

-- nothing was written
pub none-written : (got : Option (List ℕ)) (text : List ℕ) → HasGotPrefix got got text
none-written got text = ([], (text, refl), got-start got)
