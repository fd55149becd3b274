-- The command line: its first word is the command, and each other word a setting, `key=value`.
use Rattle.std.specs.Prelude.{ℕ, ◌+◌, ◌==◌, ◌&&◌, ◌≤◌, nat_lt, not, Bool, true, false, if◌then◌else◌, List, [], ◌∷◌, codes, Option, Some, None, option_map, is_some, unwrap_or, Result, Ok, Err}
use Rattle.std.specs.List.{after_first, before_first, list_any}
use Rattle.std.specs.Str.{all_ascii_digits, bytes_eq}
use Rattle.std.specs.Str.Parse.{digits_value}
use Rattle.command_words.specs.declared.command.Command.{Command}
use Rattle.command_words.specs.declared.command.Command.TheVariants.{Run, Check, Demo, Show}
use Rattle.command_words.specs.declared.command.Settings.{Settings}
use Rattle.command_words.specs.declared.command.Partition.{Partition}
use Rattle.command_words.specs.declared.command.Partition.TheVariants.{One, File, Auto}
use Rattle.command_words.specs.declared.command.Verb.{Verb}
use Rattle.command_words.specs.declared.command.Verb.TheVariants as verb
use Rattle.command_words.specs.declared.setting.Key.{Key}
use Rattle.command_words.specs.declared.setting.Key.TheVariants as key
use Rattle.command_words.specs.declared.setting.Given.{Given}
use Rattle.command_words.specs.declared.command.WordFault.{WordFault}
use Rattle.command_words.specs.declared.command.WordCode.{WordCode}
use Rattle.command_words.specs.declared.command.WordCode.TheVariants.{NoCommand, UnknownCommand, NoValue, UnknownKey, Repeat, BadValue, MissingKey}

abbrev pub refuse : {A : Type 0} → ℕ → WordCode → Result A WordFault
refuse place code = Err (record { place = place; code = code })

-- ---- the values of settings

-- decimal digits without a sign or a leading zero
abbrev pub is_number : List ℕ → Bool
is_number [] = false
is_number (digit ∷ digits) = not (digit == 48) && all_ascii_digits (digit ∷ digits)

abbrev pub is_from_one_to : ℕ → ℕ → Bool
is_from_one_to most n = nat_lt 0 n && not (nat_lt most n)

-- the number from 1 to a most one that a text writes
abbrev pub number_up_to : ℕ → List ℕ → Option ℕ
number_up_to most text =
    if is_number text && is_from_one_to most (digits_value 10 text) then Some (digits_value 10 text) else None

abbrev pub partition_named : List ℕ → Option Partition
partition_named text =
    if bytes_eq text (codes "one") then Some One else if bytes_eq text (codes "file") then Some File
    else if bytes_eq text (codes "auto") then Some Auto else None

abbrev pub answer_named : List ℕ → Option Bool
answer_named text = if bytes_eq text (codes "yes") then Some true else if bytes_eq text (codes "no") then Some false else None

-- ---- the keys

-- the key of a run that a text names
abbrev pub run_key : List ℕ → Option Key
run_key text =
    if bytes_eq text (codes "workers") then Some key.Workers else if bytes_eq text (codes "partition") then Some key.Partition
    else if bytes_eq text (codes "report") then Some key.Report else None

-- the key that a text names, of those that a command has
abbrev pub key_of : Verb → List ℕ → Option Key
key_of verb.Run text = run_key text
key_of verb.Check text = None
key_of verb.Demo text = if bytes_eq text (codes "n") then Some key.N else run_key text
key_of verb.Show text = None

-- nothing is set yet
abbrev pub nothing : Given
nothing = record { n = None; workers = None; partition = None; report = None }

abbrev pub is_given : Key → Given → Bool
is_given key.N given = is_some given.n
is_given key.Workers given = is_some given.workers
is_given key.Partition given = is_some given.partition
is_given key.Report given = is_some given.report

-- a key is set to the value that a text spells, if it spells one
abbrev pub with_value : Key → List ℕ → Given → Option Given
with_value key.N text given = option_map (λ n. record given { n = Some n }) (number_up_to 999 text)
with_value key.Workers text given = option_map (λ workers. record given { workers = Some workers }) (number_up_to 64 text)
with_value key.Partition text given = option_map (λ partition. record given { partition = Some partition }) (partition_named text)
with_value key.Report text given = option_map (λ report. record given { report = Some report }) (answer_named text)

-- ---- the words

-- a value that can't be read is refused
abbrev pub or_bad_value : Option Given → Result Given WordCode
or_bad_value None = Err BadValue
or_bad_value (Some given) = Ok given

-- a key that the command hasn't is refused, and one that was set before
abbrev pub with_key : Given → Option Key → List ℕ → Result Given WordCode
with_key given None text = Err UnknownKey
with_key given (Some key) text = if is_given key given then Err Repeat else or_bad_value (with_value key text given)

-- a word is a key and a value, cut at its first equals sign
abbrev pub with_setting : Verb → Given → List ℕ → Result Given WordCode
with_setting verb given word =
    if list_any (λ b. b == 61) word then with_key given (key_of verb (before_first (λ b. b == 61) word)) (after_first (λ b. b == 61) word)
    else Err NoValue

-- the settings, with defaults for what isn't set
abbrev pub settings_of : Given → Settings
settings_of given = record {
  workers = unwrap_or given.workers 1;
  partition = unwrap_or given.partition Auto;
  report = unwrap_or given.report false;
}

-- the demo needs its number; the place is the one behind the last word
abbrev pub demo_of_given : ℕ → Given → Option ℕ → Result Command WordFault
demo_of_given place given None = refuse place MissingKey
demo_of_given place given (Some n) = Ok (Demo n (settings_of given))

abbrev pub command_from : Verb → ℕ → Given → Result Command WordFault
command_from verb.Run place given = Ok (Run (settings_of given))
command_from verb.Check place given = Ok Check
command_from verb.Demo place given = demo_of_given place given given.n
command_from verb.Show place given = Ok Show

-- a word's fault, or what comes after the word
abbrev pub after_word : ℕ → Result Given WordCode → (Given → Result Command WordFault) → Result Command WordFault
after_word place (Err code) next = refuse place code
after_word place (Ok given) next = next given

-- the words behind the command, from this place on, where so much is set
abbrev pub with_settings : Verb → ℕ → Given → List (List ℕ) → Result Command WordFault
with_settings verb place given [] = command_from verb place given
with_settings verb place given (word ∷ words) =
    after_word place (with_setting verb given word) (λ later. with_settings verb (place + 1) later words)

-- the command that a word names
abbrev pub verb_named : List ℕ → Option Verb
verb_named word =
    if bytes_eq word (codes "run") then Some verb.Run else if bytes_eq word (codes "check") then Some verb.Check
    else if bytes_eq word (codes "demo") then Some verb.Demo else if bytes_eq word (codes "show") then Some verb.Show else None

-- the first word, where it names a command, and the words behind it
abbrev pub with_words : Option Verb → List (List ℕ) → Result Command WordFault
with_words None words = refuse 1 UnknownCommand
with_words (Some verb) words = with_settings verb 2 nothing words

-- the command, or the first fault
unfoldable pub command_of : List (List ℕ) → Result Command WordFault
command_of [] = refuse 1 NoCommand
command_of (word ∷ words) = with_words (verb_named word) words

-- ---- what holds of every command

-- a number from 1 to a most one
pub record IsUpTo (most n : ℕ) : Type 0 where
  pub some : 1 ≤ n
  pub few : n ≤ most

abbrev pub HaveWorkers : Settings → Type 0
HaveWorkers settings = IsUpTo 64 settings.workers

-- there are from 1 to 64 workers, and a demo's number is from 1 to 999
abbrev pub IsInRange : Command → Type 0
IsInRange (Run settings) = HaveWorkers settings
IsInRange Check = Unit {0}
IsInRange (Demo n settings) = IsUpTo 999 n × HaveWorkers settings
IsInRange Show = Unit {0}
