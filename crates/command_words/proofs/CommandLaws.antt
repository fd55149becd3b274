-- The settings of every command are in range.
use Rattle.std.proofs.Common.{◌≡◌, ℕ, ◌+◌, ◌≤◌, ◌<◌, ◌&&◌, ◌==◌, nat_lt, if◌then◌else◌, Bool, true, false, not, List, [], ◌∷◌, Option, Some, None, option_map, is_some, IfSome, IfOk, Result, Ok, Err, unwrap_or, refl, sym, ap, ◌∙◌, subst, arith}
use Rattle.std.specs.List.{after_first, before_first, list_any}
use Rattle.std.specs.Str.Parse.{digits_value}
use Rattle.command_words.specs.declared.command.Command.{Command}
use Rattle.command_words.specs.declared.command.Partition.{Partition}
use Rattle.command_words.specs.declared.command.WordCode.{WordCode}
use Rattle.command_words.specs.declared.command.WordCode.TheVariants.{NoValue, Repeat}
use Rattle.command_words.specs.declared.command.WordFault.{WordFault}
use Rattle.command_words.specs.declared.command.Verb.{Verb}
use Rattle.command_words.specs.declared.command.Verb.TheVariants as verb
use Rattle.command_words.specs.declared.setting.Given.{Given}
use Rattle.command_words.specs.declared.setting.Key.{Key}
use Rattle.command_words.specs.declared.setting.Key.TheVariants as key
use Rattle.command_words.specs.Command.{IsInRange, IsUpTo, after_word, demo_of_given, answer_named, command_from, command_of, is_from_one_to, is_given, is_number, key_of, nothing, number_up_to, or_bad_value, partition_named, verb_named, with_key, with_setting, with_settings, with_value, with_words}

-- what is set is in range
record AreInRange (given : Given) : Type 0 where
  n : IfSome given.n (IsUpTo 999)
  workers : IfSome given.workers (IsUpTo 64)

up_to : (most n : ℕ) → is_from_one_to most n ≡ true → IsUpTo most n
up_to most n h = let both : (1 ≤ n) × (n ≤ most) = grind arith in record { some = both.0; few = both.1 }

some-if : (a b : Bool) (most n found : ℕ) → b ≡ is_from_one_to most n → (if a && b then Some n else None) ≡ Some found → IsUpTo most found
some-if true true most n found is h = let same : n ≡ found = cc in subst (IsUpTo most) same (up_to most n (sym is))
some-if true false most n found is h = cc
some-if false b most n found is h = cc

number-range : (most : ℕ) (text : List ℕ) (found : ℕ) → number_up_to most text ≡ Some found → IsUpTo most found
number-range most text found h = some-if (is_number text) _ most (digits_value 10 text) found refl h

-- what is made of a value that is there
mapped : {A : Type 0} (f : A → Given) (P : Given → Type 0) (o : Option A) (later : Given) → ((a : A) → o ≡ Some a → P (f a)) → option_map f o ≡ Some later → P later
mapped f P None later each h = cc
mapped f P (Some a) later each h = let same : f a ≡ later = cc in subst P same (each a refl)

value-range : (k : Key) (text : List ℕ) (given later : Given) → AreInRange given → with_value k text given ≡ Some later → AreInRange later
value-range key.N text given later is h = mapped (λ (n : ℕ). record given { n = Some n }) AreInRange (number_up_to 999 text) later
    (λ n found. record { n = number-range 999 text n found; workers = is.workers }) h
value-range key.Workers text given later is h = mapped (λ (workers : ℕ). record given { workers = Some workers }) AreInRange (number_up_to 64 text) later
    (λ workers found. record { n = is.n; workers = number-range 64 text workers found }) h
value-range key.Partition text given later is h = mapped (λ (partition : Partition). record given { partition = Some partition }) AreInRange (partition_named text) later (λ partition found. record { n = is.n; workers = is.workers }) h
value-range key.Report text given later is h = mapped (λ (report : Bool). record given { report = Some report }) AreInRange (answer_named text) later (λ report found. record { n = is.n; workers = is.workers }) h

read-range : (o : Option Given) (later : Given) → ((given : Given) → o ≡ Some given → AreInRange given) → or_bad_value o ≡ Ok later → AreInRange later
read-range None later each h = cc
read-range (Some given) later each h = let same : given ≡ later = cc in subst AreInRange same (each given refl)

unless-given : (b : Bool) (r : Result Given WordCode) (later : Given) → (if b then Err Repeat else r) ≡ Ok later → r ≡ Ok later
unless-given true r later h = cc
unless-given false r later h = h

key-range : (given : Given) (o : Option Key) (text : List ℕ) (later : Given) → AreInRange given → with_key given o text ≡ Ok later → AreInRange later
key-range given None text later is h = cc
key-range given (Some k) text later is h =
    read-range (with_value k text given) later (λ made found. value-range k text given made is found)
    (unless-given (is_given k given) (or_bad_value (with_value k text given)) later h)

where-equals : (b : Bool) (r : Result Given WordCode) (later : Given) → (if b then r else Err NoValue) ≡ Ok later → r ≡ Ok later
where-equals true r later h = h
where-equals false r later h = cc

setting-range : (v : Verb) (given : Given) (word : List ℕ) (later : Given) → AreInRange given → with_setting v given word ≡ Ok later → AreInRange later
setting-range v given word later is h =
    key-range given (key_of v (before_first (λ b. b == 61) word)) (after_first (λ b. b == 61) word) later is
    (where-equals (list_any (λ b. b == 61) word) _ later h)

workers-range : (o : Option ℕ) → IfSome o (IsUpTo 64) → IsUpTo 64 (unwrap_or o 1)
workers-range None is = record { some = omega arith; few = omega arith }
workers-range (Some workers) is = is

from-range : (v : Verb) (place : ℕ) (given : Given) → AreInRange given → IfOk (command_from v place given) IsInRange
from-range verb.Run place given is = workers-range given.workers is.workers
from-range verb.Check place given is = tt
from-range verb.Demo place given is = demo given.n is.n
  where
    demo : (o : Option ℕ) → IfSome o (IsUpTo 999) → IfOk (demo_of_given place given o) IsInRange
    demo None within = tt
    demo (Some n) within = (within, workers-range given.workers is.workers)
from-range verb.Show place given is = tt

-- a word, and the words behind it
next-range : (place : ℕ) (r : Result Given WordCode) (next : Given → Result Command WordFault)
    → ((later : Given) → r ≡ Ok later → IfOk (next later) IsInRange) → IfOk (after_word place r next) IsInRange
next-range place (Err code) next each = tt
next-range place (Ok later) next each = each later refl

settings-range : (v : Verb) (place : ℕ) (given : Given) (words : List (List ℕ)) → AreInRange given → IfOk (with_settings v place given words) IsInRange
settings-range v place given [] is = from-range v place given is
settings-range v place given (word ∷ words) is =
    next-range place (with_setting v given word) (λ later. with_settings v (place + 1) later words)
    (λ later found. settings-range v (place + 1) later words (setting-range v given word later is found))

named-range : (o : Option Verb) (words : List (List ℕ)) → IfOk (with_words o words) IsInRange
named-range None words = tt
named-range (Some v) words = settings-range v 2 nothing words (record { n = tt; workers = tt })

range : (words : List (List ℕ)) → IfOk (command_of words) IsInRange
unfolding command_of
range [] = tt
range (word ∷ words) = named-range (verb_named word) words

-- every command is in range
pub command-range : (words : List (List ℕ)) (r : Result Command WordFault) → r ≡ command_of words → IfOk r IsInRange
command-range words r is = subst (λ (q : Result Command WordFault). IfOk q IsInRange) (sym is) (range words)
