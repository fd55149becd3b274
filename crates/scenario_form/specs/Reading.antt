-- The scenario of bytes, or the first refusal.
use Rattle.std.specs.Prelude.{ℕ, ◌+◌, nat_lt, if◌then◌else◌, List, length, Option, Some, None, Result, Ok, Err}
use Rattle.std.specs.Str.{is_utf8}
use Rattle.toml.specs.Data.{Members}
use Rattle.toml.specs.Parse.{parse_document}
use Rattle.scenario_form.specs.declared.scenario.Scenario.{Scenario}
use Rattle.scenario_form.specs.declared.refusal.Refusal.{Refusal}
use Rattle.scenario_form.specs.declared.refusal.Refusal.TheVariants.{TooLong, NotToml}
use Rattle.scenario_form.specs.Checks.{◌>>◌}
use Rattle.scenario_form.specs.Walk.{scenario_in, walk_check}
use Rattle.scenario_form.specs.Across.{across_check}
use Rattle.scenario_form.specs.Groups.{groups_check}

-- the scenario of a document: its tables pass the walk, then the checks over all of them, and then that of its groups
abbrev pub reading : Members → Result Scenario Refusal
reading t = walk_check t >> (across_check (scenario_in t) >> (groups_check (scenario_in t) >> Ok (scenario_in t)))

-- no scenario is longer
abbrev pub scenario_limit : ℕ
scenario_limit = 16777216

-- the document of bytes that are text
unfoldable pub document_of : List ℕ → Option Members
document_of bytes = if is_utf8 bytes then parse_document bytes else None

-- bytes that are no document are not TOML
abbrev pub read_document : Option Members → Result Scenario Refusal
read_document None = Err NotToml
read_document (Some t) = reading t

-- the scenario of bytes, or the first refusal
unfoldable pub scenario_of : List ℕ → Result Scenario Refusal
scenario_of bytes =
    if nat_lt scenario_limit (length bytes) then Err (TooLong (scenario_limit + 1)) else read_document (document_of bytes)
