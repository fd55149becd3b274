-- The options behind the fixed part of a TCP header (RFC 9293, section 3.2): a byte 0 ends them, a byte 1 stands alone,
-- and any other is a kind, followed by the option's length and its data.
use Rattle.std.specs.Prelude.{ℕ, zero, suc, ◌+◌, ◌-◌, ◌==◌, ◌&&◌, ◌||◌, not, nat_le, Bool, if◌then◌else◌, Option, None, Some, Result, Ok, Err, List, [], ◌∷◌, length}
use Rattle.header_forms.specs.Fields.{field}

-- the length that stands behind an option's kind, or 0 where nothing stands there
abbrev pub option_size : List ℕ → ℕ
option_size later = field 0 1 later

-- an option of this kind may have the length that stands behind it: it covers kind and length, ends where the options
-- end or before, and is 4 for kind 2, the maximum segment size
abbrev pub has_right_size : ℕ → List ℕ → Bool
has_right_size kind later =
    nat_le 2 (option_size later) && (nat_le (option_size later) (length later + 1) && (not (kind == 2) || option_size later == 4))

-- the first option of kind 2 gives the maximum segment size
abbrev pub size_with : Option ℕ → ℕ → List ℕ → Option ℕ
size_with (Some mss) kind later = Some mss
size_with None kind later = if kind == 2 then Some (field 1 2 later) else None

-- the maximum segment size that options give, or the length of the first option that is wrong, where `skip` bytes belong
-- to an option before and `mss` was found already
unfoldable pub options_from : ℕ → Option ℕ → List ℕ → Result (Option ℕ) ℕ
options_from skip mss [] = Ok mss
options_from (suc skip) mss (byte ∷ later) = options_from skip mss later
options_from zero mss (kind ∷ later) =
    if kind == 0 then Ok mss else if kind == 1 then options_from 0 mss later
    else if has_right_size kind later then options_from (option_size later - 1) (size_with mss kind later) later
    else Err (option_size later)
