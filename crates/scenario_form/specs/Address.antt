-- An address is four decimal numbers 0 to 255 without leading zeros, joined by dots.
use Rattle.std.specs.Prelude.{ℕ, zero, suc, ◌+◌, ◌-◌, ◌*◌, Bool, ◌&&◌, nat_le, ◌==◌, if◌then◌else◌, List, [], ◌∷◌, Option, Some, None, option_map, option_and_then}
use Rattle.std.specs.List.{before_first, after_first}

-- the decimal digits from a lowest one
abbrev pub is_digit_from : ℕ → ℕ → Bool
is_digit_from low c = nat_le (48 + low) c && nat_le c 57

abbrev pub digit : ℕ → ℕ
digit c = c - 48

-- a decimal number 0 to 255 without leading zeros
abbrev pub octet : List ℕ → Option ℕ
octet (a ∷ []) = if is_digit_from 0 a then Some (digit a) else None
octet (a ∷ b ∷ []) = if is_digit_from 1 a && is_digit_from 0 b then Some (10 * digit a + digit b) else None
octet (a ∷ b ∷ c ∷ []) =
    let n = 100 * digit a + 10 * digit b + digit c in
    if (is_digit_from 1 a && is_digit_from 0 b) && (is_digit_from 0 c && nat_le n 255) then Some n else None
octet _ = None

abbrev pub is_dot : ℕ → Bool
is_dot c = c == 46

-- the number that one more octet and those after it write, in base 256
abbrev pub octets : ℕ → ℕ → List ℕ → Option ℕ
octets zero above text = option_map (λ n. 256 * above + n) (octet text)
octets (suc more) above text =
    option_and_then (λ n. octets more (256 * above + n) (after_first is_dot text)) (octet (before_first is_dot text))

abbrev pub address : List ℕ → Option ℕ
address text = octets 3 0 text
