-- Bytes that are no text.
use Rattle.std.proofs.Common.{◌≡◌, ℕ, List, Bool, true, false, refl}
use Rattle.std.specs.Str.{IsUtf8, is_utf8}
use Rattle.std.proofs.lemmas.Str.{IsUtf8-from_is_utf8}

not_utf8_as : (bytes : List ℕ) (b : Bool) → (IsUtf8 bytes → ⊥) → is_utf8 bytes ≡ b → b ≡ false
not_utf8_as bytes true other is = absurd (other (IsUtf8-from_is_utf8 bytes is))
not_utf8_as bytes false other is = refl

pub not_utf8 : (bytes : List ℕ) → (IsUtf8 bytes → ⊥) → is_utf8 bytes ≡ false
not_utf8 bytes other = not_utf8_as bytes (is_utf8 bytes) other refl
