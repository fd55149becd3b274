-- Laws of the TCP header: what is read is what the function of the bytes gives, and what was written is read again.
use Rattle.std.proofs.Common.{ℕ, ◌≡◌, ◌+◌, ◌*◌, ◌/◌, ◌^◌, ◌<◌, ◌≤◌, Bool, true, false, Option, None, Some, List, [], ◌∷◌, ◌++◌, length, take, drop, refl, sym, ap, ◌∙◌, arith, ⊎_elim, length-append}
use Rattle.std.specs.Prelude.{Result, Ok, Err, MatchResult, IfSome, ◌&&◌, nat_le}
use Rattle.std.specs.Result.{result_ok}
use Rattle.std.specs.List.{concat}
use Rattle.std.proofs.lemmas.Bool.{and_from, cond-true, cond-false}
use Rattle.std.proofs.lemmas.Bool.Decides.{nat_tests}
use Rattle.std.proofs.lemmas.List.{drop-drop}
use Rattle.byteorder.specs.Endian.{big_bytes}
use Rattle.byteorder.specs.Numbers.{big_number-reads_back}
use Rattle.header_forms.specs.declared.bad.Bad.{Bad}
use Rattle.header_forms.specs.declared.bad.Bad.TheVariants.{Short, Version, Length, Checksum}
use Rattle.header_forms.specs.declared.tcp.Tcp.{Tcp}
use Rattle.header_forms.specs.Fields.{field}
use Rattle.header_forms.specs.TcpOptions.{options_from}
use Rattle.header_forms.specs.Tcp.{mss_option, written_size, size_byte, tcp_with, tcp_bytes, IsTcp, size_field, options_of, tcp_fields, ReadsTcp, BreaksTcp, FitsTcp, holds_tcp, tcp_given, tcp_of}
use Rattle.header_forms.proofs.FieldLaws.{AreSpelled, first_field, behind_field}

le_true : (a b : ℕ) → a ≤ b → nat_le a b ≡ true
le_true a b h = grind (arith, nat_tests)

le_false : (a b : ℕ) → b < a → nat_le a b ≡ false
le_false a b h = grind (arith, nat_tests)

and_no : (a b : Bool) → b ≡ false → (a && b) ≡ false
and_no true b h = h
and_no false b h = refl

-- a header that is read is the one that the function gives
pub tcp_of-reads : (h : Tcp) (bytes rest : List ℕ) → ReadsTcp h bytes rest → tcp_of bytes ≡ Some h
unfolding tcp_of
tcp_of-reads h bytes rest reads =
    let holds : holds_tcp bytes ≡ true =
    and_from (nat_le 20 (length bytes)) _ (le_true 20 (length bytes) (omega (arith, reads.long_enough, reads.inside)))
    (and_from (nat_le 20 (size_field bytes)) _ (le_true 20 (size_field bytes) (omega (arith, reads.long_enough, reads.size)))
    (le_true (size_field bytes) (length bytes) (omega (arith, reads.size, reads.inside)))) in
    cond-true (holds_tcp bytes) (tcp_given (size_field bytes) bytes (options_of (size_field bytes) bytes)) None holds
    ∙ ap (λ n. tcp_given n bytes (options_of n bytes)) (sym reads.size)
    ∙ ap (tcp_given h.size bytes) reads.options ∙ ap (λ (g : Tcp). Some g) (sym reads.fields)

holds_not : (bytes : List ℕ) → holds_tcp bytes ≡ false → tcp_of bytes ≡ None
unfolding tcp_of
holds_not bytes lacks =
    cond-false (holds_tcp bytes) (tcp_given (size_field bytes) bytes (options_of (size_field bytes) bytes)) None lacks

too_short : (bytes : List ℕ) → length bytes < 20 → tcp_of bytes ≡ None
too_short bytes short = holds_not bytes (ap (λ b. b && (nat_le 20 (size_field bytes) && nat_le (size_field bytes) (length bytes))) (le_false 20 (length bytes) short))

cut_off : (bytes : List ℕ) → length bytes < size_field bytes → tcp_of bytes ≡ None
cut_off bytes short =
    holds_not bytes
    (and_no (nat_le 20 (length bytes)) _ (and_no (nat_le 20 (size_field bytes)) _ (le_false (size_field bytes) (length bytes) short)))

small_size : (bytes : List ℕ) → size_field bytes < 20 → tcp_of bytes ≡ None
small_size bytes small =
    holds_not bytes
    (and_no (nat_le 20 (length bytes)) _ (ap (λ b. b && nat_le (size_field bytes) (length bytes)) (le_false 20 (size_field bytes) small)))

wrong_option : (bytes : List ℕ) (found : ℕ) → 20 ≤ length bytes → 20 ≤ size_field bytes → size_field bytes ≤ length bytes → options_of (size_field bytes) bytes ≡ Err found → tcp_of bytes ≡ None
unfolding tcp_of
wrong_option bytes found long size inside wrong =
    let holds : holds_tcp bytes ≡ true =
    and_from (nat_le 20 (length bytes)) _ (le_true 20 (length bytes) long)
    (and_from (nat_le 20 (size_field bytes)) _ (le_true 20 (size_field bytes) size) (le_true (size_field bytes) (length bytes) inside)) in
    cond-true (holds_tcp bytes) (tcp_given (size_field bytes) bytes (options_of (size_field bytes) bytes)) None holds
    ∙ ap (tcp_given (size_field bytes) bytes) wrong

-- bytes that are broken give none
tcp_of-breaks : (bad : Bad) (bytes : List ℕ) → BreaksTcp bad bytes → tcp_of bytes ≡ None
tcp_of-breaks (Short have) bytes breaks =
    ⊎_elim (λ (short : length bytes < 20). too_short bytes short)
    (λ (cut : (20 ≤ size_field bytes) × (length bytes < size_field bytes)). cut_off bytes cut.1) breaks.1
tcp_of-breaks (Version byte) bytes breaks = absurd breaks
tcp_of-breaks (Length found) bytes breaks =
    ⊎_elim
    (λ (small : (found ≡ field 12 1 bytes / 16) × (found < 5)). small_size bytes (omega (arith, small.0, small.1)))
    (λ (wrong : (20 ≤ size_field bytes) × (size_field bytes ≤ length bytes) × (options_of (size_field bytes) bytes ≡ Err found)).
    wrong_option bytes found breaks.0 wrong.0 wrong.1 wrong.2)
    breaks.1
tcp_of-breaks (Checksum found right) bytes breaks = absurd breaks

pub tcp_value : (result : Result Tcp Bad) (bytes : List ℕ) → MatchResult result (λ h. ReadsTcp h bytes (drop h.size bytes)) (λ bad. BreaksTcp bad bytes) → result_ok result ≡ tcp_of bytes
tcp_value (Ok h) bytes reads = sym (tcp_of-reads h bytes (drop h.size bytes) reads)
tcp_value (Err bad) bytes breaks = sym (tcp_of-breaks bad bytes breaks)

pub tcp_exact : (result : Result Tcp Bad) (bytes : List ℕ) → result_ok result ≡ tcp_of bytes → (h : Tcp) (rest : List ℕ) → ReadsTcp h bytes rest → result ≡ Ok h
tcp_exact (Ok g) bytes value h rest reads = let same : Some g ≡ Some h = value ∙ tcp_of-reads h bytes rest reads in cc
tcp_exact (Err bad) bytes value h rest reads = let same : None ≡ Some h = value ∙ tcp_of-reads h bytes rest reads in absurd (cc)

-- what was written is read again

size_written : (mss : Option ℕ) → 4 * (size_byte mss / 16) ≡ written_size mss
size_written None = refl
size_written (Some mss) = refl

size_byte-lt : (mss : Option ℕ) → size_byte mss < 256 ^ 1
size_byte-lt None = omega arith
size_byte-lt (Some mss) = omega arith

written_size-le : (mss : Option ℕ) → 20 ≤ written_size mss
written_size-le None = omega arith
written_size-le (Some mss) = omega arith

length-mss_option : (mss : Option ℕ) → 20 + length (concat (mss_option mss)) ≡ written_size mss
length-mss_option None = refl
length-mss_option (Some mss) = refl

options_written : (mss : Option ℕ) (bytes rest : List ℕ) → IfSome mss (λ n. n < 2 ^ 16) → drop 20 bytes ≡ concat (mss_option mss) ++ rest → options_of (written_size mss) bytes ≡ Ok mss
unfolding options_from
options_written None bytes rest fits at = refl
options_written (Some mss) bytes rest fits at =
    ap (λ xs. options_from 0 None (take 4 xs)) at ∙ ap (λ n. Ok (Some n)) (big_number-reads_back 2 mss [] fits)

behind_written : (mss : Option ℕ) (bytes rest : List ℕ) → drop 20 bytes ≡ concat (mss_option mss) ++ rest → rest ≡ drop (written_size mss) bytes
behind_written None bytes rest at = sym at
behind_written (Some mss) bytes rest at = sym (sym (drop-drop 4 20 bytes) ∙ ap (drop 4) at)

length-tcp_with : (size : ℕ) (mss : Option ℕ) (h : Tcp) → length (tcp_with size mss h) ≡ written_size mss
length-tcp_with size None h = refl
length-tcp_with size (Some mss) h = refl

pub length-tcp_bytes : (h : Tcp) → length (tcp_bytes h) ≡ written_size h.mss
unfolding tcp_bytes
length-tcp_bytes h = length-tcp_with (size_byte h.mss) h.mss h

same_tcp : (g h : Tcp) → g.sport ≡ h.sport → g.dport ≡ h.dport → g.seq ≡ h.seq → g.ack ≡ h.ack → g.flags ≡ h.flags → g.window ≡ h.window → g.checksum ≡ h.checksum → g.mss ≡ h.mss → g.size ≡ h.size → g ≡ h
same_tcp g h sport dport seq ack flags window checksum mss size =
    ap (λ (x : ℕ). record g { sport = x }) sport
    ∙ ap (λ (x : ℕ). record g { sport = h.sport; dport = x }) dport
    ∙ ap (λ (x : ℕ). record g { sport = h.sport; dport = h.dport; seq = x }) seq
    ∙ ap (λ (x : ℕ). record g { sport = h.sport; dport = h.dport; seq = h.seq; ack = x }) ack
    ∙ ap (λ (x : ℕ). record h { flags = x; window = g.window; checksum = g.checksum; mss = g.mss; size = g.size }) flags
    ∙ ap (λ (x : ℕ). record h { window = x; checksum = g.checksum; mss = g.mss; size = g.size }) window
    ∙ ap (λ (x : ℕ). record h { checksum = x; mss = g.mss; size = g.size }) checksum
    ∙ ap (λ (x : Option ℕ). record h { mss = x; size = g.size }) mss
    ∙ ap (λ (x : ℕ). record h { size = x }) size

pub tcp_again : (h : Tcp) (bytes rest : List ℕ) → FitsTcp h → IsTcp h bytes rest → ReadsTcp h bytes rest
unfolding tcp_bytes
tcp_again h bytes rest fits is =
    let mss = h.mss in
    let from0 : AreSpelled rest 0 bytes (big_bytes 2 h.sport ∷ big_bytes 2 h.dport ∷ big_bytes 4 h.seq ∷ big_bytes 4 h.ack ∷ big_bytes 1 (size_byte mss)
    ∷ big_bytes 1 h.flags ∷ big_bytes 2 h.window ∷ big_bytes 2 h.checksum ∷ big_bytes 2 0 ∷ mss_option mss) = record { spelled = is.spelled } in
    let from2 = behind_field 0 2 h.sport bytes from0 in
    let from4 = behind_field 2 2 h.dport bytes from2 in
    let from8 = behind_field 4 4 h.seq bytes from4 in
    let from12 = behind_field 8 4 h.ack bytes from8 in
    let from13 = behind_field 12 1 (size_byte mss) bytes from12 in
    let from14 = behind_field 13 1 h.flags bytes from13 in
    let from16 = behind_field 14 2 h.window bytes from14 in
    let from18 = behind_field 16 2 h.checksum bytes from16 in
    let from20 = behind_field 18 2 0 bytes from18 in
    let size : size_field bytes ≡ written_size mss =
    ap (λ (n : ℕ). 4 * (n / 16)) (first_field 12 1 (size_byte mss) bytes (size_byte-lt mss) from12) ∙ size_written mss in
    let total : length bytes ≡ length (tcp_with (size_byte mss) mss h) + length rest =
    ap length is.spelled ∙ length-append (tcp_with (size_byte mss) mss h) rest in
    let long = length-tcp_with (size_byte mss) mss h in
    record {
      fields =
          same_tcp h (tcp_fields h.size mss bytes)
          (sym (first_field 0 2 h.sport bytes fits.sport from0)) (sym (first_field 2 2 h.dport bytes fits.dport from2))
          (sym (first_field 4 4 h.seq bytes fits.seq from4)) (sym (first_field 8 4 h.ack bytes fits.ack from8))
          (sym (first_field 13 1 h.flags bytes fits.flags from13)) (sym (first_field 14 2 h.window bytes fits.window from14))
          (sym (first_field 16 2 h.checksum bytes fits.checksum from16)) refl refl;
      size = is.size ∙ sym size;
      long_enough = omega (arith, is.size, written_size-le mss);
      inside = omega (arith, is.size, total, long);
      options = ap (λ (n : ℕ). options_of n bytes) is.size ∙ options_written mss bytes rest fits.mss from20.spelled;
      behind = behind_written mss bytes rest from20.spelled ∙ ap (λ (n : ℕ). drop n bytes) (sym is.size);
    }
