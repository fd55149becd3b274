-- The head of a file is read exactly where the bytes begin with one.
use Rattle.std.proofs.Common.{ℕ, ◌≡◌, ◌+◌, ◌<◌, ◌≤◌, Bool, true, false, List, ◌++◌, length, drop, get_or, refl, sym, ap, ◌∙◌, arith, subst}
use Rattle.std.specs.Prelude.{Option, Some, None, Result, Ok, Err, ◌==◌, nat_lt, if◌then◌else◌}
use Rattle.std.proofs.lemmas.Bool.{eqb-true, eq-eqb, le-ltb, ltb-false}
use Rattle.std.proofs.lemmas.List.{drop-drop, get_or-drop, length-drop}
use Rattle.pcap_form.specs.declared.reader.FileHead.{FileHead}
use Rattle.pcap_form.specs.declared.reader.Form.{Form}
use Rattle.pcap_form.specs.CaptureHead.{word, half, number, short_number, magic, HasHead}
use Rattle.pcap_form.specs.Reading.{form_named, formed, head_of, major_read, minor_read, fields_read, head_fields}
use Rattle.pcap_form.proofs.FieldLaws.{number-word, short_number-half, drop-word, drop-half, length-word, word-number, half-short_number, number-lt}

pub fits_behind : (n : ℕ) (bytes : List ℕ) → ((k : ℕ) → get_or bytes k 0 < 256) → (k : ℕ) → get_or (drop n bytes) k 0 < 256
fits_behind n bytes fits k = rw (get_or-drop n bytes k 0) (fits (n + k))

-- a test that is passed
pub passed : {A : Type 0} (t : Bool) (place : ℕ) (r : Result A ℕ) (v : A) → (if t then Err place else r) ≡ Ok v → (t ≡ false) × (r ≡ Ok v)
passed true place r v e = cc
passed false place r v e = (refl, e)

held : {A : Type 0} (t : Bool) (place : ℕ) (r : Result A ℕ) (v : A) → (if t then r else Err place) ≡ Ok v → (t ≡ true) × (r ≡ Ok v)
held true place r v e = (refl, e)
held false place r v e = cc

picked : (t : Bool) (n m : ℕ) (f form : Form) (r : Option Form) → (t ≡ true → n ≡ m) → word true m ≡ word f.big (magic f.nano) → (r ≡ Some form → word true n ≡ word form.big (magic form.nano)) → (if t then Some f else r) ≡ Some form → word true n ≡ word form.big (magic form.nano)
picked true n m f form r same spelled later e =
    let is : f ≡ form = cc in
    ap (word true) (same refl) ∙ spelled ∙ ap (λ (g : Form). word g.big (magic g.nano)) is
picked false n m f form r same spelled later e = later e

form_spelled : (n : ℕ) (form : Form) → form_named n ≡ Some form → word true n ≡ word form.big (magic form.nano)
unfolding form_named word
form_spelled n form e =
    picked (n == 0xa1b23c4d) n 0xa1b23c4d (record { big = true; nano = true }) form _ (eqb-true n 0xa1b23c4d) refl
    (picked (n == 0xa1b2c3d4) n 0xa1b2c3d4 (record { big = true; nano = false }) form _ (eqb-true n 0xa1b2c3d4) refl
    (picked (n == 0x4d3cb2a1) n 0x4d3cb2a1 (record { big = false; nano = true }) form _ (eqb-true n 0x4d3cb2a1) refl
    (picked (n == 0xd4c3b2a1) n 0xd4c3b2a1 (record { big = false; nano = false }) form None (eqb-true n 0xd4c3b2a1) refl
    (λ none. cc))))
    e

form_read : (big nano : Bool) (rest : List ℕ) → form_named (number true (word big (magic nano) ++ rest)) ≡ Some (record { big = big; nano = nano })
unfolding form_named number word
form_read true true rest = refl
form_read true false rest = refl
form_read false true rest = refl
form_read false false rest = refl

-- the number at a place, and the bytes behind it
pub word_at : (big : Bool) (bytes : List ℕ) (k : ℕ) → ((i : ℕ) → get_or bytes i 0 < 256) → k + 4 ≤ length bytes → drop k bytes ≡ word big (number big (drop k bytes)) ++ drop (k + 4) bytes
word_at big bytes k fits long =
    word-number big (drop k bytes) (fits_behind k bytes fits) (omega (arith, length-drop k bytes))
    ∙ ap (λ bs. word big (number big (drop k bytes)) ++ bs) (drop-drop 4 k bytes)

half_at : (big : Bool) (bytes : List ℕ) (k n : ℕ) → ((i : ℕ) → get_or bytes i 0 < 256) → k + 2 ≤ length bytes → short_number big (drop k bytes) ≡ n → drop k bytes ≡ half big n ++ drop (k + 2) bytes
half_at big bytes k n fits long is =
    half-short_number big (drop k bytes) (fits_behind k bytes fits) (omega (arith, length-drop k bytes))
    ∙ ap (λ m. half big m ++ drop 2 (drop k bytes)) is
    ∙ ap (λ bs. half big n ++ bs) (drop-drop 2 k bytes)

fields_spelled : (form : Form) (bytes : List ℕ) → ((i : ℕ) → get_or bytes i 0 < 256) → 24 ≤ length bytes → word true (number true bytes) ≡ word form.big (magic form.nano) → short_number form.big (drop 4 bytes) ≡ 2 → short_number form.big (drop 6 bytes) ≡ 4 → HasHead form.big form.nano (number form.big (drop 16 bytes)) (number form.big (drop 20 bytes)) bytes (drop 24 bytes)
fields_spelled form bytes fits long first major minor =
    let big = form.big in
    record {
      zone = number big (drop 8 bytes);
      accuracy = number big (drop 12 bytes);
      is =
          word-number true bytes fits (omega arith)
          ∙ ap (λ bs. bs ++ drop 4 bytes) first
          ∙ ap (λ bs. word big (magic form.nano) ++ bs)
          (half_at big bytes 4 2 fits (omega arith) major
          ∙ ap (λ bs. half big 2 ++ bs)
          (half_at big bytes 6 4 fits (omega arith) minor
          ∙ ap (λ bs. half big 4 ++ bs)
          (word_at big bytes 8 fits (omega arith)
          ∙ ap (λ bs. word big (number big (drop 8 bytes)) ++ bs)
          (word_at big bytes 12 fits (omega arith)
          ∙ ap (λ bs. word big (number big (drop 12 bytes)) ++ bs)
          (word_at big bytes 16 fits (omega arith)
          ∙ ap (λ bs. word big (number big (drop 16 bytes)) ++ bs) (word_at big bytes 20 fits (omega arith)))))));
      snaplen_fits = number-lt big (drop 16 bytes) (fits_behind 16 bytes fits);
      linktype_fits = number-lt big (drop 20 bytes) (fits_behind 20 bytes fits);
    }

major_spelled : (form : Form) (bytes : List ℕ) (head : FileHead) → ((i : ℕ) → get_or bytes i 0 < 256) → word true (number true bytes) ≡ word form.big (magic form.nano) → major_read form bytes ≡ Ok head → HasHead head.form.big head.form.nano head.snaplen head.linktype bytes (drop 24 bytes)
major_spelled form bytes head fits first e =
    let a = passed (nat_lt (length bytes) 6) (length bytes) (if short_number form.big (drop 4 bytes) == 2 then minor_read form bytes else Err 4) head e in
    let b = held (short_number form.big (drop 4 bytes) == 2) 4 (minor_read form bytes) head a.1 in
    let c = passed (nat_lt (length bytes) 8) (length bytes) (if short_number form.big (drop 6 bytes) == 4 then fields_read form bytes else Err 6) head b.1 in
    let d = held (short_number form.big (drop 6 bytes) == 4) 6 (fields_read form bytes) head c.1 in
    let f = passed (nat_lt (length bytes) 24) (length bytes) (Ok (head_fields form bytes)) head d.1 in
    let is : head_fields form bytes ≡ head = cc (f.1) in
    subst (λ (h : FileHead). HasHead h.form.big h.form.nano h.snaplen h.linktype bytes (drop 24 bytes)) is
    (fields_spelled form bytes fits (ltb-false (length bytes) 24 f.0) first (eqb-true _ 2 b.0) (eqb-true _ 4 d.0))

formed_spelled : (o : Option Form) (bytes : List ℕ) (head : FileHead) → ((i : ℕ) → get_or bytes i 0 < 256) → form_named (number true bytes) ≡ o → formed o bytes ≡ Ok head → HasHead head.form.big head.form.nano head.snaplen head.linktype bytes (drop 24 bytes)
formed_spelled None bytes head fits named e = cc
formed_spelled (Some form) bytes head fits named e = major_spelled form bytes head fits (form_spelled (number true bytes) form named) e

pub head_spelled : (bytes : List ℕ) (head : FileHead) → ((i : ℕ) → get_or bytes i 0 < 256) → head_of bytes ≡ Ok head → HasHead head.form.big head.form.nano head.snaplen head.linktype bytes (drop 24 bytes)
unfolding head_of
head_spelled bytes head fits e =
    let a = passed (nat_lt (length bytes) 4) (length bytes) (formed (form_named (number true bytes)) bytes) head e in
    formed_spelled (form_named (number true bytes)) bytes head fits refl a.1

-- the bytes behind a number at a place
pub behind_word : (big : Bool) (n k : ℕ) (bytes rest : List ℕ) → drop k bytes ≡ word big n ++ rest → drop (k + 4) bytes ≡ rest
behind_word big n k bytes rest is = sym (drop-drop 4 k bytes) ∙ ap (drop 4) is ∙ drop-word big n rest

behind_half : (big : Bool) (n k : ℕ) (bytes rest : List ℕ) → drop k bytes ≡ half big n ++ rest → drop (k + 2) bytes ≡ rest
behind_half big n k bytes rest is = sym (drop-drop 2 k bytes) ∙ ap (drop 2) is ∙ drop-half big n rest

pub record IsHeadRead (big nano : Bool) (snaplen linktype : ℕ) (bytes rest : List ℕ) : Type 0 where
  pub read : head_of bytes ≡ Ok (record { form = record { big = big; nano = nano }; snaplen = snaplen; linktype = linktype })
  pub rest_is : drop 24 bytes ≡ rest

pub head_read : (big nano : Bool) (snaplen linktype : ℕ) (bytes rest : List ℕ) → HasHead big nano snaplen linktype bytes rest → IsHeadRead big nano snaplen linktype bytes rest
unfolding head_of
head_read big nano snaplen linktype bytes rest h =
    let s6 = word big linktype ++ rest in
    let s5 = word big snaplen ++ s6 in
    let s4 = word big h.accuracy ++ s5 in
    let s3 = word big h.zone ++ s4 in
    let s2 = half big 4 ++ s3 in
    let s1 = half big 2 ++ s2 in
    let d4 : drop 4 bytes ≡ s1 = ap (drop 4) h.is ∙ drop-word big (magic nano) s1 in
    let d6 : drop 6 bytes ≡ s2 = behind_half big 2 4 bytes s2 d4 in
    let d8 : drop 8 bytes ≡ s3 = behind_half big 4 6 bytes s3 d6 in
    let d12 : drop 12 bytes ≡ s4 = behind_word big h.zone 8 bytes s4 d8 in
    let d16 : drop 16 bytes ≡ s5 = behind_word big h.accuracy 12 bytes s5 d12 in
    let d20 : drop 20 bytes ≡ s6 = behind_word big snaplen 16 bytes s6 d16 in
    let d24 : drop 24 bytes ≡ rest = behind_word big linktype 20 bytes rest d20 in
    let l20 : length (drop 20 bytes) ≡ 4 + length rest = ap length d20 ∙ length-word big linktype rest in
    let long : 24 ≤ length bytes = omega (arith, length-drop 20 bytes) in
    let t1 : nat_lt (length bytes) 4 ≡ false = le-ltb (length bytes) 4 (omega arith) in
    let t2 : form_named (number true bytes) ≡ Some (record { big = big; nano = nano }) = ap (λ bs. form_named (number true bs)) h.is ∙ form_read big nano s1 in
    let t3 : nat_lt (length bytes) 6 ≡ false = le-ltb (length bytes) 6 (omega arith) in
    let t4 : (short_number big (drop 4 bytes) == 2) ≡ true = eq-eqb _ 2 (ap (short_number big) d4 ∙ short_number-half big 2 s2 (omega arith)) in
    let t5 : nat_lt (length bytes) 8 ≡ false = le-ltb (length bytes) 8 (omega arith) in
    let t6 : (short_number big (drop 6 bytes) == 4) ≡ true = eq-eqb _ 4 (ap (short_number big) d6 ∙ short_number-half big 4 s3 (omega arith)) in
    let t7 : nat_lt (length bytes) 24 ≡ false = le-ltb (length bytes) 24 long in
    let n16 : number big (drop 16 bytes) ≡ snaplen = ap (number big) d16 ∙ number-word big snaplen s6 h.snaplen_fits in
    let n20 : number big (drop 20 bytes) ≡ linktype = ap (number big) d20 ∙ number-word big linktype rest h.linktype_fits in
    record { read = rw (t1, t2, t3, t4, t5, t6, t7, n16, n20); rest_is = d24 }
