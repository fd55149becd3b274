-- What lines write, line by line and put by put.
use Rattle.std.proofs.Common.{◌≡◌, ℕ, zero, suc, ◌+◌, ◌-◌, ◌<◌, Bool, true, false, not, List, [], ◌∷◌, ◌++◌, length, map, take, drop, get_or, slice_set, Option, Some, None, option_map, refl, ap, sym, ◌∙◌, subst, append_assoc, append-nil, arith, inl, inr}
use Rattle.std.proofs.lemmas.Bool.{cases_Bool}
use Rattle.std.proofs.lemmas.Grind.{flat_map-append}
use Rattle.std.proofs.lemmas.List.{map-append, take_more, take_all}
use Rattle.std.specs.List.{AllByRecursion}
use Rattle.sim_base.specs.declared.item.Item.{Item}
use Rattle.sim_base.specs.declared.numbers.Uid.{Uid}
use Rattle.sim_base.specs.Packet.{Packet, len}
use Rattle.pkt_face.specs.declared.line.Line.{Line}
use Rattle.pkt_face.specs.declared.line.Sign.{Sign}
use Rattle.pkt_face.specs.declared.line.Sign.TheVariants.{Enqueue, Dequeue, Drop, Receive, Save}
use Rattle.outside.specs.declared.store.File.{File}
use Rattle.pkt_face.specs.Seen.{plain_line}
use Rattle.pcap_form.specs.Capture.{captured_packet}
use Rattle.ascii_trace.specs.declared.entry.Entry.{Entry}
use Rattle.ascii_trace.specs.Text.{entry_of, entry_text, line_text}
use Rattle.sim_run.specs.declared.traces.Trace.{Trace}
use Rattle.sim_run.specs.declared.traces.Trace.TheVariants.{Packets, Text}
use Rattle.sim_run.specs.Captures.{is_of, is_save, saved_packet}
use Rattle.sim_run.specs.Traces.{HaveOwnLines, LeavesLinesTo, goes_to, line_bytes, place_for, written, written_by}
use Rattle.sim_run.specs.Pieces.{written_pieces, with_pieces, grown_from, HasGrownFrom, AreFronts, HasGrownByFronts, HaveWritten}
use Rattle.sim_run.specs.Grown.{whole_fronts}
use Rattle.sim_run.proofs.CaptureLaws.{all-map, found_nowhere}
use Rattle.sim_run.proofs.PieceLaws.{grown-none}
use Rattle.sim_run.proofs.TraceLaws.{both-true}

-- ---- one more line

written-append : (t : Trace) (before more : List (Line Packet)) → written t (before ++ more) ≡ written t before ++ written t more
written-append t before more = flat_map-append (written_by t) before more

written-push : (t : Trace) (lines : List (Line Packet)) (l : Line Packet) → written t (lines ++ l ∷ []) ≡ written t lines ++ written_by t l
written-push t lines l = written-append t lines (l ∷ []) ∙ ap (λ bytes. written t lines ++ bytes) (append-nil (written_by t l))

-- a line that writes nothing to a trace
written-same : (t : Trace) (lines : List (Line Packet)) (l : Line Packet) → written_by t l ≡ [] → written t (lines ++ l ∷ []) ≡ written t lines
written-same t lines l none = written-push t lines l ∙ ap (λ bytes. written t lines ++ bytes) none ∙ append-nil (written t lines)

pieces-same : (traces : List Trace) (lines : List (Line Packet)) (l : Line Packet) → AllByRecursion (λ t. written_by t l ≡ []) traces
    → written_pieces traces (lines ++ l ∷ []) ≡ written_pieces traces lines
pieces-same [] lines l none = refl
pieces-same (t ∷ traces) lines l none =
    ap (λ (bytes : List ℕ). bytes ∷ written_pieces traces (lines ++ l ∷ [])) (written-same t lines l none.0)
    ∙ ap (λ pieces. written t lines ∷ pieces) (pieces-same traces lines l none.1)

-- a saved packet has no text
text-none : (sign : Sign) (e : Entry) (items : List Item) → e.sign ≡ sign → not (is_save sign) ≡ false → entry_text e items ≡ []
text-none Enqueue e items is saved = cc
text-none Dequeue e items is saved = cc
text-none Drop e items is saved = cc
text-none Receive e items is saved = cc
text-none Save e items is saved = rw is refl

-- what a line writes to a trace that it doesn't go to, and to that to which it goes
written-other : (t : Trace) (l : Line Packet) → goes_to l.sign l.node.0 l.iface t ≡ false → written_by t l ≡ []
written-other (Packets c) l other = rw other refl
written-other Text l other = text-none l.sign (entry_of l) l.packet.items refl other

not-true : (b : Bool) → not b ≡ true → b ≡ false
not-true true e = cc
not-true false e = refl

written-own : (t : Trace) (l : Line Packet) → goes_to l.sign l.node.0 l.iface t ≡ true → written_by t l ≡ line_bytes l
written-own (Packets c) l own =
    let saved : is_save l.sign ≡ true = (both-true (is_save l.sign) (is_of l.node.0 l.iface c) own).0 in
    let here : saved_packet c l ≡ captured_packet l.key.time.0 l.packet.bytes = rw own refl in
    let bytes : line_bytes l ≡ captured_packet l.key.time.0 l.packet.bytes = rw saved refl in
    here ∙ sym bytes
written-own Text l own =
    let unsaved : is_save l.sign ≡ false = not-true (is_save l.sign) own in
    let bytes : line_bytes l ≡ line_text l = rw unsaved refl in
    sym bytes

found_none : (o : Option ℕ) → option_map suc o ≡ None → o ≡ None
found_none None e = refl
found_none (Some p) e = cc

none-written : (traces : List Trace) (l : Line Packet) → place_for l.sign l.node.0 l.iface traces ≡ None → AllByRecursion (λ t. written_by t l ≡ []) traces
none-written [] l nowhere = tt
none-written (t ∷ traces) l nowhere = elim (cases_Bool (goes_to l.sign l.node.0 l.iface t)) [
  | inl e ↦ absurd (found_nowhere 0 (rw e at nowhere))
  | inr e ↦ (written-other t l e, none-written traces l (found_none _ (rw e at nowhere)))
]

-- a line that goes to no trace
pieces-none : (traces : List Trace) (lines : List (Line Packet)) (l : Line Packet) → place_for l.sign l.node.0 l.iface traces ≡ None
    → written_pieces traces (lines ++ l ∷ []) ≡ written_pieces traces lines
pieces-none traces lines l none = pieces-same traces lines l (none-written traces l none)

-- a line that goes to a trace
pieces-some : (traces : List Trace) (lines : List (Line Packet)) (l : Line Packet) (place : ℕ) → HaveOwnLines traces
    → place_for l.sign l.node.0 l.iface traces ≡ Some place
    → written_pieces traces (lines ++ l ∷ [])
    ≡ slice_set (written_pieces traces lines) place (get_or (written_pieces traces lines) place [] ++ line_bytes l)
pieces-some [] lines l place own found = let none : None ≡ Some place = found in cc
pieces-some (t ∷ traces) lines l zero own found = elim (cases_Bool (goes_to l.sign l.node.0 l.iface t)) [
  | inl e ↦
      ap (λ (bytes : List ℕ). bytes ∷ written_pieces traces (lines ++ l ∷ []))
      (written-push t lines l ∙ ap (λ bytes. written t lines ++ bytes) (written-own t l e))
      ∙ ap (λ pieces. (written t lines ++ line_bytes l) ∷ pieces)
      (pieces-same traces lines l
      (all-map (LeavesLinesTo t) (λ other. written_by other l ≡ []) (λ other leaves. written-other other l (leaves l.sign l.node.0 l.iface e)) traces own.0))
  | inr e ↦ absurd (not_zero (place_for l.sign l.node.0 l.iface traces) (rw e at found))
]
  where
    not_zero : (o : Option ℕ) → option_map suc o ≡ Some 0 → ⊥
    not_zero None e = cc
    not_zero (Some p) e = cc
pieces-some (t ∷ traces) lines l (suc place) own found = elim (cases_Bool (goes_to l.sign l.node.0 l.iface t)) [
  | inl e ↦ let first : Some 0 ≡ Some (suc place) = rw e at found in cc
  | inr e ↦
      ap (λ (bytes : List ℕ). bytes ∷ written_pieces traces (lines ++ l ∷ [])) (written-same t lines l (written-other t l e))
      ∙ ap (λ pieces. written t lines ∷ pieces)
      (pieces-some traces lines l place own.1 (found_next (place_for l.sign l.node.0 l.iface traces) (rw e at found)))
]
  where
    found_next : (o : Option ℕ) → option_map suc o ≡ Some (suc place) → o ≡ Some place
    found_next None e = cc
    found_next (Some p) e = cc

-- the lines so far, and one more
lines-more : {P : Type 0} (plain : P → Packet) (lines : List (Line P)) (i : ℕ) (l : Line P) → i < length lines → l ≡ get_or lines i l
    → map (plain_line plain) (take (i + 1) lines) ≡ map (plain_line plain) (take i lines) ++ plain_line plain l ∷ []
lines-more plain lines i l within is =
    ap (map (plain_line plain)) (take_more lines i l within ∙ ap (λ x. take i lines ++ x ∷ []) (sym is))
    ∙ map-append (plain_line plain) (take i lines) (l ∷ [])

-- after a line that goes to no piece
pub line-none : {P : Type 0} (plain : P → Packet) (traces : List Trace) (lines : List (Line P)) (i : ℕ) (l : Line P) (pieces : List (List ℕ))
    → i < length lines → l ≡ get_or lines i l → pieces ≡ written_pieces traces (map (plain_line plain) (take i lines))
    → place_for l.sign l.node.0 l.iface traces ≡ None → pieces ≡ written_pieces traces (map (plain_line plain) (take (i + 1) lines))
line-none plain traces lines i l pieces within is so_far none =
    so_far ∙ sym (pieces-none traces (map (plain_line plain) (take i lines)) (plain_line plain l) none)
    ∙ ap (written_pieces traces) (sym (lines-more plain lines i l within is))

-- after a line that goes to a piece
pub line-some : {P : Type 0} (plain : P → Packet) (traces : List Trace) (lines : List (Line P)) (i : ℕ) (l : Line P) (place : ℕ)
    (bytes : List ℕ) (pieces new : List (List ℕ)) → i < length lines → l ≡ get_or lines i l → HaveOwnLines traces
    → pieces ≡ written_pieces traces (map (plain_line plain) (take i lines)) → place_for l.sign l.node.0 l.iface traces ≡ Some place
    → bytes ≡ line_bytes (plain_line plain l) → new ≡ slice_set pieces place (get_or pieces place [] ++ bytes)
    → new ≡ written_pieces traces (map (plain_line plain) (take (i + 1) lines))
line-some plain traces lines i l place bytes pieces new within is own so_far some whole added =
    added
    ∙ ap (λ (ps : List (List ℕ)). slice_set ps place (get_or ps place [] ++ bytes)) so_far
    ∙ ap (λ (more : List ℕ). slice_set (written_pieces traces (map (plain_line plain) (take i lines))) place
    (get_or (written_pieces traces (map (plain_line plain) (take i lines))) place [] ++ more)) whole
    ∙ sym (pieces-some traces (map (plain_line plain) (take i lines)) (plain_line plain l) place own some)
    ∙ ap (written_pieces traces) (sym (lines-more plain lines i l within is))

-- what a line writes, by its sign
pub bytes-saved : (l : Line Packet) → is_save l.sign ≡ true → captured_packet l.key.time.0 l.packet.bytes ≡ line_bytes l
bytes-saved l saved = let bytes : line_bytes l ≡ captured_packet l.key.time.0 l.packet.bytes = rw saved refl in sym bytes

pub bytes-told : (l : Line Packet) → is_save l.sign ≡ false → line_text l ≡ line_bytes l
bytes-told l unsaved = let bytes : line_bytes l ≡ line_text l = rw unsaved refl in sym bytes

-- the entry that was made of a line
pub entry-made : (l : Line Packet) (uid : Uid) (n : ℕ) (items : List Item) → uid ≡ l.packet.uid → n ≡ len l.packet → items ≡ l.packet.items
    → entry_text (record { sign = l.sign; time = l.key.time; node = l.node; iface = l.iface; uid = uid; length = n }) items ≡ line_text l
entry-made l uid n items same_uid same_length same_items =
    let entry : Uid → ℕ → Entry = λ u m. record { sign = l.sign; time = l.key.time; node = l.node; iface = l.iface; uid = u; length = m } in
    ap (λ (u : Uid). entry_text (entry u n) items) same_uid
    ∙ ap (λ (m : ℕ). entry_text (entry l.packet.uid m) items) same_length
    ∙ ap (entry_text (entry l.packet.uid (len l.packet))) same_items

-- a frame that was read whole
pub frame-whole : (bytes frame : List ℕ) (n : ℕ) → frame ≡ take (0 + n - 0) (drop 0 bytes) → n ≡ length bytes → frame ≡ bytes
frame-whole bytes frame n read all = read ∙ take_all (0 + n - 0) bytes (omega arith)

-- ---- one more put

-- pieces behind pieces
joined : List (List ℕ) → List (List ℕ) → List (List ℕ)
joined [] others = others
joined (piece ∷ pieces) [] = piece ∷ pieces
joined (piece ∷ pieces) (other ∷ others) = (piece ++ other) ∷ joined pieces others

with_pieces-joined : (pieces others : List (List ℕ)) (files : List File) → with_pieces others (with_pieces pieces files) ≡ with_pieces (joined pieces others) files
unfolding joined
with_pieces-joined [] others files = refl
with_pieces-joined (p ∷ pieces) [] files = refl
with_pieces-joined (p ∷ pieces) (o ∷ others) [] = refl
with_pieces-joined (p ∷ pieces) (o ∷ others) (f ∷ files) =
    ap (λ (bytes : List ℕ). record { name = f.name; bytes = bytes } ∷ with_pieces others (with_pieces pieces files)) (append_assoc f.bytes p o)
    ∙ ap (λ (fs : List File). record { name = f.name; bytes = f.bytes ++ (p ++ o) } ∷ fs) (with_pieces-joined pieces others files)

grown_from-joined : (first : ℕ) (pieces others : List (List ℕ)) (files : List File)
    → grown_from first others (grown_from first pieces files) ≡ grown_from first (joined pieces others) files
grown_from-joined zero pieces others files = with_pieces-joined pieces others files
grown_from-joined (suc first) pieces others [] = refl
grown_from-joined (suc first) pieces others (f ∷ files) = ap (λ (fs : List File). f ∷ fs) (grown_from-joined first pieces others files)

grown-joined : (before mid after : Option (List File)) (first : ℕ) (pieces others : List (List ℕ)) → HasGrownFrom before mid first pieces
    → HasGrownFrom mid after first others → HasGrownFrom before after first (joined pieces others)
grown-joined None mid after first pieces others grown more = tt
grown-joined (Some files) mid after first pieces others grown more =
    (rw grown at more) ∙ ap Some (grown_from-joined first pieces others files)

pieces-joined : (traces : List Trace) (before more : List (Line Packet))
    → written_pieces traces (before ++ more) ≡ joined (written_pieces traces before) (written_pieces traces more)
unfolding joined
pieces-joined [] before more = refl
pieces-joined (t ∷ traces) before more =
    ap (λ (bytes : List ℕ). bytes ∷ written_pieces traces (before ++ more)) (written-append t before more)
    ∙ ap (λ pieces. (written t before ++ written t more) ∷ pieces) (pieces-joined traces before more)

before_fronts : (traces : List Trace) (before more : List (Line Packet)) → AreFronts (written_pieces traces before) (written_pieces traces (before ++ more))
before_fronts [] before more = tt
before_fronts (t ∷ traces) before more = ((written t more, written-append t before more), before_fronts traces before more)

joined_fronts : (traces : List Trace) (before more : List (Line Packet)) (fronts : List (List ℕ)) → AreFronts fronts (written_pieces traces more)
    → AreFronts (joined (written_pieces traces before) fronts) (written_pieces traces (before ++ more))
unfolding joined
joined_fronts [] before more fronts cut = cut
joined_fronts (t ∷ traces) before more [] cut = ((written t more, written-append t before more), before_fronts traces before more)
joined_fronts (t ∷ traces) before more (front ∷ fronts) cut =
    let (rest, whole) = cut.0 in (
      (rest, written-append t before more ∙ ap (λ bytes. written t before ++ bytes) whole ∙ sym (append_assoc (written t before) front rest)),
      joined_fronts traces before more fronts cut.1,
    )

-- all that more lines write was put
pub written-more : (traces : List Trace) (first : ℕ) (start old new : Option (List File)) (before more : List (Line Packet)) (was_failed : Bool)
    → was_failed ≡ false → HaveWritten was_failed traces first start old before → HasGrownFrom old new first (written_pieces traces more)
    → HaveWritten false traces first start new (before ++ more)
written-more traces first start old new before more was_failed going was grown =
    let exact : was.pieces ≡ written_pieces traces before = was.whole going in
    let whole : joined was.pieces (written_pieces traces more) ≡ written_pieces traces (before ++ more) =
    ap (λ ps. joined ps (written_pieces traces more)) exact ∙ sym (pieces-joined traces before more) in record {
      pieces = joined was.pieces (written_pieces traces more);
      grown = grown-joined start old new first was.pieces (written_pieces traces more) was.grown grown;
      fronts = subst (λ ps. AreFronts (joined ps (written_pieces traces more)) (written_pieces traces (before ++ more))) (sym exact)
          (joined_fronts traces before more (written_pieces traces more) (whole_fronts (written_pieces traces more)));
      whole = λ still. whole;
    }

-- fronts of what more lines write were put
pub written-stopped : (traces : List Trace) (first : ℕ) (start old new : Option (List File)) (before more : List (Line Packet)) (was_failed : Bool)
    → was_failed ≡ false → HaveWritten was_failed traces first start old before → HasGrownByFronts old new first (written_pieces traces more)
    → HaveWritten true traces first start new (before ++ more)
written-stopped traces first start old new before more was_failed going was partly =
    let (fronts, cut, grown) = partly in
    let exact : was.pieces ≡ written_pieces traces before = was.whole going in record {
      pieces = joined was.pieces fronts;
      grown = grown-joined start old new first was.pieces fronts was.grown grown;
      fronts = subst (λ ps. AreFronts (joined ps fronts) (written_pieces traces (before ++ more))) (sym exact)
          (joined_fronts traces before more fronts cut);
      whole = λ never. cc;
    }

-- memory ran out before anything was put
pub written-nothing : (traces : List Trace) (first : ℕ) (start now : Option (List File)) (before more : List (Line Packet)) (was_failed : Bool)
    → was_failed ≡ false → HaveWritten was_failed traces first start now before → HaveWritten true traces first start now (before ++ more)
written-nothing traces first start now before more was_failed going was =
    written-stopped traces first start now now before more was_failed going was ([], tt, grown-none now first)
