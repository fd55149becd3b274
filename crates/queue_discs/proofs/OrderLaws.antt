-- What a disc has given and what it holds are what it kept, in order.
use Rattle.std.proofs.Common.{◌≡◌, ℕ, ◌+◌, Bool, true, false, cond, List, [], ◌∷◌, ◌++◌, count_by, fold, refl, sym, ap, ◌∙◌, append_assoc, arith}
use Rattle.std.proofs.lemmas.Bool.{cond_both}
use Rattle.std.proofs.lemmas.List.{append-nil}
use Rattle.std.proofs.lemmas.List.Elements.{filter-append}
use Rattle.std.proofs.lemmas.List.Sums.{sum_by-append, sum_by-cons}
use Rattle.sim_base.specs.Packet.{Packet}
use Rattle.queue_discs.specs.declared.band.Band.{Band}
use Rattle.queue_discs.specs.declared.band.Band.TheVariants.{First, Second, Third}
use Rattle.queue_discs.specs.declared.disc.DiscKind.{DiscKind}
use Rattle.queue_discs.specs.declared.disc.DiscKind.TheVariants.{Fifo, Prio, Tbf}
use Rattle.queue_discs.specs.Answers.{given}
use Rattle.queue_discs.specs.Band.{band_of, is_same_band}
use Rattle.queue_discs.specs.Bands.{PlainBands, all_of, frames_of, front, no_frames, pushed}
use Rattle.queue_discs.specs.Disc.{is_full, with_frame}
use Rattle.queue_discs.specs.History.{Call, offered, asked, History, begun, frame_of, in_band, with_call, after, IsInOrder}
use Rattle.queue_discs.proofs.BandLaws.{ArePlaced, frames_of-pushed, front-splits, in_band-one, only, placed-left, placed-pushed}
use Rattle.queue_discs.proofs.DiscLaws.{after_next}

-- in each band, what was given and what waits are what was kept
record InBands (by_priority : Bool) (b : PlainBands) (given kept : List Packet) : Type 0 where
  placed : ArePlaced by_priority b
  order : (band : Band) → in_band by_priority band given ++ frames_of band b ≡ in_band by_priority band kept

in_band-append : (by_priority : Bool) (band : Band) (xs ys : List Packet) → in_band by_priority band (xs ++ ys) ≡ in_band by_priority band xs ++ in_band by_priority band ys
in_band-append by_priority band xs ys = filter-append (λ frame. is_same_band (band_of by_priority frame) band) xs ys

-- one more frame is kept
keeps : (by_priority : Bool) (b : PlainBands) (given kept : List Packet) (frame : Packet) → InBands by_priority b given kept
    → InBands by_priority (pushed (band_of by_priority frame) frame b) given (kept ++ frame ∷ [])
keeps by_priority b given kept frame h = record {
  placed = placed-pushed by_priority frame b h.placed;
  order = λ band.
      let own = band_of by_priority frame in
      ap (λ fs. in_band by_priority band given ++ fs) (frames_of-pushed own band frame b)
      ∙ sym (append_assoc (in_band by_priority band given) (frames_of band b) (only own band frame))
      ∙ ap (λ fs. fs ++ only own band frame) (h.order band)
      ∙ ap (λ fs. in_band by_priority band kept ++ fs) (sym (in_band-one by_priority own band frame refl))
      ∙ sym (in_band-append by_priority band kept (frame ∷ []));
}

-- the frame in front leaves
leaves : (by_priority : Bool) (b : PlainBands) (gone kept : List Packet) → InBands by_priority b gone kept
    → InBands by_priority (front b).left (gone ++ frame_of (given (front b).frame)) kept
leaves by_priority b gone kept h = record {
  placed = placed-left by_priority b.first b.second b.third h.placed.first h.placed.second h.placed.third;
  order = λ band.
      let out = frame_of (given (front b).frame) in
      ap (λ fs. fs ++ frames_of band (front b).left) (in_band-append by_priority band gone out)
      ∙ append_assoc (in_band by_priority band gone) (in_band by_priority band out) (frames_of band (front b).left)
      ∙ ap (λ fs. in_band by_priority band gone ++ fs) (front-splits by_priority band b.first b.second b.third h.placed.first h.placed.second h.placed.third)
      ∙ h.order band;
}

-- nothing leaves
stays : (by_priority : Bool) (b : PlainBands) (gone kept : List Packet) → InBands by_priority b gone kept → InBands by_priority b (gone ++ []) kept
stays by_priority b gone kept h = record {
  placed = h.placed;
  order = λ band. ap (λ fs. in_band by_priority band fs ++ frames_of band b) (append-nil gone) ∙ h.order band;
}

abbrev HasOrder : History → Type 0
HasOrder h = InBands h.disc.by_priority h.disc.bands h.given h.kept

one_call : (h : History) (call : Call) → HasOrder h → HasOrder (with_call h call)
one_call h (offered frame) order =
    let kept : History = record h { disc = with_frame frame h.disc; kept = h.kept ++ frame ∷ [] } in
    cond_both (is_full h.disc) h kept HasOrder (λ full. order)
    (λ room. keeps h.disc.by_priority h.disc.bands h.given h.kept frame order)
one_call h (asked now) order =
    after_next (λ d answer. InBands d.by_priority d.bands (h.given ++ frame_of answer) h.kept) now h.disc (record {
      empty = λ b. stays h.disc.by_priority h.disc.bands h.given h.kept order;
      waits = λ b until. stays h.disc.by_priority h.disc.bands h.given h.kept order;
      leaves = λ b. leaves h.disc.by_priority h.disc.bands h.given h.kept order;
    })

all_calls : (h : History) (calls : List Call) → HasOrder h → HasOrder (fold with_call h calls)
all_calls h [] order = order
all_calls h (call ∷ calls) order = all_calls (with_call h call) calls (one_call h call order)

none_waits : (band : Band) → frames_of band no_frames ≡ []
none_waits First = refl
none_waits Second = refl
none_waits Third = refl

at_first : (by_priority : Bool) → InBands by_priority no_frames [] []
at_first by_priority = record { placed = record { first = tt; second = tt; third = tt }; order = none_waits }

begins : (kind : DiscKind) → HasOrder (begun kind)
begins (Fifo limit) = at_first false
begins (Prio limit) = at_first true
begins (Tbf limit rate burst) = at_first false

-- all frames are of the first band where priorities don't count

in_first : (frames : List Packet) → in_band false First frames ≡ frames
in_first [] = refl
in_first (frame ∷ frames) = ap (λ fs. frame ∷ fs) (in_first frames)

in_second : (frames : List Packet) → in_band false Second frames ≡ []
in_second [] = refl
in_second (frame ∷ frames) = in_second frames

in_third : (frames : List Packet) → in_band false Third frames ≡ []
in_third [] = refl
in_third (frame ∷ frames) = in_third frames

in_all : (b : PlainBands) (given kept : List Packet) → InBands false b given kept → given ++ all_of b ≡ kept
in_all b given kept h =
    let first : given ++ b.first ≡ kept = ap (λ fs. fs ++ b.first) (sym (in_first given)) ∙ h.order First ∙ in_first kept in
    let second : b.second ≡ [] = ap (λ fs. fs ++ b.second) (sym (in_second given)) ∙ h.order Second ∙ in_second kept in
    let third : b.third ≡ [] = ap (λ fs. fs ++ b.third) (sym (in_third given)) ∙ h.order Third ∙ in_third kept in
    ap (λ fs. given ++ ((b.first ++ b.second) ++ fs)) third
    ∙ ap (λ fs. given ++ fs) (append-nil (b.first ++ b.second))
    ∙ ap (λ fs. given ++ (b.first ++ fs)) second
    ∙ ap (λ fs. given ++ fs) (append-nil b.first)
    ∙ first

in_all_of : (by_priority : Bool) (b : PlainBands) (given kept : List Packet) → InBands by_priority b given kept → by_priority ≡ false → given ++ all_of b ≡ kept
in_all_of false b given kept h is = in_all b given kept h
in_all_of true b given kept h is = cc

-- each frame is of one band

one_more : (own : Band) (test : Packet → Bool) (frame : Packet) (first second third : List Packet) (n : ℕ)
    → n ≡ count_by test first + count_by test second + count_by test third
    → cond (test frame) 1 0 + n ≡ count_by test (cond (is_same_band own First) (frame ∷ first) first)
    + count_by test (cond (is_same_band own Second) (frame ∷ second) second)
    + count_by test (cond (is_same_band own Third) (frame ∷ third) third)
one_more First test frame first second third n rest =
    let longer : count_by test (frame ∷ first) ≡ cond (test frame) 1 0 + count_by test first = sum_by-cons (λ x. cond (test x) 1 0) frame first in
    let sum : cond (test frame) 1 0 + n ≡ count_by test (frame ∷ first) + count_by test second + count_by test third = omega (arith, rest, longer) in
    sum
one_more Second test frame first second third n rest =
    let longer : count_by test (frame ∷ second) ≡ cond (test frame) 1 0 + count_by test second = sum_by-cons (λ x. cond (test x) 1 0) frame second in
    let sum : cond (test frame) 1 0 + n ≡ count_by test first + count_by test (frame ∷ second) + count_by test third = omega (arith, rest, longer) in
    sum
one_more Third test frame first second third n rest =
    let longer : count_by test (frame ∷ third) ≡ cond (test frame) 1 0 + count_by test third = sum_by-cons (λ x. cond (test x) 1 0) frame third in
    let sum : cond (test frame) 1 0 + n ≡ count_by test first + count_by test second + count_by test (frame ∷ third) = omega (arith, rest, longer) in
    sum

in_bands : (by_priority : Bool) (test : Packet → Bool) (frames : List Packet)
    → count_by test frames ≡ count_by test (in_band by_priority First frames) + count_by test (in_band by_priority Second frames) + count_by test (in_band by_priority Third frames)
in_bands by_priority test [] = refl
in_bands by_priority test (frame ∷ frames) =
    sum_by-cons (λ x. cond (test x) 1 0) frame frames
    ∙ one_more (band_of by_priority frame) test frame (in_band by_priority First frames) (in_band by_priority Second frames) (in_band by_priority Third frames)
    (count_by test frames) (in_bands by_priority test frames)

once : (by_priority : Bool) (b : PlainBands) (given kept : List Packet) (test : Packet → Bool) → InBands by_priority b given kept
    → count_by test given + count_by test (all_of b) ≡ count_by test kept
once by_priority b given kept test h =
    let size : (xs ys : List Packet) → count_by test (xs ++ ys) ≡ count_by test xs + count_by test ys = sum_by-append (λ frame. cond (test frame) 1 0) in
    let first : count_by test (in_band by_priority First given) + count_by test b.first ≡ count_by test (in_band by_priority First kept) =
    sym (size (in_band by_priority First given) b.first) ∙ ap (count_by test) (h.order First) in
    let second : count_by test (in_band by_priority Second given) + count_by test b.second ≡ count_by test (in_band by_priority Second kept) =
    sym (size (in_band by_priority Second given) b.second) ∙ ap (count_by test) (h.order Second) in
    let third : count_by test (in_band by_priority Third given) + count_by test b.third ≡ count_by test (in_band by_priority Third kept) =
    sym (size (in_band by_priority Third given) b.third) ∙ ap (count_by test) (h.order Third) in
    let two : count_by test (b.first ++ b.second) ≡ count_by test b.first + count_by test b.second = size b.first b.second in
    let all : count_by test (all_of b) ≡ count_by test (b.first ++ b.second) + count_by test b.third = size (b.first ++ b.second) b.third in
    let gave = in_bands by_priority test given in
    let got = in_bands by_priority test kept in
    omega (arith, first, second, third, all, two, gave, got)

ordered : (h : History) → HasOrder h → IsInOrder h
ordered h order = record {
  once = λ test. once h.disc.by_priority h.disc.bands h.given h.kept test order;
  by_band = order.order;
  in_all = in_all_of h.disc.by_priority h.disc.bands h.given h.kept order;
}

-- after all calls of a new disc
pub after_in_order : (kind : DiscKind) (calls : List Call) → IsInOrder (after kind calls)
after_in_order kind calls = ordered (after kind calls) (all_calls (begun kind) calls (begins kind))
