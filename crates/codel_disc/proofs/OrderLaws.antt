-- What was kept leaves in order, and credits stay small.
use Rattle.std.proofs.Common.{◌≡◌, ◌≢◌, ℕ, zero, suc, ◌+◌, ◌<◌, ◌≤◌, max, Bool, true, false, cond, List, [], ◌∷◌, ◌++◌, map, fold, length, replicate, Option, Some, None, refl, sym, ap, ◌∙◌, subst, append_assoc, append-nil, arith, get_or, set, inl, inr, ◌⊎◌, get_or-set_same, get_or-set_other}
use Rattle.std.proofs.lemmas.Bool.{cond_both, cond-true, cond-false, cases_eq, cases_lt}
use Rattle.std.proofs.lemmas.Int.{ints}
use Rattle.std.proofs.lemmas.List.{map-append, length-set, length-replicate, get_or-replicate, get_or_past}
use Rattle.std.proofs.lemmas.List.Elements.{filter-append}
use Rattle.std.specs.List.{AllByRecursion, filter}
use Rattle.std.specs.Option.{IfSome, option_to_list}
use Rattle.std.specs.Prelude.{◌==◌, All, ℤ, pos, ◌+ℤ◌, ◌-ℤ◌, ◌≤ℤ◌, int_lt}
use Rattle.sim_base.specs.declared.tags.ByteTag.{ByteTag}
use Rattle.sim_base.specs.Packet.{Packet, len}
use Rattle.codel_disc.specs.declared.kind.CodelKind.{CodelKind}
use Rattle.codel_disc.specs.declared.kind.CodelKind.TheVariants.{Codel, FqCodel}
use Rattle.codel_disc.specs.declared.turn.Turn.{Turn}
use Rattle.codel_disc.specs.declared.turn.Turn.TheVariants.{Gave, Passed, Over}
use Rattle.codel_disc.specs.declared.waiting.Waiting.{Waiting}
use Rattle.codel_disc.specs.Class as codel
use Rattle.codel_disc.specs.Class.{PlainClass, Taken, empty_class, with_frame}
use Rattle.codel_disc.specs.Disc.{PlainCodel, PlainQueues, alone, flows, is_full, kept_in, next_in, time_at, next}
use Rattle.codel_disc.specs.Flows.{PlainFlows, Turned, class_at, class_by, class_of, credit_at, empty_flows, kept, quantum, refilled, served_with, taken_in, turn, turn_of, turns, with_class, woken}
use Rattle.codel_disc.specs.History.{Call, offer, ask, Gone, History, begun, was_dropped, was_given, leaving, with_call, after}
use Rattle.codel_disc.specs.Order.{is_of, InOrder, frames_gone, IsInOrder, longest_offer, IsWithin, CreditsWithin}
use Rattle.codel_disc.specs.Roster.{PlainRoster, first, first_in, stands, joined, sent_back, sent_back_in, let_go, let_go_in, rotated}
use Rattle.codel_disc.specs.Runs.{all_of}
use Rattle.codel_disc.proofs.FlowLaws.{self-eq, apart-eq, woken_parts}
use Rattle.codel_disc.proofs.TakenLaws.{next-all}
use Rattle.codel_disc.proofs.SoundLaws.{all_both, IsHome, AreHome, Sound, filter-home, filter-away, read_same, read_apart, turns-keeps, class_by-known, after_keep, sound_keep, replicate-any, empty_sound}

-- whole runs

abbrev pub Good : ℕ → PlainQueues → List (Waiting Packet) → List (Waiting Packet) → Type 0
Good m (alone c) kept gone = gone ++ c.frames ≡ kept
Good m (flows f) kept gone = Sound m f × ((k : ℕ) → filter (is_of k) gone ++ (class_at k f).frames ≡ filter (is_of k) kept)

order_after : (k : ℕ) (gone out x y z : List (Waiting Packet)) → filter (is_of k) out ++ x ≡ y → filter (is_of k) gone ++ y ≡ z →
    filter (is_of k) (gone ++ out) ++ x ≡ z
order_after k gone out x y z e f =
    ap (λ (l : List (Waiting Packet)). l ++ x) (filter-append (is_of k) gone out)
    ∙ append_assoc (filter (is_of k) gone) (filter (is_of k) out) x
    ∙ ap (λ (l : List (Waiting Packet)). filter (is_of k) gone ++ l) e ∙ f

asked : (m now : ℕ) (q : PlainQueues) (kept gone : List (Waiting Packet)) → Good m q kept gone →
    Good m (next_in now q).left kept (gone ++ ((next_in now q).dropped ++ option_to_list (next_in now q).given))
asked m now (alone c) kept gone h =
    append_assoc gone ((codel.next now c).dropped ++ option_to_list (codel.next now c).given) (codel.next now c).left.frames
    ∙ ap (λ (l : List (Waiting Packet)). gone ++ l) (next-all now c) ∙ h
asked m now (flows f) kept gone h =
    let t = turns-keeps m _ now f h.0 in
    (t.sound, λ (k : ℕ). order_after k gone _ _ _ _ (t.order k) (h.1 k))

-- a frame is kept

order_keep : (m k j : ℕ) (f : PlainFlows) (w : Waiting Packet) (kept gone : List (Waiting Packet)) → k < length f.classes → IsHome m k w →
    ((i : ℕ) → filter (is_of i) gone ++ (class_at i f).frames ≡ filter (is_of i) kept) →
    filter (is_of j) gone ++ (get_or (set f.classes k (with_frame w (class_at k f))) j empty_class).frames ≡ filter (is_of j) (kept ++ w ∷ [])
order_keep m k j f w kept gone within mine h =
    elim (cases_eq j k) [
      | inl same ↦
          subst (λ (i : ℕ). filter (is_of i) gone ++ (get_or (set f.classes k (with_frame w (class_at k f))) i empty_class).frames ≡ filter (is_of i) (kept ++ w ∷ [])) (sym same)
          (ap (λ (q : PlainClass). filter (is_of k) gone ++ q.frames) (read_same k (with_frame w (class_at k f)) f.classes within)
          ∙ sym (append_assoc (filter (is_of k) gone) (class_at k f).frames (w ∷ []))
          ∙ ap (λ (l : List (Waiting Packet)). l ++ w ∷ []) (h k)
          ∙ ap (λ (l : List (Waiting Packet)). filter (is_of k) kept ++ l) (sym (filter-home m k (w ∷ []) (mine, tt)))
          ∙ sym (filter-append (is_of k) kept (w ∷ [])))
      | inr apart ↦
          ap (λ (q : PlainClass). filter (is_of j) gone ++ q.frames) (read_apart k j (with_frame w (class_at k f)) f.classes apart)
          ∙ h j
          ∙ sym (append-nil (filter (is_of j) kept))
          ∙ ap (λ (l : List (Waiting Packet)). filter (is_of j) kept ++ l) (sym (filter-away m j k (w ∷ []) apart (mine, tt)))
          ∙ sym (filter-append (is_of j) kept (w ∷ []))
    ]

kept_good : (m : ℕ) (w : Waiting Packet) (q : PlainQueues) (before gone : List (Waiting Packet)) → len w.frame ≤ m → Good m q before gone →
    Good m (kept_in w q) (before ++ w ∷ []) gone
kept_good m w (alone c) before gone short h =
    sym (append_assoc gone c.frames (w ∷ [])) ∙ ap (λ (l : List (Waiting Packet)). l ++ w ∷ []) h
kept_good m w (flows f) before gone short h =
    let k = class_of w.frame in
    let c = with_frame w (class_at k f) in
    let known : k < 64 = class_by-known _ in
    let mine : AreHome m k c.frames = all_both (IsHome m k) (class_at k f).frames (w ∷ []) (h.0.home k) ((refl, short), tt) in
    let same : kept w f ≡ after_keep k f c (stands k f.roster) = woken_parts k (with_class k c f) (stands k f.roster) in
    subst (λ (g : PlainFlows). Good m (flows g) (before ++ w ∷ []) gone) (sym same) (
      sound_keep m k f c (stands k f.roster) known mine h.0,
      λ (j : ℕ). order_keep m k j f w before gone (omega (arith, known, h.0.all_classes)) (refl, short) h.1,
    )

-- each frame that is offered is at most so long
abbrev pub OfferWithin : ℕ → Call → Type 0
OfferWithin m (offer now frame) = len frame ≤ m
OfferWithin m (ask now) = Unit {0}

-- a call

waited_gone : (at : ℕ) (b : Bool) (ws : List (Waiting Packet)) → frames_gone (map (λ w. record { waited = w; at = at; dropped = b }) ws) ≡ ws
waited_gone at b [] = refl
waited_gone at b (w ∷ ws) = ap (λ (l : List (Waiting Packet)). w ∷ l) (waited_gone at b ws)

frames_leaving : (at : ℕ) (t : Taken PlainCodel) → frames_gone (leaving at t) ≡ t.dropped ++ option_to_list t.given
frames_leaving at t =
    map-append (λ (g : Gone). g.waited) (map (was_dropped at) t.dropped) (map (was_given at) (option_to_list t.given))
    ∙ ap (λ (l : List (Waiting Packet)). l ++ frames_gone (map (was_given at) (option_to_list t.given))) (waited_gone at true t.dropped)
    ∙ ap (λ (l : List (Waiting Packet)). t.dropped ++ l) (waited_gone at false (option_to_list t.given))

abbrev pub GoodHistory : ℕ → History → Type 0
GoodHistory m h = Good m h.disc.queues h.kept (frames_gone h.gone)

one_good : (m : ℕ) (h : History) (call : Call) → OfferWithin m call → GoodHistory m h → GoodHistory m (with_call h call)
one_good m h (offer now frame) short good =
    cond_both (is_full h.disc) _ _ (GoodHistory m) (λ _. good) (λ _. kept_good m _ h.disc.queues h.kept (frames_gone h.gone) short good)
one_good m h (ask now) short good =
    let t = next now h.disc in
    let at = time_at now h.disc in
    subst (λ (l : List (Waiting Packet)). Good m t.left.queues h.kept l)
    (sym (map-append (λ (g : Gone). g.waited) h.gone (leaving at t) ∙ ap (λ (l : List (Waiting Packet)). frames_gone h.gone ++ l) (frames_leaving at t)))
    (asked m at h.disc.queues h.kept (frames_gone h.gone) good)

all_good : (m : ℕ) (h : History) (calls : List Call) → AllByRecursion (OfferWithin m) calls → GoodHistory m h → GoodHistory m (fold with_call h calls)
all_good m h [] short good = good
all_good m h (call ∷ calls) short good = all_good m (with_call h call) calls short.1 (one_good m h call short.0 good)

empty_order : (k : ℕ) → (class_at k empty_flows).frames ≡ []
unfolding empty_flows
empty_order k = ap (λ (c : PlainClass). c.frames) (replicate-any 64 k empty_class)

begun_good : (m : ℕ) (kind : CodelKind) → GoodHistory m (begun kind)
begun_good m (Codel limit) = refl
begun_good m (FqCodel limit) = (empty_sound m, empty_order)

offer_more : (m n : ℕ) (call : Call) → m ≤ n → OfferWithin m call → OfferWithin n call
offer_more m n (offer now frame) le h = omega (arith, le, h)
offer_more m n (ask now) le h = tt

offers_more : (m n : ℕ) (calls : List Call) → m ≤ n → AllByRecursion (OfferWithin m) calls → AllByRecursion (OfferWithin n) calls
offers_more m n [] le h = tt
offers_more m n (call ∷ calls) le h = (offer_more m n call le h.0, offers_more m n calls le h.1)

offers_longest : (calls : List Call) → AllByRecursion (OfferWithin (longest_offer calls)) calls
offers_longest [] = tt
offers_longest (offer now frame ∷ calls) = (omega arith, offers_more (longest_offer calls) _ calls (omega arith) (offers_longest calls))
offers_longest (ask now ∷ calls) = (tt, offers_longest calls)

after_good : (kind : CodelKind) (calls : List Call) → GoodHistory (longest_offer calls) (after kind calls)
after_good kind calls = all_good (longest_offer calls) (begun kind) calls (offers_longest calls) (begun_good (longest_offer calls) kind)

good_order : (m : ℕ) (q : PlainQueues) (before gone : List (Waiting Packet)) → Good m q before gone → InOrder q before gone
good_order m (alone c) before gone h = h
good_order m (flows f) before gone h = h.1

good_credits : (m : ℕ) (q : PlainQueues) (before gone : List (Waiting Packet)) → Good m q before gone → CreditsWithin m q
good_credits m (alone c) before gone h = tt
good_credits m (flows f) before gone h = h.0.within

pub after_in_order : (kind : CodelKind) (calls : List Call) → IsInOrder (after kind calls)
after_in_order kind calls = good_order (longest_offer calls) _ _ _ (after_good kind calls)

pub after_within : (kind : CodelKind) (calls : List Call) → CreditsWithin (longest_offer calls) (after kind calls).disc.queues
after_within kind calls = good_credits (longest_offer calls) (after kind calls).disc.queues (after kind calls).kept (frames_gone (after kind calls).gone) (after_good kind calls)
