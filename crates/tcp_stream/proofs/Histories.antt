-- Histories that go on, and the segments that openers send.
use Rattle.std.proofs.Common.{◌≡◌, ℕ, suc, ◌+◌, ◌%◌, ◌^◌, ◌<◌, Bool, true, false, cond, List, [], ◌∷◌, ◌++◌, length, take, drop, Option, Some, None, refl, sym, ap, ◌∙◌, arith}
use Rattle.std.proofs.lemmas.Bool.Decides.{nat_tests}
use Rattle.std.proofs.lemmas.List.{length-take}
use Rattle.std.proofs.lemmas.Option.{slice_get_within}
use Rattle.std.proofs.Math.Nat.{mod-eq_of_lt}
use Rattle.std.specs.Ordering.{nat_cmp}
use Rattle.std.specs.List.{slice_get}
use Rattle.std.specs.Option.{option_or}
use Rattle.std.specs.FinMap.{get, empty, get-empty}
use Rattle.tcp_stream.specs.Held.{window, in_window, taken_in, front}
use Rattle.tcp_stream.specs.History.{Sink, Told, World, Event, CarriesWritten, IsHistory, run, happens, written_at, opened, transfer, with_segment, past, finished, delivery, is_at, fin_of}
use Rattle.tcp_stream.specs.History.Told.{End}
use Rattle.tcp_stream.proofs.HeldLaws.{offered, get-taken_in}
use Rattle.tcp_stream.proofs.Front.{front-is}
use Rattle.tcp_stream.proofs.Runs.{slice_get-take, slice_get-drop, at_run, at-in, at-past, offered-at}

pub history-append : (w : World) (events more : List Event) → IsHistory w events → IsHistory (run w events) more → IsHistory w (events ++ more)
history-append w [] more h g = g
history-append w (e ∷ events) more h g = (h.0, history-append (happens w e) events more h.1 g)

pub run-append : (w : World) (events more : List Event) → run w (events ++ more) ≡ run (run w events) more
run-append w [] more = refl
run-append w (e ∷ events) more = run-append (happens w e) events more

no_byte : {A : Type 0} (i byte : ℕ) → slice_get {X = ℕ} [] i ≡ Some byte → A
no_byte i byte e = absurd (let bad : ⊥ = (cc) in bad)

cut-written : (written : List ℕ) (before n i byte : ℕ) → slice_get (take n (drop before written)) i ≡ Some byte → written_at written (suc before + i) ≡ Some byte
cut-written written before n i byte e =
    let within : i < length (take n (drop before written)) = slice_get_within (take n (drop before written)) i byte e in
    let low : i < n = omega (arith, length-take n (drop before written)) in
    let at : suc before + i ≡ suc (before + i) = omega arith in
    ap (written_at written) at ∙ sym (slice_get-drop before written i (before + i) refl) ∙ sym (slice_get-take n (drop before written) i low) ∙ e

pub syn-carries : (written : List ℕ) (closed : Bool) → CarriesWritten written closed (record { seq = 0; syn = true; fin = false; bytes = [] })
syn-carries written closed = record { position = 0; seq = refl; syn = λ e. refl; bytes = λ i byte e. no_byte i byte e; fin = λ e. absurd (let bad : ⊥ = (cc) in bad) }

pub cut-carries : (written : List ℕ) (closed : Bool) (before n : ℕ) →
    CarriesWritten written closed (record { seq = suc before % 2 ^ 32; syn = false; fin = false; bytes = take n (drop before written) })
cut-carries written closed before n = record {
  position = suc before;
  seq = refl;
  syn = λ e. absurd (let bad : ⊥ = (cc) in bad);
  bytes = cut-written written before n;
  fin = λ e. absurd (let bad : ⊥ = (cc) in bad);
}

pub bare-carries : (written : List ℕ) (closed : Bool) (seq : ℕ) → seq < 2 ^ 32 → CarriesWritten written closed (record { seq = seq; syn = false; fin = false; bytes = [] })
bare-carries written closed seq h = record {
  position = seq;
  seq = sym (mod-eq_of_lt h);
  syn = λ e. absurd (let bad : ⊥ = (cc) in bad);
  bytes = λ i byte e. no_byte i byte e;
  fin = λ e. absurd (let bad : ⊥ = (cc) in bad);
}

pub fin-carries : (written : List ℕ) → CarriesWritten written true (record { seq = (length written + 1) % 2 ^ 32; syn = false; fin = true; bytes = [] })
fin-carries written = record {
  position = length written + 1;
  seq = refl;
  syn = λ e. absurd (let bad : ⊥ = (cc) in bad);
  bytes = λ i byte e. no_byte i byte e;
  fin = λ e. (refl, omega arith);
}

-- one whole transfer, in one segment with the FIN

held-all : (w : List ℕ) → length w < window → front window (taken_in 1 empty 1 w) 1 ≡ w
held-all w short =
    front-is window (taken_in 1 empty 1 w) 1 w
    (λ i b at.
    let low : i < length w = slice_get_within w i b at in
    let open_at : in_window 1 (1 + i) ≡ true = grind (arith, nat_tests) in
    holds w (1 + i) ∙ ap (λ t. cond t (at_run 1 w (1 + i)) None) open_at ∙ at-in 1 w (1 + i) i refl ∙ at)
    (holds w (1 + length w) ∙ ap (λ v. cond (in_window 1 (1 + length w)) v None) (at-past 1 w (1 + length w) (omega arith)) ∙ neither (in_window 1 (1 + length w)))
    (omega arith)
  where
    holds : (w : List ℕ) (q : ℕ) → get (taken_in 1 empty 1 w) q ≡ cond (in_window 1 q) (at_run 1 w q) None
    holds w q = get-taken_in 1 empty 1 w q ∙ ap (λ o. option_or o (offered 1 1 w q)) (get-empty {X = ℕ} nat_cmp q) ∙ offered-at 1 1 w q

    neither : (b : Bool) → ◌≡◌ {A = Option ℕ} (cond b None None) None
    neither true = refl
    neither false = refl

pub transfer-carries : (w : List ℕ) → CarriesWritten w true (record { seq = 1; syn = false; fin = true; bytes = w })
transfer-carries w = record {
  position = 1;
  seq = refl;
  syn = λ e. absurd (let bad : ⊥ = (cc) in bad);
  bytes = λ i byte e. let at : 1 + i ≡ suc i = omega arith in ap (written_at w) at ∙ e;
  fin = λ e. (refl, omega arith);
}

pub transfer-told : (w : List ℕ) → length w < window → (run opened (transfer w)).told ≡ delivery w ++ End ∷ []
transfer-told w short =
    let k = with_segment opened.sink (record { seq = 1; syn = false; fin = true; bytes = w }) in
    let inside : in_window 1 (1 + length w) ≡ true = grind (arith, nat_tests) in
    let there : is_at (fin_of 1 (record { seq = 1; syn = false; fin = true; bytes = w })) (1 + length w) ≡ true =
    ap (λ b. is_at (cond b (Some (1 + length w)) None) (1 + length w)) inside ∙ grind (arith, nat_tests) in
    ap (λ (bytes : List ℕ). delivery bytes ++ (finished (past k bytes)).1) (held-all w short)
    ∙ ap (λ b. delivery w ++ (cond {A = Sink × List Told} b (record (past k w) { rcv = (past k w).rcv + 1; ended = true }, End ∷ []) (past k w, [])).1) there
