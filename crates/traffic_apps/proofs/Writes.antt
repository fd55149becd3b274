-- A bulk sender writes its stream, and closes behind the last byte.
use Rattle.std.proofs.Common.{ℕ, ◌≡◌, ◌==◌, ◌+◌, ◌-◌, ◌^◌, ◌<◌, ◌≤◌, min, cond, Bool, true, false, List, [], ◌∷◌, ◌++◌, Option, refl, sym, ap, subst, ◌∙◌, append_assoc, arith}
use Rattle.std.proofs.lemmas.Bool.{cond_both, eqb-true, eqb-false}
use Rattle.std.proofs.lemmas.List.{append-nil}
use Rattle.sim_base.specs.declared.numbers.Numbers.{Numbers}
use Rattle.sim_base.specs.declared.time.Time.{Time}
use Rattle.sim_base.specs.Packet.{Packet}
use Rattle.traffic_apps.specs.declared.app.Act.{Act}
use Rattle.traffic_apps.specs.declared.app.Act.TheVariants.{UdpSend as UdpSendAct, PingSend as PingSendAct, TickAt, Connect, Write, Close}
use Rattle.traffic_apps.specs.declared.app.In.{In}
use Rattle.traffic_apps.specs.declared.app.In.TheVariants.{Tick, Got, Connected, Room, End, Reset}
use Rattle.traffic_apps.specs.declared.counts.Counts.{Counts}
use Rattle.traffic_apps.specs.declared.kind.AppKind.TheVariants.{TcpBulk}
use Rattle.traffic_apps.specs.App.{PlainApp, idle}
use Rattle.traffic_apps.specs.Counts.{with_sent}
use Rattle.layer_words.specs.Acts.{Stepped}
use Rattle.traffic_apps.specs.Step.{step, ticks, gets, connected, finds_room, writes, after_write, write_of, close_if, silent, first_room}
use Rattle.traffic_apps.specs.Stream.{stream}
use Rattle.traffic_apps.specs.Writing.{app_after, asked_over, written_in, closes_in, WritesStream}
use Rattle.traffic_apps.proofs.Turns.{stream-parts}

written_in-append : (xs ys : List (Act Packet)) → written_in (xs ++ ys) ≡ written_in xs ++ written_in ys
written_in-append [] ys = refl
written_in-append (Write bytes ∷ xs) ys = ap (λ l. bytes ++ l) (written_in-append xs ys) ∙ sym (append_assoc bytes (written_in xs) (written_in ys))
written_in-append (UdpSendAct dst port packet ∷ xs) ys = written_in-append xs ys
written_in-append (PingSendAct dst rest packet ∷ xs) ys = written_in-append xs ys
written_in-append (TickAt at ∷ xs) ys = written_in-append xs ys
written_in-append (Connect dst port mss ∷ xs) ys = written_in-append xs ys
written_in-append (Close ∷ xs) ys = written_in-append xs ys

closes_in-append : (xs ys : List (Act Packet)) → closes_in (xs ++ ys) ≡ closes_in xs + closes_in ys
closes_in-append [] ys = omega arith
closes_in-append (Close ∷ xs) ys = let rest = closes_in-append xs ys in omega arith
closes_in-append (UdpSendAct dst port packet ∷ xs) ys = closes_in-append xs ys
closes_in-append (PingSendAct dst rest packet ∷ xs) ys = closes_in-append xs ys
closes_in-append (TickAt at ∷ xs) ys = closes_in-append xs ys
closes_in-append (Connect dst port mss ∷ xs) ys = closes_in-append xs ys
closes_in-append (Write bytes ∷ xs) ys = closes_in-append xs ys

-- what is written from so many bytes to so many, by acts
record Goes (bytes from to : ℕ) (acts : List (Act Packet)) : Type 0 where
  up : from ≤ to
  most : to ≤ bytes
  written : written_in acts ≡ stream (to - from) from
  only : 0 < closes_in acts → to ≡ bytes
  closes : from < bytes → to ≡ bytes → 0 < closes_in acts

none-goes : (bytes from : ℕ) (acts : List (Act Packet)) → from ≤ bytes → written_in acts ≡ [] → closes_in acts ≡ 0 → Goes bytes from from acts
unfolding stream
none-goes bytes from acts most no_write no_close =
    record {
      up = omega arith;
      most = most;
      written = no_write ∙ ap (λ n. stream n from) (let none : 0 ≡ from - from = omega arith in none);
      only = λ some. absurd (omega (arith, some, no_close));
      closes = λ left all. absurd (omega (arith, left, all));
    }

only-both : (bytes middle to x y : ℕ) → (0 < x → middle ≡ bytes) → (0 < y → to ≡ bytes) → middle ≤ to → to ≤ bytes → 0 < x + y → to ≡ bytes
only-both bytes middle to x y first rest more most some = grind arith

closes-both : (bytes from middle to x y z : ℕ) → (from < bytes → middle ≡ bytes → 0 < x) → (middle < bytes → to ≡ bytes → 0 < y) → from < bytes → to ≡ bytes → z ≡ x + y → middle ≤ to → to ≤ bytes → 0 < z
closes-both bytes from middle to x y z first rest left all count more most = grind arith

both-go : (bytes from middle to : ℕ) (xs ys : List (Act Packet)) → Goes bytes from middle xs → Goes bytes middle to ys → Goes bytes from to (xs ++ ys)
both-go bytes from middle to xs ys first rest =
    let count = closes_in-append xs ys in
    let up = first.up in
    let more = rest.up in
    let most = rest.most in
    record {
      up = omega arith;
      most = rest.most;
      written =
          written_in-append xs ys ∙ ap (λ l. l ++ written_in ys) first.written ∙ ap (λ l. stream (middle - from) from ++ l) rest.written
          ∙ ap (λ n. stream (middle - from) from ++ stream (to - middle) n) (let there : middle ≡ from + (middle - from) = omega arith in there)
          ∙ sym (stream-parts (middle - from) (to - middle) from)
          ∙ ap (λ n. stream n from) (let all : middle - from + (to - middle) ≡ to - from = omega arith in all);
      only = λ some. only-both bytes middle to (closes_in xs) (closes_in ys) first.only rest.only more most (omega (arith, some, count));
      closes = λ left all. closes-both bytes from middle to (closes_in xs) (closes_in ys) (closes_in (xs ++ ys)) first.closes rest.closes left all count more most;
    }

-- ---- a write

sent-after : (count : ℕ) (a : PlainApp) → a.counts.sent_bytes + count < 2 ^ 64 → (after_write count a).counts.sent_bytes ≡ a.counts.sent_bytes + count
sent-after count a small =
    cond_both (count == 0) a (record a { counts = with_sent count a.counts }) (λ (x : PlainApp). x.counts.sent_bytes ≡ a.counts.sent_bytes + count)
    (λ none. let e = eqb-true count 0 none in omega arith) (λ some. omega arith)

kind-after : (count : ℕ) (a : PlainApp) → (after_write count a).kind ≡ a.kind
kind-after count a = cond_both (count == 0) a (record a { counts = with_sent count a.counts }) (λ (x : PlainApp). x.kind ≡ a.kind) (λ none. refl) (λ some. refl)

written-of : (count from : ℕ) → written_in (write_of count from) ≡ stream count from
unfolding stream
written-of count from =
    cond_both (count == 0) [] (Write (stream count from) ∷ []) (λ (acts : List (Act Packet)). written_in acts ≡ stream count from)
    (λ none. sym (ap (λ n. stream n from) (eqb-true count 0 none))) (λ some. append-nil (stream count from))

closes-of : (count from : ℕ) → closes_in (write_of count from) ≡ 0
closes-of count from =
    cond_both (count == 0) [] (Write (stream count from) ∷ []) (λ (acts : List (Act Packet)). closes_in acts ≡ 0) (λ none. refl) (λ some. refl)

written-close : (b : Bool) → written_in (close_if b) ≡ []
written-close true = refl
written-close false = refl

closes-close : (b : Bool) → closes_in (close_if b) ≡ cond b 1 0
closes-close true = refl
closes-close false = refl

only-close : (x left bytes from : ℕ) → from ≤ bytes → left ≡ bytes - from → x ≤ left → 0 < cond (x == left) 1 0 → from + x ≡ bytes
only-close x left bytes from most is few some = grind arith

all-close : (x left bytes from : ℕ) → from ≤ bytes → left ≡ bytes - from → from + x ≡ bytes → 0 < cond (x == left) 1 0
all-close x left bytes from most is all = grind arith

writes-go : (bytes free : ℕ) (a : PlainApp) → a.counts.sent_bytes ≤ bytes → bytes ≤ 2 ^ 30 →
    let s = writes (bytes - a.counts.sent_bytes) free a in
    Goes bytes a.counts.sent_bytes s.state.counts.sent_bytes s.acts
writes-go bytes free a most limit =
    let from = a.counts.sent_bytes in
    let left = bytes - from in
    let count = min left free in
    let few : count ≤ left = omega arith in
    let to = sent-after count a (omega arith) in
    let acts = write_of count from ++ close_if (count == left) in
    let closes : closes_in acts ≡ cond (count == left) 1 0 =
    closes_in-append (write_of count from) (close_if (count == left)) ∙ ap (λ n. n + closes_in (close_if (count == left))) (closes-of count from)
    ∙ (let zero_first : 0 + closes_in (close_if (count == left)) ≡ closes_in (close_if (count == left)) = omega arith in zero_first) ∙ closes-close (count == left) in
    subst (λ (n : ℕ). Goes bytes from n acts) (sym to)
    (record {
      up = omega arith;
      most = omega arith;
      written =
          written_in-append (write_of count from) (close_if (count == left)) ∙ ap (λ l. written_in (write_of count from) ++ l) (written-close (count == left))
          ∙ append-nil (written_in (write_of count from)) ∙ written-of count from
          ∙ ap (λ n. stream n from) (let same : count ≡ from + count - from = omega arith in same);
      only = λ some. only-close count left bytes from most refl few (subst (λ (n : ℕ). 0 < n) closes some);
      closes = λ lacking all. subst (λ (n : ℕ). 0 < n) (sym closes) (all-close count left bytes from most refl all);
    })

-- ---- an input, and many

record StepGoes (dst port bytes mss from : ℕ) (to : PlainApp) (acts : List (Act Packet)) : Type 0 where
  kind : to.kind ≡ TcpBulk dst port bytes mss
  goes : Goes bytes from to.counts.sent_bytes acts

module _ (dst port bytes mss : ℕ) (limit : bytes ≤ 2 ^ 30) where
  step-goes : (a : PlainApp) (numbers : Numbers) (input : In Packet) → a.kind ≡ TcpBulk dst port bytes mss → a.counts.sent_bytes ≤ bytes →
      StepGoes dst port bytes mss a.counts.sent_bytes (step a numbers input).state (step a numbers input).acts
  step-goes a numbers (Tick now) is most =
      subst (λ kind. StepGoes dst port bytes mss a.counts.sent_bytes (ticks now kind a numbers).state (ticks now kind a numbers).acts) (sym is)
      (record { kind = is; goes = none-goes bytes a.counts.sent_bytes (Connect dst port mss ∷ []) most refl refl })
  step-goes a numbers (Got src sport packet) is most =
      subst (λ kind. StepGoes dst port bytes mss a.counts.sent_bytes (gets src sport packet kind a).state (gets src sport packet kind a).acts) (sym is)
      (record { kind = is; goes = none-goes bytes a.counts.sent_bytes [] most refl refl })
  step-goes a numbers Connected is most =
      subst (λ kind. StepGoes dst port bytes mss a.counts.sent_bytes (connected kind a).state (connected kind a).acts) (sym is)
      (record { kind = kind-after (min (bytes - a.counts.sent_bytes) first_room) a ∙ is; goes = writes-go bytes first_room a most limit })
  step-goes a numbers (Room free) is most =
      let left = bytes - a.counts.sent_bytes in
      subst (λ kind. StepGoes dst port bytes mss a.counts.sent_bytes (finds_room free kind a).state (finds_room free kind a).acts) (sym is)
      (cond_both (left == 0) (silent a) (writes left free a) (λ (s : Stepped PlainApp (Act Packet)). StepGoes dst port bytes mss a.counts.sent_bytes s.state s.acts)
      (λ none. record { kind = is; goes = none-goes bytes a.counts.sent_bytes [] most refl refl })
      (λ some. record { kind = kind-after (min left free) a ∙ is; goes = writes-go bytes free a most limit }))
  step-goes a numbers End is most = record { kind = is; goes = none-goes bytes a.counts.sent_bytes [] most refl refl }
  step-goes a numbers Reset is most = record { kind = is; goes = none-goes bytes a.counts.sent_bytes [] most refl refl }

  all-go : (inputs : List (In Packet)) (a : PlainApp) (numbers : Numbers) → a.kind ≡ TcpBulk dst port bytes mss → a.counts.sent_bytes ≤ bytes →
      Goes bytes a.counts.sent_bytes (app_after inputs a numbers).counts.sent_bytes (asked_over inputs a numbers)
  all-go [] a numbers is most = none-goes bytes a.counts.sent_bytes [] most refl refl
  all-go (input ∷ inputs) a numbers is most =
      let t = step a numbers input in
      let one = step-goes a numbers input is most in
      both-go bytes a.counts.sent_bytes t.state.counts.sent_bytes (app_after inputs t.state t.numbers).counts.sent_bytes t.acts (asked_over inputs t.state t.numbers)
      one.goes (all-go inputs t.state t.numbers one.kind one.goes.most)

pub writes_stream : (inputs : List (In Packet)) (number dst port bytes mss : ℕ) (numbers : Numbers) → bytes ≤ 2 ^ 30 →
    let a = idle number (TcpBulk dst port bytes mss) in
    WritesStream bytes (app_after inputs a numbers).counts.sent_bytes (asked_over inputs a numbers)
writes_stream inputs number dst port bytes mss numbers limit =
    let a = idle number (TcpBulk dst port bytes mss) in
    let to = (app_after inputs a numbers).counts.sent_bytes in
    let all = all-go dst port bytes mss limit inputs a numbers refl (let least : 0 ≤ bytes = omega arith in least) in
    record {
      most = all.most;
      written = all.written ∙ ap (λ n. stream n 0) (let same : to - 0 ≡ to = omega arith in same);
      only_behind_all = all.only;
      behind_all = all.closes;
    }
