-- What a token bucket lets through.
use Rattle.std.proofs.Common.{◌≡◌, ℕ, ◌+◌, ◌-◌, ◌*◌, ◌≤◌, leb, max, List, [], ◌∷◌, ◌++◌, Option, None, Some, fold, option_map, refl, ap, ◌∙◌, arith, leb-true}
use Rattle.std.proofs.Math.Nat.{mul-add, mul-le-mul_left}
use Rattle.std.proofs.lemmas.Bool.{cond_both}
use Rattle.std.proofs.lemmas.List.{append-nil}
use Rattle.std.proofs.lemmas.List.Sums.{sum_by-append}
use Rattle.sim_base.specs.declared.time.Rate.{Rate}
use Rattle.sim_base.specs.Packet.{Packet, len}
use Rattle.queue_discs.specs.declared.bucket.Bucket.{Bucket}
use Rattle.queue_discs.specs.declared.disc.DiscKind.TheVariants.{Tbf}
use Rattle.queue_discs.specs.declared.disc.Next.TheVariants.{Wait}
use Rattle.queue_discs.specs.Answers.{Taken, given, gives, gives_bytes, gives_for, next}
use Rattle.queue_discs.specs.Bands.{front, front_len}
use Rattle.queue_discs.specs.Bucket.{cost, filled, paid, wait}
use Rattle.queue_discs.specs.Disc.{PlainDisc, is_full, with_frame}
use Rattle.queue_discs.specs.History.{Call, offered, asked, History, IsInBudget, after, begun, cost_of, frame_of, latest_of, with_call}

-- a bucket that holds what is left of the budget up to a time of a run
record Leaves (rate most end : ℕ) (gone : List Packet) (b : Bucket) : Type 0 where
  rate_is : b.rate ≡ rate
  in_run : b.latest ≤ end
  budget : cost_of gone + b.credit ≤ most + rate * b.latest

abbrev LeavesIn : ℕ → ℕ → ℕ → List Packet → Option Bucket → Type 0
LeavesIn rate most end gone None = ⊥
LeavesIn rate most end gone (Some b) = Leaves rate most end gone b

times_latest : (rate latest now : ℕ) → rate * max latest now ≡ rate * latest + rate * (now - latest)
times_latest rate latest now =
    let later : max latest now ≡ latest + (now - latest) = omega arith in
    ap (λ n. rate * n) later ∙ mul-add rate latest (now - latest)

-- nothing leaves while credit comes in
fills : (rate most end now : ℕ) (gone : List Packet) (b : Bucket) → now ≤ end → Leaves rate most end gone b → Leaves rate most end gone (filled now b)
fills rate most end now gone b in_run h = record {
  rate_is = h.rate_is;
  in_run = let before : b.latest ≤ end = h.in_run in omega arith;
  budget =
      let brought : b.rate * (now - b.latest) ≡ rate * (now - b.latest) = ap (λ r. r * (now - b.latest)) h.rate_is in
      let all : rate * max b.latest now ≡ rate * b.latest + rate * (now - b.latest) = times_latest rate b.latest now in
      let before : cost_of gone + b.credit ≤ most + rate * b.latest = h.budget in
      omega arith;
}

-- a frame leaves, and pays
pays : (rate most end : ℕ) (gone out : List Packet) (bytes : ℕ) (b : Bucket) → cost_of out ≡ cost bytes → cost bytes ≤ b.credit → Leaves rate most end gone b
    → Leaves rate most end (gone ++ out) (paid bytes b)
pays rate most end gone out bytes b price enough h = record {
  rate_is = h.rate_is;
  in_run = h.in_run;
  budget =
      let sum : cost_of (gone ++ out) ≡ cost_of gone + cost_of out = sum_by-append (λ frame. cost (len frame)) gone out in
      let before : cost_of gone + b.credit ≤ most + rate * b.latest = h.budget in
      omega arith;
}

stays : (rate most end : ℕ) (gone : List Packet) (b : Bucket) → Leaves rate most end gone b → Leaves rate most end (gone ++ []) b
stays rate most end gone b h = record {
  rate_is = h.rate_is;
  in_run = h.in_run;
  budget =
      let same : cost_of (gone ++ []) ≡ cost_of gone = ap cost_of (append-nil gone) in
      let before : cost_of gone + b.credit ≤ most + rate * b.latest = h.budget in
      omega arith;
}

price_of : (frame : Option Packet) (bytes : ℕ) → option_map len frame ≡ Some bytes → cost_of (frame_of (given frame)) ≡ cost bytes
price_of None bytes is = cc
price_of (Some frame) bytes is =
    let size : len frame ≡ bytes = cc in
    let all : cost (len frame) ≡ cost bytes = ap cost size in
    omega arith

at_bytes : (rate most end now bytes : ℕ) (gone : List Packet) (d : PlainDisc) (b : Bucket) → front_len d.bands ≡ Some bytes → Leaves rate most end gone b
    → LeavesIn rate most end (gone ++ frame_of (gives_bytes bytes now b d).answer) (gives_bytes bytes now b d).disc.bucket
at_bytes rate most end now bytes gone d b is h =
    cond_both (leb (cost bytes) b.credit)
    (gives (record d { bucket = Some (paid bytes b) }))
    (record { answer = Wait (record { 0 = now + wait bytes b }); disc = record d { bucket = Some b } })
    (λ (t : Taken). LeavesIn rate most end (gone ++ frame_of t.answer) t.disc.bucket)
    (λ enough. pays rate most end gone (frame_of (given (front d.bands).frame)) bytes b (price_of (front d.bands).frame bytes is) (leb-true (cost bytes) b.credit enough) h)
    (λ _. stays rate most end gone b h)

at_front : (rate most end now : ℕ) (bytes : Option ℕ) (gone : List Packet) (d : PlainDisc) (b : Bucket) → front_len d.bands ≡ bytes → Leaves rate most end gone b
    → LeavesIn rate most end (gone ++ frame_of (gives_for bytes now b d).answer) (gives_for bytes now b d).disc.bucket
at_front rate most end now None gone d b is h = stays rate most end gone b h
at_front rate most end now (Some bytes) gone d b is h = at_bytes rate most end now bytes gone d b is h

at_bucket : (rate most end now : ℕ) (bucket : Option Bucket) (gone : List Packet) (d : PlainDisc) → now ≤ end → LeavesIn rate most end gone bucket
    → LeavesIn rate most end (gone ++ frame_of (next now (record d { bucket = bucket })).answer) (next now (record d { bucket = bucket })).disc.bucket
at_bucket rate most end now None gone d in_run h = absurd h
at_bucket rate most end now (Some b) gone d in_run h =
    at_front rate most end now (front_len d.bands) gone (record d { bucket = Some b }) (filled now b) refl (fills rate most end now gone b in_run h)

abbrev InBudget : ℕ → ℕ → ℕ → History → Type 0
InBudget rate most end h = LeavesIn rate most end h.given h.disc.bucket

all_calls : (rate most end : ℕ) (h : History) (calls : List Call) → latest_of calls ≤ end → InBudget rate most end h → InBudget rate most end (fold with_call h calls)
all_calls rate most end h [] in_run budget = budget
all_calls rate most end h (offered frame ∷ calls) in_run budget =
    let kept : History = record h { disc = with_frame frame h.disc; kept = h.kept ++ frame ∷ [] } in
    all_calls rate most end (with_call h (offered frame)) calls in_run
    (cond_both (is_full h.disc) h kept (InBudget rate most end) (λ full. budget) (λ room. budget))
all_calls rate most end h (asked now ∷ calls) in_run budget =
    all_calls rate most end (with_call h (asked now)) calls (omega (arith, in_run))
    (at_bucket rate most end now h.disc.bucket h.given h.disc (omega (arith, in_run)) budget)

spent : (rate most end : ℕ) (gone : List Packet) (bucket : Option Bucket) → LeavesIn rate most end gone bucket → cost_of gone ≤ most + rate * end
spent rate most end gone None h = absurd h
spent rate most end gone (Some b) h =
    let before : cost_of gone + b.credit ≤ most + rate * b.latest = h.budget in
    let so_far : rate * b.latest ≤ rate * end = mul-le-mul_left rate h.in_run in
    omega arith

-- after all calls of a new bucket
pub always_in_budget : (limit : ℕ) (rate : Rate) (burst : ℕ) (calls : List Call) → IsInBudget limit rate burst calls
always_in_budget limit rate burst calls =
    let h = after (Tbf limit rate burst) calls in
    spent rate.0 (cost burst) (latest_of calls) h.given h.disc.bucket
    (all_calls rate.0 (cost burst) (latest_of calls) (begun (Tbf limit rate burst)) calls (omega arith)
    (record { rate_is = refl; in_run = omega arith; budget = omega arith }))
