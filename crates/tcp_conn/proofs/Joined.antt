-- Whatever happens to both ends of a connection is a history of the law of the delivered prefix.
use Rattle.std.proofs.Common.{◌≡◌, ℕ, suc, ◌+◌, ◌-◌, ◌^◌, ◌<◌, ◌≤◌, ◌||◌, Bool, true, false, cond, ⊎_elim, List, [], ◌∷◌, ◌++◌, map, length, length-append, take, drop, Option, None, Some, refl, sym, ap, subst, ◌∙◌, arith}
use Rattle.std.proofs.lemmas.List.{append-nil, drop-drop, length-take}
use Rattle.std.proofs.lemmas.Option.{slice_get-map, slice_get_within}
use Rattle.std.specs.List.{slice_get}
use Rattle.std.specs.Option.{option_map}
use Rattle.tcp_stream.specs.History.{Segment, Sink, Told, World, Event, CarriesWritten, MayHappen, IsHistory, IsPrefixOf, delivered, has_end, receive, written_at}
use Rattle.tcp_stream.specs.History.Event.{Write, Close, Send, Comes as SegmentComes}
use Rattle.tcp_stream.specs.History as law
use Rattle.tcp_stream.proofs.Histories.{history-append, run-append}
use Rattle.tcp_stream.proofs.Runs.{slice_get-take, slice_get-drop}
use Rattle.tcp_conn.specs.declared.words.Outgoing.{Outgoing}
use Rattle.tcp_conn.specs.declared.words.Effect.{Effect}
use Rattle.tcp_conn.specs.declared.words.Effect.TheVariants.{Emit}
use Rattle.tcp_conn.specs.declared.connection.Connection.{Connection}
use Rattle.tcp_conn.specs.Send.{Stepped, room}
use Rattle.tcp_conn.specs.Step.{hears, times_out}
use Rattle.tcp_conn.specs.Begin.{waiting, opening, heard_syn, writes, closes}
use Rattle.tcp_conn.specs.Following.{told_by, IsQuiet, TakesIn}
use Rattle.tcp_conn.specs.Ends.Happening.{Writes, Closes, OpenerHears, OpenerTimesOut, Comes, SinkTimesOut}
use Rattle.tcp_conn.specs.OnItsWay.{OnItsWay, on_its_way, with_sent}
use Rattle.tcp_conn.specs.Ends.{Ends, Happening, opener_steps, opens, sink_hears, sink_times_out, sink_steps, comes, happens, run, opened}
use Rattle.tcp_conn.proofs.Quiet.{times_out-quiet}
use Rattle.tcp_conn.proofs.SinkLaw.{hears-follows}
use Rattle.tcp_conn.proofs.OpenerState.{OpenerOf, Carries, AllCarry, Sends}
use Rattle.tcp_conn.proofs.OpenerHears.{hears-sends, times_out-sends}
use Rattle.tcp_conn.proofs.OpenerAsks.{room-is, writes-sends, closes-sends, opening-sends}

-- a segment on its way is one of the law's

abbrev segment_of : OnItsWay → Segment
segment_of s = record { seq = s.says.seq; syn = s.says.syn; fin = s.says.fin; bytes = s.bytes }

cut-written : (written : List ℕ) (before n position i byte : ℕ) → position ≡ suc before → slice_get (take n (drop before written)) i ≡ Some byte → written_at written (position + i) ≡ Some byte
cut-written written before n position i byte p e =
    let within : i < length (take n (drop before written)) = slice_get_within (take n (drop before written)) i byte e in
    let low : i < n = omega (arith, length-take n (drop before written)) in
    let at : position + i ≡ suc (before + i) = omega arith in
    ap (written_at written) at ∙ sym (slice_get-drop before written i (before + i) refl) ∙ sym (slice_get-take n (drop before written) i low) ∙ e

some-bytes : (n i byte : ℕ) (xs : List ℕ) → slice_get (take n xs) i ≡ Some byte → 0 < n
some-bytes n i byte xs e =
    let within : i < length (take n xs) = slice_get_within (take n xs) i byte e in omega (arith, length-take n xs)

carries-written : (written : List ℕ) (closed : Bool) (c : Connection) (o : Outgoing) → c.buffer ≡ drop (c.una - 1) written → Carries written closed c.una o →
    CarriesWritten written closed (segment_of (on_its_way c o))
carries-written written closed c o holds h =
    record {
      position = o.position;
      seq = refl;
      syn = h.syn;
      bytes = λ i byte e.
          let some : 0 < o.bytes = some-bytes o.bytes i byte (drop (o.position - c.una) c.buffer) e in
          let una = h.bytes some in
          let before : c.una - 1 + (o.position - c.una) ≡ o.position - 1 = omega arith in
          let part : drop (o.position - c.una) c.buffer ≡ drop (o.position - 1) written =
          ap (drop (o.position - c.una)) holds ∙ drop-drop (o.position - c.una) (c.una - 1) written ∙ ap (λ n. drop n written) before in
          let behind : o.position ≡ suc (o.position - 1) = omega arith in
          cut-written written (o.position - 1) o.bytes o.position i byte behind (sym (ap (λ l. slice_get (take o.bytes l) i) part) ∙ e);
      fin = λ e.
          let f = h.fin e in
          let none : length (take o.bytes (drop (o.position - c.una) c.buffer)) ≡ 0 = omega (arith, length-take o.bytes (drop (o.position - c.una) c.buffer)) in
          (f.0, omega arith);
    }

-- a world of the law that its events lead to
Reached : World → Type 0
Reached w = (events : List Event) × IsHistory law.opened events × (law.run law.opened events ≡ w)

then-event : (w : World) (e : Event) → Reached w → MayHappen w e → Reached (law.happens w e)
unfolding Reached
then-event w e r h = (
  r.0 ++ e ∷ [],
  history-append law.opened r.0 (e ∷ []) r.1 (subst (λ v. MayHappen v e) (sym r.2) h, tt),
  run-append law.opened r.0 (e ∷ []) ∙ ap (λ v. law.happens v e) r.2,
)

-- the law's world of both ends

abbrev sink_of : Option Connection → Sink
sink_of None = waiting
sink_of (Some c) = c.sink

abbrev world : List ℕ → Bool → List OnItsWay → Sink → List Told → World
world written closed sent sink told = record { written = written; closed = closed; sent = map segment_of sent; sink = sink; told = told }

abbrev world_of : Ends → World
world_of e = world e.written e.opener.closing e.sent (sink_of e.sink) e.told

abbrev IsSink : Option Connection → Type 0
IsSink None = Unit {0}
IsSink (Some c) = c.opener ≡ false

record Stands (e : Ends) : Type 0 where
  opener : OpenerOf e.written e.opener
  sink : IsSink e.sink
  reached : Reached (world_of e)

-- what an opener sends is sent in the law

all-sent : (written : List ℕ) (closed : Bool) (c : Connection) (effects : List Effect) (sent : List OnItsWay) (sink : Sink) (told : List Told) →
    c.buffer ≡ drop (c.una - 1) written → AllCarry written closed c.una effects →
    Reached (world written closed sent sink told) → Reached (world written closed (with_sent c effects sent) sink told)
all-sent written closed c [] sent sink told holds all r = r
all-sent written closed c (Emit o ∷ effects) sent sink told holds all r =
    all-sent written closed c effects (on_its_way c o ∷ sent) sink told holds all.1
    (then-event (world written closed sent sink told) (Send (segment_of (on_its_way c o))) r (carries-written written closed c o holds all.0))
all-sent written closed c (other ∷ effects) sent sink told holds all r = all-sent written closed c effects sent sink told holds all r

opener-stands : (e : Ends) (closed : Bool) (s : Stepped) → Sends e.written closed s → IsSink e.sink → Reached (world e.written closed e.sent (sink_of e.sink) e.told) → Stands (opener_steps e s)
opener-stands e closed s p side r =
    record {
      opener = p.next;
      sink = side;
      reached =
          subst (λ b. Reached (world e.written b (with_sent s.now s.effects e.sent) (sink_of e.sink) e.told)) (sym p.closing)
          (all-sent e.written closed s.now s.effects e.sent (sink_of e.sink) e.told p.next.holds p.all r);
    }

-- a write that takes bytes is one of the law's, and behind a close there is none
write-reached : (written bytes : List ℕ) (c : Connection) (sent : List OnItsWay) (sink : Sink) (told : List Told) →
    length (written ++ take (room c) bytes) ≤ 2 ^ 30 → Reached (world written c.closing sent sink told) →
    Reached (world (written ++ take (room c) bytes) c.closing sent sink told)
write-reached written bytes c sent sink told few r =
    elim c.closing as (λ b. c.closing ≡ b → length (written ++ take (room-is c b) bytes) ≤ 2 ^ 30 → Reached (world (written ++ take (room-is c b) bytes) c.closing sent sink told)) [
      | true ↦ λ _ _. subst (λ l. Reached (world l c.closing sent sink told)) (sym (append-nil written)) r
      | false ↦ λ e h.
          then-event (world written c.closing sent sink told) (Write (take (room-is c false) bytes)) r
          (e, omega (arith, length-append written (take (room-is c false) bytes)))
    ] refl few

writes-stand : (e : Ends) (now : ℕ) (bytes : List ℕ) → Stands e → Stands (happens e (Writes now bytes))
writes-stand e now bytes h =
    let p = writes-sends e.written now bytes e.opener h.opener in
    let s = writes now bytes e.opener in
    let d = record e { written = e.written ++ take (room e.opener) bytes } in
    opener-stands d e.opener.closing s p h.sink
    (write-reached e.written bytes e.opener e.sent (sink_of e.sink) e.told p.next.few h.reached)

closes-stand : (e : Ends) (now : ℕ) → Stands e → Stands (happens e (Closes now))
closes-stand e now h =
    opener-stands e true (closes now e.opener) (closes-sends e.written now e.opener h.opener) h.sink (then-event (world_of e) Close h.reached tt)

-- the sink takes a segment in as the law does, or takes nothing in

quiet-stands : (e : Ends) (c : Connection) (s : Stepped) → Stands (record e { sink = Some c }) → IsQuiet c s → Stands (sink_steps (record e { sink = Some c }) (Some s))
quiet-stands e c s h q =
    let told : e.told ++ told_by s.effects ≡ e.told = ap (λ l. e.told ++ l) q.told ∙ append-nil e.told in
    record {
      opener = h.opener;
      sink = q.side ∙ h.sink;
      reached =
          subst (λ k. Reached (world e.written e.opener.closing e.sent k (e.told ++ told_by s.effects))) (sym q.sink)
          (subst (λ l. Reached (world e.written e.opener.closing e.sent c.sink l)) (sym told) h.reached);
    }

law-takes : (w : World) (s : Segment) → w.sink.ended ≡ false → s.syn ≡ false → law.comes w (Some s) ≡ record w { sink = (receive w.sink s).0; told = w.told ++ (receive w.sink s).1 }
law-takes w s running no_syn =
    ap (λ b. cond b w (record w { sink = (receive w.sink s).0; told = w.told ++ (receive w.sink s).1 })) (ap (λ b. b || s.syn) running ∙ no_syn)

takes-stand : (e : Ends) (which : ℕ) (s : OnItsWay) (c : Connection) (t : Stepped) → slice_get e.sent which ≡ Some s → Stands (record e { sink = Some c }) → TakesIn c s.says s.bytes t →
    Stands (sink_steps (record e { sink = Some c }) (Some t))
takes-stand e which s c t there h taken =
    let w = world e.written e.opener.closing e.sent c.sink e.told in
    let found : slice_get (map segment_of e.sent) which ≡ Some (segment_of s) = slice_get-map segment_of e.sent which ∙ ap (option_map segment_of) there in
    let r = receive c.sink (segment_of s) in
    let is : law.comes w (slice_get (map segment_of e.sent) which) ≡ world e.written e.opener.closing e.sent r.0 (e.told ++ r.1) =
    ap (law.comes w) found ∙ law-takes w (segment_of s) taken.running taken.no_syn in
    record {
      opener = h.opener;
      sink = taken.side ∙ h.sink;
      reached =
          subst (λ k. Reached (world e.written e.opener.closing e.sent k (e.told ++ told_by t.effects))) (sym taken.sink)
          (subst (λ l. Reached (world e.written e.opener.closing e.sent r.0 (e.told ++ l))) (sym taken.told)
          (subst Reached is (then-event w (SegmentComes which) h.reached tt)));
    }

syn-stands : (e : Ends) (now : ℕ) → Stands (record e { sink = None }) → Stands (sink_steps (record e { sink = None }) (Some (heard_syn now)))
unfolding heard_syn
syn-stands e now h =
    record {
      opener = h.opener;
      sink = refl;
      reached = subst (λ l. Reached (world e.written e.opener.closing e.sent waiting l)) (sym (append-nil e.told)) h.reached;
    }

sink-hears-stands : (e : Ends) (now which : ℕ) (s : OnItsWay) (k : Option Connection) → slice_get e.sent which ≡ Some s → Stands (record e { sink = k }) →
    Stands (sink_steps (record e { sink = k }) (sink_hears now s k))
sink-hears-stands e now which s None there h =
    elim (opens s) as (λ b. Stands (sink_steps (record e { sink = None }) (cond b (Some (heard_syn now)) None))) [ true ↦ syn-stands e now h | false ↦ h ]
sink-hears-stands e now which s (Some c) there h =
    let t = hears now s.says s.bytes c in
    ⊎_elim (λ q. quiet-stands e c t h q) (λ q. takes-stand e which s c t there h q) (hears-follows now s.says s.bytes c h.sink)

comes-stand : (e : Ends) (now which : ℕ) → Stands e → Stands (happens e (Comes now which))
comes-stand e now which h =
    elim (slice_get e.sent which) as (λ o. slice_get e.sent which ≡ o → Stands (comes now e o)) [
      | None ↦ λ _. h
      | Some s ↦ λ there. sink-hears-stands e now which s e.sink there h
    ] refl

sink-times-out : (e : Ends) (now : ℕ) (k : Option Connection) → Stands (record e { sink = k }) → Stands (sink_steps (record e { sink = k }) (sink_times_out now k))
sink-times-out e now None h = h
sink-times-out e now (Some c) h = quiet-stands e c (times_out now c) h (times_out-quiet now c)

happens-stands : (e : Ends) (h : Happening) → Stands e → Stands (happens e h)
happens-stands e (Writes now bytes) s = writes-stand e now bytes s
happens-stands e (Closes now) s = closes-stand e now s
happens-stands e (OpenerHears now heard bytes) s =
    opener-stands e e.opener.closing (hears now heard bytes e.opener) (hears-sends e.written now heard bytes e.opener s.opener) s.sink s.reached
happens-stands e (OpenerTimesOut now) s =
    opener-stands e e.opener.closing (times_out now e.opener) (times_out-sends e.written now e.opener s.opener) s.sink s.reached
happens-stands e (Comes now which) s = comes-stand e now which s
happens-stands e (SinkTimesOut now) s = sink-times-out e now e.sink s

runs-stand : (e : Ends) (hs : List Happening) → Stands e → Stands (run e hs)
runs-stand e [] s = s
runs-stand e (h ∷ hs) s = runs-stand (happens e h) hs (happens-stands e h s)

opened-stands : (now mss : ℕ) → 0 < mss → Stands (opened now mss)
unfolding Reached
opened-stands now mss some =
    let s = opening now mss in
    opener-stands (record { opener = s.now; written = []; sent = []; sink = None; told = [] }) false s (opening-sends now mss some) tt ([], tt, refl)

-- so the law holds of them

pub prefix-holds : ((events : List Event) → IsHistory law.opened events → IsPrefixOf (delivered (law.run law.opened events).told) (law.run law.opened events).written) →
    (now mss : ℕ) (hs : List Happening) → 0 < mss → IsPrefixOf (delivered (run (opened now mss) hs).told) (run (opened now mss) hs).written
unfolding Reached
prefix-holds holds now mss hs some =
    let s = runs-stand (opened now mss) hs (opened-stands now mss some) in
    let r = s.reached in
    subst (λ w. IsPrefixOf (delivered w.told) w.written) r.2 (holds r.0 r.1)

pub end-holds : ((events : List Event) → IsHistory law.opened events → has_end (law.run law.opened events).told ≡ true →
    ((law.run law.opened events).closed ≡ true) × (delivered (law.run law.opened events).told ≡ (law.run law.opened events).written)) →
    (now mss : ℕ) (hs : List Happening) → 0 < mss → has_end (run (opened now mss) hs).told ≡ true →
    ((run (opened now mss) hs).opener.closing ≡ true) × (delivered (run (opened now mss) hs).told ≡ (run (opened now mss) hs).written)
unfolding Reached
end-holds holds now mss hs some =
    let s = runs-stand (opened now mss) hs (opened-stands now mss some) in
    let r = s.reached in
    subst (λ w. has_end w.told ≡ true → (w.closed ≡ true) × (delivered w.told ≡ w.written)) r.2 (holds r.0 r.1)
