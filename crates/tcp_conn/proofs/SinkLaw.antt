-- A segment that a sink hears is taken in as the law of the delivered prefix does, or takes nothing in.
use Rattle.std.proofs.Common.{◌≡◌, ℕ, Bool, true, false, cond, ⊎_elim, inl, inr, List, [], ◌∷◌, ◌++◌, map, refl, sym, ap, subst, ◌∙◌}
use Rattle.std.proofs.lemmas.List.{append-nil}
use Rattle.tcp_stream.specs.History.{Told, receive}
use Rattle.tcp_stream.specs.History.Told.{Deliver as Delivered, End as Ended}
use Rattle.tcp_conn.specs.declared.words.Heard.{Heard}
use Rattle.tcp_conn.specs.declared.connection.Phase.{Phase}
use Rattle.tcp_conn.specs.declared.connection.Phase.TheVariants.{SynSent, Established, LastAck, Closed}
use Rattle.tcp_conn.specs.declared.connection.Connection.{Connection}
use Rattle.tcp_conn.specs.Send.{Stepped, silently, and_then, acknowledged, sent}
use Rattle.tcp_conn.specs.Step.{effect_of, carried, has_content, received, answered, taken_in, sink_takes, opener_takes, takes, acks, dropped, answers_syn, hears_reset, in_later_states, hears_in, hears}
use Rattle.tcp_conn.specs.Following.{told_by, IsQuiet, Follows}
use Rattle.tcp_conn.proofs.Quiet.{told_by-append, quiet-then, quiet-if, quiet-from, silent, sent-quiet, acknowledged-quiet, dropped-quiet, acks-quiet, answers-quiet, hears_reset-quiet, syn_sent-quiet}

told_by-effects : (told : List Told) → told_by (map effect_of told) ≡ told
told_by-effects [] = refl
told_by-effects (Delivered bytes ∷ told) = ap (λ l. Delivered bytes ∷ l) (told_by-effects told)
told_by-effects (Ended ∷ told) = ap (λ l. Ended ∷ l) (told_by-effects told)

answered-quiet : (now : ℕ) (c : Connection) → IsQuiet c (answered now c)
answered-quiet now c =
    let d = record c { phase = LastAck } in
    quiet-if c c.sink.ended (sent now false true 0 d) (acknowledged c)
    (quiet-from c d (sent now false true 0 d) refl refl (sent-quiet now false true 0 d))
    (acknowledged-quiet c)

-- a choice between a quiet step and one that follows the law
quiet-or : (c : Connection) (s : Heard) (bytes : List ℕ) (b : Bool) (x y : Stepped) → IsQuiet c x → (b ≡ false → Follows c s bytes y) → Follows c s bytes (cond b x y)
quiet-or c s bytes true x y q f = inl q
quiet-or c s bytes false x y q f = f refl

-- one that follows the law where it is made, and a quiet one
or-quiet : (c : Connection) (s : Heard) (bytes : List ℕ) (b : Bool) (x y : Stepped) → Follows c s bytes x → IsQuiet c y → Follows c s bytes (cond b x y)
or-quiet c s bytes true x y f q = f
or-quiet c s bytes false x y f q = inl q

taken_in-follows : (now : ℕ) (s : Heard) (bytes : List ℕ) (c : Connection) → s.syn ≡ false → Follows c s bytes (taken_in now s bytes c)
taken_in-follows now s bytes c no_syn =
    let r = receive c.sink (carried s bytes) in
    let d = record c { sink = r.0 } in
    let q = answered-quiet now d in
    quiet-or c s bytes c.sink.ended (acknowledged c) (and_then (received s bytes c) (answered now)) (acknowledged-quiet c)
    (λ running.
    inr (record {
      running = running;
      no_syn = no_syn;
      side = q.side;
      sink = q.sink;
      told =
          told_by-append (map effect_of r.1) (answered now d).effects
          ∙ ap (λ l. told_by (map effect_of r.1) ++ l) q.told
          ∙ append-nil (told_by (map effect_of r.1))
          ∙ told_by-effects r.1;
    }))

sink_takes-follows : (now : ℕ) (s : Heard) (bytes : List ℕ) (p : Phase) (c : Connection) → s.syn ≡ false → Follows c s bytes (sink_takes now s bytes p c)
sink_takes-follows now s bytes Established c no_syn = taken_in-follows now s bytes c no_syn
sink_takes-follows now s bytes LastAck c no_syn = inl (acknowledged-quiet c)
sink_takes-follows now s bytes other c no_syn = inl (silent c)

sink-side : (s : Heard) (bytes : List ℕ) (c : Connection) (b : Bool) (x y : Stepped) → b ≡ false → Follows c s bytes y → Follows c s bytes (cond b x y)
sink-side s bytes c b x y e f = subst (λ v. Follows c s bytes (cond v x y)) (sym e) f

takes-follows : (now : ℕ) (s : Heard) (bytes : List ℕ) (c : Connection) → c.opener ≡ false → s.syn ≡ false → Follows c s bytes (takes now s bytes c)
unfolding takes
takes-follows now s bytes c side no_syn =
    let x = cond (has_content s bytes) (sink_takes now s bytes c.phase c) (silently c) in
    sink-side s bytes c c.opener (opener_takes s c) x side
    (or-quiet c s bytes (has_content s bytes) (sink_takes now s bytes c.phase c) (silently c)
    (sink_takes-follows now s bytes c.phase c no_syn) (silent c))

-- after a quiet step
follows-then : (c : Connection) (s : Heard) (bytes : List ℕ) (x : Stepped) (f : Connection → Stepped) → IsQuiet c x → Follows x.now s bytes (f x.now) → Follows c s bytes (and_then x f)
follows-then c s bytes x f q h =
    ⊎_elim (λ r. inl (quiet-then c x f q r))
    (λ t.
    inr (record {
      running = sym (ap (λ k. k.ended) q.sink) ∙ t.running;
      no_syn = t.no_syn;
      side = t.side ∙ q.side;
      sink = t.sink ∙ ap (λ k. (receive k (carried s bytes)).0) q.sink;
      told =
          told_by-append x.effects (f x.now).effects
          ∙ ap (λ l. l ++ told_by (f x.now).effects) q.told
          ∙ t.told
          ∙ ap (λ k. (receive k (carried s bytes)).1) q.sink;
    }))
    h

later-follows : (now : ℕ) (s : Heard) (bytes : List ℕ) (c : Connection) → c.opener ≡ false → Follows c s bytes (in_later_states now s bytes c)
later-follows now s bytes c side =
    let a = acks now s bytes c in
    let taken = and_then a (takes now s bytes) in
    let q = acks-quiet now s bytes c in
    let carried_on = cond s.has_ack taken (dropped c) in
    quiet-or c s bytes s.rst (hears_reset s c) (cond s.syn (answers_syn now c.phase c) carried_on) (hears_reset-quiet s c)
    (λ _.
    quiet-or c s bytes s.syn (answers_syn now c.phase c) carried_on (answers-quiet now c.phase c)
    (λ no_syn.
    or-quiet c s bytes s.has_ack taken (dropped c)
    (follows-then c s bytes a (takes now s bytes) q (takes-follows now s bytes a.now (q.side ∙ side) no_syn))
    (dropped-quiet c)))

in-follows : (p : Phase) (now : ℕ) (s : Heard) (bytes : List ℕ) (c : Connection) → c.opener ≡ false → Follows c s bytes (hears_in p now s bytes c)
in-follows SynSent now s bytes c side = inl (syn_sent-quiet now s c)
in-follows Closed now s bytes c side = inl (silent c)
in-follows other now s bytes c side = later-follows now s bytes c side

pub hears-follows : (now : ℕ) (s : Heard) (bytes : List ℕ) (c : Connection) → c.opener ≡ false → Follows c s bytes (hears now s bytes c)
unfolding hears
hears-follows now s bytes c side = in-follows c.phase now s bytes c side
