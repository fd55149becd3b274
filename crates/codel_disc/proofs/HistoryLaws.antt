-- What holds after all calls of a new disc.
use Rattle.std.proofs.Common.{◌≡◌, ℕ, zero, suc, ◌-◌, ◌≤◌, Bool, true, false, cond, List, [], ◌∷◌, ◌++◌, map, fold, Option, Some, None, refl, sym, ap, subst}
use Rattle.std.proofs.lemmas.Bool.{cond_both, false≢true}
use Rattle.std.specs.List.{AllByRecursion}
use Rattle.std.specs.Option.{option_to_list}
use Rattle.std.specs.Prelude.{pos, int_lt}
use Rattle.sim_base.specs.Packet.{Packet}
use Rattle.codel_disc.specs.declared.kind.CodelKind.{CodelKind}
use Rattle.codel_disc.specs.declared.kind.CodelKind.TheVariants.{Codel, FqCodel}
use Rattle.codel_disc.specs.declared.turn.Turn.{Turn}
use Rattle.codel_disc.specs.declared.turn.Turn.TheVariants.{Gave, Passed, Over}
use Rattle.codel_disc.specs.declared.waiting.Waiting.{Waiting}
use Rattle.codel_disc.specs.Class as codel
use Rattle.codel_disc.specs.Class.{PlainClass, Taken}
use Rattle.codel_disc.specs.Control.{target}
use Rattle.codel_disc.specs.Disc.{PlainCodel, PlainQueues, alone, flows, is_full, offered, time_at, next, next_in}
use Rattle.codel_disc.specs.Flows as flow_queue
use Rattle.codel_disc.specs.Flows.{PlainFlows, Turned, class_at, credit_at, served_with, turn, turn_of, taken_in, followed, turns}
use Rattle.codel_disc.specs.History.{Call, offer, ask, Gone, History, begun, was_dropped, was_given, leaving, with_call, after, WaitedLong}
use Rattle.codel_disc.specs.Roster.{first}
use Rattle.codel_disc.specs.Runs.{HasWaited}
use Rattle.codel_disc.proofs.SoundLaws.{all_both}
use Rattle.codel_disc.proofs.TakenLaws.{next-waited}

-- frames that are dropped have waited

served_with-waited : (now k : ℕ) (f : PlainFlows) (t : Taken PlainClass) (o : Option (Waiting Packet)) → AllByRecursion (HasWaited now) t.dropped →
    AllByRecursion (HasWaited now) (served_with k f t o).dropped
served_with-waited now k f t (Some w) h = h
served_with-waited now k f t None h = h

turn_of-waited : (now : ℕ) (f : PlainFlows) (o : Option ℕ) → AllByRecursion (HasWaited now) (turn_of now f o).dropped
turn_of-waited now f None = tt
turn_of-waited now f (Some k) =
    cond_both (int_lt (pos 0) (credit_at k f)) _ _ (λ (t : Turned). AllByRecursion (HasWaited now) t.dropped)
    (λ _. served_with-waited now k f (codel.next now (class_at k f)) (codel.next now (class_at k f)).given (next-waited now (class_at k f)))
    (λ _. tt)

taken_in-waited : (now : ℕ) (t : Turned) (e : Turn (Waiting Packet)) (rest : Taken PlainFlows) → AllByRecursion (HasWaited now) t.dropped →
    AllByRecursion (HasWaited now) rest.dropped → AllByRecursion (HasWaited now) (taken_in t e rest).dropped
taken_in-waited now t (Gave w) rest a b = a
taken_in-waited now t Passed rest a b = all_both (HasWaited now) t.dropped rest.dropped a b
taken_in-waited now t Over rest a b = a

turns-waited : (n now : ℕ) (f : PlainFlows) → AllByRecursion (HasWaited now) (turns n now f).dropped
unfolding turns
turns-waited zero now f = tt
turns-waited (suc n) now f =
    taken_in-waited now (turn now f) (turn now f).ended (turns n now (turn now f).flows) (turn_of-waited now f (first f.roster)) (turns-waited n now (turn now f).flows)

next_in-waited : (now : ℕ) (q : PlainQueues) → AllByRecursion (HasWaited now) (next_in now q).dropped
next_in-waited now (alone c) = next-waited now c
next_in-waited now (flows f) = turns-waited _ now f

dropped_waited : (at : ℕ) (ws : List (Waiting Packet)) → AllByRecursion (HasWaited at) ws → AllByRecursion WaitedLong (map (was_dropped at) ws)
dropped_waited at [] h = tt
dropped_waited at (w ∷ ws) h = ((λ _. h.0), dropped_waited at ws h.1)

given_waited : (at : ℕ) (ws : List (Waiting Packet)) → AllByRecursion WaitedLong (map (was_given at) ws)
given_waited at [] = tt
given_waited at (w ∷ ws) = ((λ (never : false ≡ true). absurd (false≢true never)), given_waited at ws)

one_call-waited : (h : History) (call : Call) → AllByRecursion WaitedLong h.gone → AllByRecursion WaitedLong (with_call h call).gone
one_call-waited h (offer now frame) all = cond_both (is_full h.disc) _ _ (λ (q : History). AllByRecursion WaitedLong q.gone) (λ _. all) (λ _. all)
one_call-waited h (ask now) all =
    all_both WaitedLong h.gone _ all
    (all_both WaitedLong _ _
    (dropped_waited (time_at now h.disc) (next now h.disc).dropped (next_in-waited (time_at now h.disc) h.disc.queues))
    (given_waited (time_at now h.disc) (option_to_list (next now h.disc).given)))

all_calls-waited : (h : History) (calls : List Call) → AllByRecursion WaitedLong h.gone → AllByRecursion WaitedLong (fold with_call h calls).gone
all_calls-waited h [] all = all
all_calls-waited h (call ∷ calls) all = all_calls-waited (with_call h call) calls (one_call-waited h call all)

begun-waited : (kind : CodelKind) → AllByRecursion WaitedLong (begun kind).gone
begun-waited kind = tt

pub after-waited : (kind : CodelKind) (calls : List Call) → AllByRecursion WaitedLong (after kind calls).gone
after-waited kind calls = all_calls-waited (begun kind) calls (begun-waited kind)
