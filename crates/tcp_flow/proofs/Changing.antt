-- A connection that takes an event, and is removed where it is closed.
use Rattle.std.proofs.Common.{◌≡◌, ℕ, ◌<◌, true, List, Option, Some, sym, ap, ◌∙◌}
use Rattle.std.specs.BTreeMap.{insert_entry, is_at}
use Rattle.std.specs.Map.{remove_entry, set_value}
use Rattle.std.specs.Ordering.{nat_cmp}
use Rattle.std.proofs.lemmas.Bool.{cond-true}
use Rattle.std.proofs.lemmas.Map.Views.{All-map-remove_entry, All-values-insert_entry, IfSome-lookup_from_All}
use Rattle.std.proofs.lemmas.Option.{MatchOption-at_some}
use Rattle.sim_base.specs.declared.numbers.Numbers.{Numbers}
use Rattle.tcp_conn.specs.Fits.{Fits}
use Rattle.tcp_flow.specs.declared.words.Event.{Event}
use Rattle.tcp_flow.specs.declared.conn.Conn.{Conn}
use Rattle.tcp_flow.specs.Conn.{happened}
use Rattle.tcp_flow.specs.Table.{AllFit, AllWait, happens, happens_to, is_closed, kept, under}
use Rattle.tcp_flow.proofs.Indexing.{remove-set}

pub state-removed : (es es' : List (ℕ × Conn)) (n now : ℕ) (event : Event) (numbers : Numbers) (k w : Conn) → under n es ≡ Some k →
    w ≡ (happened now event k numbers).conn → is_closed w.connection.phase ≡ true →
    es' ≡ remove_entry (is_at (nat_cmp n)) (set_value (is_at (nat_cmp n)) es w) → es' ≡ (happens n now event numbers es).state
state-removed es es' n now event numbers k w is done closed e =
    e ∙ remove-set (is_at (nat_cmp n)) es w
    ∙ sym (cond-true (is_closed w.connection.phase) (remove_entry (is_at (nat_cmp n)) es) (set_value (is_at (nat_cmp n)) es w) closed)
    ∙ ap (λ (v : Conn). kept n v es) done
    ∙ sym (ap (λ (o : Option Conn). (happens_to o n now event numbers es).state) is)

-- the positions of all fit as before, and all still wait

pub fits-at : (es : List (ℕ × Conn)) (n : ℕ) (k : Conn) → AllFit es → under n es ≡ Some k → Fits k.connection
fits-at es n k h is =
    MatchOption-at_some {A = Conn} (Unit {0}) (λ (c : Conn). Fits c.connection) k is (IfSome-lookup_from_All (λ (c : Conn). Fits c.connection) (is_at (nat_cmp n)) es h)

pub fits-removed : (es : List (ℕ × Conn)) (n : ℕ) → AllFit es → AllFit (remove_entry (is_at (nat_cmp n)) es)
fits-removed es n h = All-map-remove_entry (is_at (nat_cmp n)) (λ (e : ℕ × Conn). e.1) (λ (c : Conn). Fits c.connection) es h

pub fits-added : (es : List (ℕ × Conn)) (n : ℕ) (w : Conn) → AllFit es → Fits w.connection → AllFit (insert_entry nat_cmp es n w)
fits-added es n w h fit = All-values-insert_entry nat_cmp n w (λ (c : Conn). Fits c.connection) es h fit

pub waits-at : (es : List (ℕ × Conn)) (n : ℕ) (k : Conn) → AllWait es → under n es ≡ Some k → 0 < k.connection.round_trip.rto
waits-at es n k h is =
    MatchOption-at_some {A = Conn} (Unit {0}) (λ (c : Conn). 0 < c.connection.round_trip.rto) k is
    (IfSome-lookup_from_All (λ (c : Conn). 0 < c.connection.round_trip.rto) (is_at (nat_cmp n)) es h)

pub waits-removed : (es : List (ℕ × Conn)) (n : ℕ) → AllWait es → AllWait (remove_entry (is_at (nat_cmp n)) es)
waits-removed es n h = All-map-remove_entry (is_at (nat_cmp n)) (λ (e : ℕ × Conn). e.1) (λ (c : Conn). 0 < c.connection.round_trip.rto) es h

pub waits-added : (es : List (ℕ × Conn)) (n : ℕ) (w : Conn) → AllWait es → 0 < w.connection.round_trip.rto → AllWait (insert_entry nat_cmp es n w)
waits-added es n w h wait = All-values-insert_entry nat_cmp n w (λ (c : Conn). 0 < c.connection.round_trip.rto) es h wait
