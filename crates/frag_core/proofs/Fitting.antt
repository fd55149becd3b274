-- What reassembly hands on fits a datagram.
use Rattle.std.proofs.Common.{◌≡◌, ℕ, zero, suc, List, [], ◌∷◌, All, length, sym, Option, None, Some}
use Rattle.std.specs.Prelude.{replicate}
use Rattle.std.specs.BTreeMap.{is_at}
use Rattle.std.specs.Map.{lookup}
use Rattle.std.specs.Ordering.{nat_cmp}
use Rattle.std.proofs.lemmas.List.Elements.{All-nil, All-cons, All-same}
use Rattle.sim_base.specs.Packet.{Packet}
use Rattle.frag_core.specs.declared.fragment.DatagramId.{DatagramId}
use Rattle.frag_core.specs.declared.words.Act.{Act}
use Rattle.frag_core.specs.declared.words.Act.TheVariants.{Dropped}
use Rattle.frag_core.specs.Inside.{PlainReassembly}
use Rattle.frag_core.specs.Step.{FitsDatagram, PlainFrags, fires, fires_for, given_up, under}

-- acts that are one act, no act, or others that fit

pub one-fits : (act : Act Packet) (acts : List (Act Packet)) → act ∷ [] ≡ acts → FitsDatagram act → All FitsDatagram acts
one-fits act acts is fits = All-same FitsDatagram acts (act ∷ []) (sym is) (All-cons FitsDatagram act [] fits (All-nil FitsDatagram))

pub none-fits : (acts : List (Act Packet)) → acts ≡ [] → All FitsDatagram acts
none-fits acts is = All-same FitsDatagram acts [] is (All-nil FitsDatagram)

pub same-fits : (made acts : List (Act Packet)) → made ≡ acts → All FitsDatagram made → All FitsDatagram acts
same-fits made acts is fits = All-same FitsDatagram acts made (sym is) fits

-- a timer only drops

drops-fit : (n : ℕ) → All FitsDatagram (replicate n Dropped)
drops-fit zero = All-nil FitsDatagram
drops-fit (suc n) = All-cons FitsDatagram Dropped (replicate n Dropped) tt (drops-fit n)

given_up-fits : (o : Option PlainReassembly) → All FitsDatagram (given_up o)
given_up-fits None = All-nil FitsDatagram
given_up-fits (Some r) = drops-fit (length r.held)

fires_for-fits : (o : Option DatagramId) (stamp : ℕ) (t : PlainFrags) → All FitsDatagram (fires_for o stamp t).acts
fires_for-fits None stamp t = All-nil FitsDatagram
fires_for-fits (Some id) stamp t = given_up-fits (under id t.datagrams)

pub fires_fit : (stamp : ℕ) (t : PlainFrags) → All FitsDatagram (fires stamp t).acts
fires_fit stamp t = fires_for-fits (lookup (is_at (nat_cmp stamp)) t.timers) stamp t
