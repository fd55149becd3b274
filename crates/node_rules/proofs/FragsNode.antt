-- A step of reassembly leaves the number of the node.
use Rattle.std.proofs.Common.{◌≡◌, ℕ, [], Option, None, Some, refl}
use Rattle.std.proofs.lemmas.Bool.{cond_both}
use Rattle.sim_base.specs.declared.numbers.Numbers.{Numbers}
use Rattle.sim_base.specs.Packet.{Packet}
use Rattle.layer_words.specs.Acts.{Numbered}
use Rattle.frag_core.specs.declared.fragment.Fragment.{Fragment}
use Rattle.frag_core.specs.declared.words.Act.{Act}
use Rattle.frag_core.specs.declared.words.In.{In}
use Rattle.frag_core.specs.declared.words.In.TheVariants.{Piece, Timer}
use Rattle.frag_core.specs.Fragment.{id_of}
use Rattle.frag_core.specs.Held.{is_refused}
use Rattle.frag_core.specs.Inside.{PlainReassembly}
use Rattle.frag_core.specs.Step.{PlainFrags, begins, comes_to, dropped, goes_on, step, under}

-- the node of what an input leaves
abbrev Stays : Numbers → Numbered PlainFrags (Act Packet) → Type 0
Stays n s = s.numbers.node ≡ n.node

comes-node : (now : ℕ) (f : Fragment Packet) (o : Option PlainReassembly) (t : PlainFrags) (n : Numbers) → Stays n (comes_to now f o t n)
comes-node now f None t n = cond_both (is_refused [] f) (dropped t n) (begins now f t n) (Stays n) (λ refused. refl) (λ first. refl)
comes-node now f (Some r) t n = cond_both (is_refused r.held f) (dropped t n) (goes_on f r t n) (Stays n) (λ refused. refl) (λ more. refl)

pub frags-node : (t : PlainFrags) (n : Numbers) (input : In Packet) → (step t n input).numbers.node ≡ n.node
frags-node t n (Piece now head packet) = comes-node now.0 (record { head = head; packet = packet }) (under (id_of head) t.datagrams) t n
frags-node t n (Timer stamp) = refl
