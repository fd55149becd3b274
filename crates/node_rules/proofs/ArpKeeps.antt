-- Address resolution leaves its node's number as it was.
use Rattle.std.proofs.Common.{◌≡◌, ℕ, nat_lt, Option, None, Some, refl}
use Rattle.std.proofs.lemmas.Bool.{cond_both}
use Rattle.sim_base.specs.declared.numbers.Numbers.{Numbers}
use Rattle.sim_base.specs.Packet.{Packet}
use Rattle.layer_words.specs.Acts.{Numbered}
use Rattle.arp_core.specs.declared.words.Act.{Act}
use Rattle.arp_core.specs.declared.words.In.{In}
use Rattle.arp_core.specs.declared.words.In.TheVariants.{Resolve, Heard, Timer}
use Rattle.arp_core.specs.Cache.{PlainCache, under}
use Rattle.arp_core.specs.Entry.{PlainEntry, counts, tries_under}
use Rattle.arp_core.specs.Step.{asks_again, begins_anew, fires_for, gives_up, goes_on, most_tries, resolves_by, step, times_out}

abbrev IsOfNode : Numbers → Numbered PlainCache (Act Packet) → Type 0
IsOfNode n s = s.numbers.node ≡ n.node

resolves-node : (o : Option PlainEntry) (now addr : ℕ) (packet : Packet) (c : PlainCache) (n : Numbers) → IsOfNode n (resolves_by o now addr packet c n)
resolves-node None now addr packet c n = refl
resolves-node (Some e) now addr packet c n =
    cond_both (counts now e.resolution) (goes_on addr packet e c n) (begins_anew now addr packet c n) (IsOfNode n) (λ _. refl) (λ _. refl)

times_out-node : (o : Option ℕ) (now addr : ℕ) (e : PlainEntry) (c : PlainCache) (n : Numbers) → IsOfNode n (times_out o now addr e c n)
times_out-node None now addr e c n = refl
times_out-node (Some tries) now addr e c n =
    cond_both (nat_lt tries most_tries) (asks_again now addr tries e c n) (gives_up now addr e c n) (IsOfNode n) (λ _. refl) (λ _. refl)

fires-node : (o : Option PlainEntry) (now addr stamp : ℕ) (c : PlainCache) (n : Numbers) → IsOfNode n (fires_for o now addr stamp c n)
fires-node None now addr stamp c n = refl
fires-node (Some e) now addr stamp c n = times_out-node (tries_under stamp e.resolution) now addr e c n

pub step-node : (c : PlainCache) (n : Numbers) (input : In Packet) → (step c n input).numbers.node ≡ n.node
step-node c n (Resolve now addr packet) = resolves-node (under addr c) now.0 addr packet c n
step-node c n (Heard now arp) = refl
step-node c n (Timer now addr stamp) = fires-node (under addr c) now.0 addr stamp c n
