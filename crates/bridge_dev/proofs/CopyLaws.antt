-- Copies that have gone out so far, seen with plain packets.
use Rattle.std.proofs.Common.{◌≡◌, ◌≢◌, ℕ, ◌+◌, List, [], ◌∷◌, ◌++◌, map, sym, ap, ◌∙◌, append_assoc}
use Rattle.std.proofs.lemmas.List.{append-nil, map_push}
use Rattle.sim_base.specs.Packet.{Packet}
use Rattle.bridge_dev.specs.declared.words.Act.{Act}
use Rattle.bridge_dev.specs.declared.words.Act.TheVariants.{Out}
use Rattle.bridge_dev.specs.Step.{others, outs}
use Rattle.bridge_dev.proofs.PortLaws.{others_here, others_next, others_zero}

pub none_yet : (old : List (Act Packet)) (frame : Packet) (port : ℕ) → old ≡ old ++ outs frame (others port 0)
none_yet old frame port = sym (ap (λ (ps : List ℕ). old ++ outs frame ps) (others_zero port) ∙ append-nil old)

-- the port where the frame came in is left out

pub left_out : (old now : List (Act Packet)) (frame : Packet) (port n : ℕ) → n ≡ port → now ≡ old ++ outs frame (others port n) →
    now ≡ old ++ outs frame (others port (n + 1))
left_out old now frame port n here e = e ∙ ap (λ (ps : List ℕ). old ++ outs frame ps) (sym (others_here port n here))

-- a copy goes out at each other port

one_more : (old : List (Act Packet)) (frame : Packet) (ps : List ℕ) (n : ℕ) → (old ++ outs frame ps) ++ Out n frame ∷ [] ≡ old ++ outs frame (ps ++ n ∷ [])
one_more old frame ps n =
    append_assoc old (outs frame ps) (Out n frame ∷ []) ∙ ap (λ (acts : List (Act Packet)). old ++ acts) (sym (map_push (λ (p : ℕ). Out p frame) ps n))

pub gone_out : {A : Type 0} (see : A → Act Packet) (old : List (Act Packet)) (before after : List A) (act : A) (frame : Packet) (port n : ℕ) → n ≢ port →
    after ≡ before ++ act ∷ [] → see act ≡ Out n frame → map see before ≡ old ++ outs frame (others port n) →
    map see after ≡ old ++ outs frame (others port (n + 1))
gone_out see old before after act frame port n apart e seen so_far =
    ap (map see) e ∙ map_push see before act ∙ ap (λ (a : Act Packet). map see before ++ a ∷ []) seen
    ∙ ap (λ (acts : List (Act Packet)). acts ++ Out n frame ∷ []) so_far ∙ one_more old frame (others port n) n
    ∙ ap (λ (ps : List ℕ). old ++ outs frame ps) (sym (others_next port n apart))
