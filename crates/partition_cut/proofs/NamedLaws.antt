-- The cuts of a network that have a name, part by part.
use Rattle.std.proofs.Common.{◌≡◌, ℕ, List, length, fold, map, min, Option, None, ap, ◌∙◌}
use Rattle.std.specs.Prelude.{replicate}
use Rattle.std.specs.List.{range_with_len}
use Rattle.sim_base.specs.declared.time.Time.{Time}
use Rattle.partition_cut.specs.AllowedCut.{lookahead_of}
use Rattle.partition_cut.specs.AutoCut.{joined, pairs_in, positive_delays, rank}
use Rattle.partition_cut.specs.Network.{PlainCut, PlainShape, group_at}
use Rattle.partition_cut.specs.NamedCut.{auto_cut, cut_by_labels, labels_in, median, one_cut}

-- a cut is what its parts are
abbrev pub cut_of : List ℕ → ℕ → Option Time → PlainCut
cut_of numbers groups lookahead = record { group_of = numbers; groups = groups; lookahead = lookahead }

pub named-one : (net : PlainShape) (numbers : List ℕ) (groups : ℕ) → numbers ≡ replicate net.nodes 0 → groups ≡ min net.nodes 1
    → cut_of numbers groups None ≡ one_cut net
named-one net numbers groups zeros some =
    ap (λ (l : List ℕ). cut_of l groups None) zeros ∙ ap (λ n. cut_of (replicate net.nodes 0) n None) some

pub named-auto : (net : PlainShape) (threshold : Option ℕ) (numbers : List ℕ) (groups : ℕ) (lookahead : Option Time)
    → threshold ≡ median (positive_delays net.links)
    → numbers ≡ map (rank (fold joined (range_with_len 0 net.nodes) (pairs_in threshold net.links net.lans))) (fold joined (range_with_len 0 net.nodes) (pairs_in threshold net.links net.lans))
    → groups ≡ rank (fold joined (range_with_len 0 net.nodes) (pairs_in threshold net.links net.lans)) (length (fold joined (range_with_len 0 net.nodes) (pairs_in threshold net.links net.lans)))
    → lookahead ≡ lookahead_of (group_at numbers) net.links
    → cut_of numbers groups lookahead ≡ auto_cut net
unfolding auto_cut
named-auto net threshold numbers groups lookahead found e g l =
    ap (λ (o : Option Time). cut_of numbers groups o) l
    ∙ ap (λ (ns : List ℕ). cut_of ns groups (lookahead_of (group_at ns) net.links)) e
    ∙ ap (λ n. let labels = fold joined (range_with_len 0 net.nodes) (pairs_in threshold net.links net.lans) in
    cut_of (map (rank labels) labels) n (lookahead_of (group_at (map (rank labels) labels)) net.links)) g
    ∙ ap (λ (o : Option ℕ). cut_by_labels net (fold joined (range_with_len 0 net.nodes) (pairs_in o net.links net.lans))) found
