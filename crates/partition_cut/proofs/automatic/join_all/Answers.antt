use Rattle.std.proofs.Common.{◌≡◌, ◌∙◌, ◌<◌, ℕ, List, All, length, fold, flat_map, sym, ap, subst, arith, Vec}
use Rattle.std.specs.Global.{Global}
use Rattle.std.proofs.lemmas.List.Sums.{fold-append}
use Rattle.partition_cut.specs.AutoCut.{joined, pairs_of_lan, pairs_of_links}
use Rattle.partition_cut.specs.Forest.{LeadTo}
use Rattle.partition_cut.specs.Network.{Link, node_lists}
use Rattle.partition_cut.proofs.automatic.join_all.Goals as goal

pub join_links-requires-clause-ends : goal.join_links-requires-clause-ends
join_links-requires-clause-ends c =
    let P : List Link → ℕ → Type 0 = λ links n. All (λ link. (link.0 < n) × (link.1 < n)) links in
    let Q : List Link → Type 0 = λ links. P links (length c.args.parents.now) in
    subst Q (sym c.deref.ensures.value) (subst (P c.args.shape.now.links.items) (sym c.requires.each) c.requires.shape.links)

pub join_lans-requires-clause-members : goal.join_lans-requires-clause-members
join_lans-requires-clause-members c =
    let P : List (Vec ℕ Global) → ℕ → Type 0 = λ lans n. All (λ lan. All (λ node. node < n) lan) (node_lists lans) in
    let Q : List (Vec ℕ Global) → Type 0 = λ lans. P lans (length c.join_links.new.parents) in
    let l : c.args.shape.now.nodes ≡ length c.join_links.new.parents = (let e = c.requires.each in omega arith) in
    subst Q (sym c.deref-2.ensures.value) (subst (P c.args.shape.now.lans.items) l c.requires.shape.lans)

pub returns-clause-leads : goal.returns-clause-leads
returns-clause-leads c labels lead =
    let links = c.args.shape.now.links.items in
    let lans = c.args.shape.now.lans.items in
    let P : List ℕ → Type 0 = λ ls. LeadTo c.join_lans.new.parents ls in
    let linked = fold joined labels (pairs_of_links c.args.threshold links) in
    let first = ap (λ (l : List Link). fold joined labels (pairs_of_links c.args.threshold l)) c.deref.ensures.value in
    subst P (ap (λ (l : List (Vec ℕ Global)). fold joined linked (flat_map pairs_of_lan (node_lists l))) c.deref-2.ensures.value
    ∙ sym (fold-append joined labels (pairs_of_links c.args.threshold links) (flat_map pairs_of_lan (node_lists lans))))
    (c.join_lans.ensures.leads linked (let Q : List ℕ → Type 0 = λ ls. LeadTo c.join_links.new.parents ls in
    subst Q first (c.join_links.ensures.leads labels lead)))
