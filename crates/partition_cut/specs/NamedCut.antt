-- The cuts of a network that have a name, as functions of the network: of one group, of listed groups, and the automatic one.
use Rattle.std.specs.Prelude.{ℕ, ◌-◌, ◌/◌, ◌&&◌, not, Bool, nat_lt, min, List, count_by, fold, length, map, replicate, Option, None}
use Rattle.std.specs.List.{find, range_with_len}
use Rattle.partition_cut.specs.AllowedCut.{lookahead_of}
use Rattle.partition_cut.specs.AutoCut.{joined, pairs_in, positive_delays, rank}
use Rattle.partition_cut.specs.Network.{PlainCut, PlainShape, group_at}
use Rattle.partition_cut.specs.Refusal.{groups_in}

-- all nodes are in one group
abbrev pub one_cut : PlainShape → PlainCut
one_cut net = record { group_of = replicate net.nodes 0; groups = min net.nodes 1; lookahead = None }

-- each node is in the group that lists it
abbrev pub listed_cut : PlainShape → List (List ℕ) → PlainCut
listed_cut net groups = record {
  group_of = groups_in net.nodes groups;
  groups = length groups;
  lookahead = lookahead_of (group_at (groups_in net.nodes groups)) net.links;
}

-- a delay that stands at index (n - 1) / 2 of the n delays in their order: no more than so many are less, and with those that
-- are equal there are more
abbrev pub is_median : List ℕ → ℕ → Bool
is_median delays delay =
    let middle = (length delays - 1) / 2 in
    not (nat_lt middle (count_by (λ other. nat_lt other delay) delays)) && nat_lt middle (count_by (λ other. not (nat_lt delay other)) delays)

-- the median of some delays, if there are any
abbrev pub median : List ℕ → Option ℕ
median delays = find (is_median delays) delays

-- the least node that each node is joined to, by links below the median of the positive delays and by LANs
abbrev pub labels_in : PlainShape → List ℕ
labels_in net = fold joined (range_with_len 0 net.nodes) (pairs_in (median (positive_delays net.links)) net.links net.lans)

-- nodes that are joined are in one group; groups are numbered in the order of their least nodes
abbrev pub cut_by_labels : PlainShape → List ℕ → PlainCut
cut_by_labels net labels = record {
  group_of = map (rank labels) labels;
  groups = rank labels (length labels);
  lookahead = lookahead_of (group_at (map (rank labels) labels)) net.links;
}

unfoldable pub auto_cut : PlainShape → PlainCut
auto_cut net = cut_by_labels net (labels_in net)
