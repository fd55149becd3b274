-- The tables of routes, one after the other.
use Rattle.std.proofs.Common.{◌≡◌, ℕ, ◌+◌, ◌<◌, List, ◌∷◌, map, length, get_or, drop, sym, ap, ◌∙◌, refl, suc, add-one, drop-cons, Option, None, Some, IsSome, ◌≤◌, inl, inr, [], arith, subst}
use Rattle.std.specs.List.{AllByRecursion}
use Rattle.ipv4_core.specs.declared.routes.Table.{Table}
use Rattle.ipv4_core.specs.declared.routes.Way.{Way}
use Rattle.ipv4_core.specs.Routes.{PlainTable, way_in, or_else, route, HasNoWay, IsFalling, IsIn, IsLongest}

abbrev pub seen : Table → PlainTable
seen t = record { prefix = t.prefix; ways = t.ways.entries }

-- the way by the tables from one on
pub route_from : (addr i : ℕ) (items : List Table) (item : Table) → i < length items → item ≡ get_or items i item → route addr (map seen (drop i items)) ≡ or_else (way_in (seen item) addr) (route addr (map seen (drop (i + 1) items)))
route_from addr i items item below at =
    rw (add-one, drop-cons items i item) (ap (λ t. or_else (way_in (seen t) addr) (route addr (map seen (drop (suc i) items)))) (sym at))

pub found : (addr i : ℕ) (items : List Table) (item : Table) (way : Way) (way_of : Option Way) → i < length items → item ≡ get_or items i item → way_in (seen item) addr ≡ Some way → way_of ≡ route addr (map seen (drop i items)) → Some way ≡ way_of
found addr i items item way way_of below at here from = sym (from ∙ route_from addr i items item below at ∙ ap (λ w. or_else w (route addr (map seen (drop (i + 1) items)))) here)

pub not_found : (addr i : ℕ) (items : List Table) (item : Table) (way_of : Option Way) → i < length items → item ≡ get_or items i item → way_in (seen item) addr ≡ None → way_of ≡ route addr (map seen (drop i items)) → way_of ≡ route addr (map seen (drop (i + 1) items))
not_found addr i items item way_of below at nothing from = from ∙ route_from addr i items item below at ∙ ap (λ w. or_else w (route addr (map seen (drop (i + 1) items)))) nothing

in_all : (P : PlainTable → Type 0) (tables : List PlainTable) (t : PlainTable) → AllByRecursion P tables → IsIn t tables → P t
in_all P [] t h is = absurd is
in_all P (u ∷ tables) t h (inl e) = subst P (sym e) h.0
in_all P (u ∷ tables) t h (inr is) = in_all P tables t h.1 is

at_most : (table : PlainTable) (tables : List PlainTable) (t : PlainTable) → AllByRecursion (λ u. u.prefix < table.prefix) tables → IsIn t (table ∷ tables) → t.prefix ≤ table.prefix
at_most table tables t below (inl e) = omega (arith, ap (λ u. u.prefix) e)
at_most table tables t below (inr is) = omega (arith, in_all (λ u. u.prefix < table.prefix) tables t below is)

none_is_some : (way : Option Way) → way ≡ None → IsSome way → ⊥
none_is_some None e h = cc
none_is_some (Some way) e h = cc

later : (addr : ℕ) (table : PlainTable) (tables : List PlainTable) (way : Way) → way_in table addr ≡ None → (r : IsLongest addr tables way) → (t : PlainTable) → IsIn t (table ∷ tables) → IsSome (way_in t addr) → t.prefix ≤ r.table.prefix
later addr table tables way none r t (inl e) some = absurd (none_is_some (way_in t addr) (ap (λ u. way_in u addr) e ∙ none) some)
later addr table tables way none r t (inr is) some = r.longest t is some

first_is_longest : (addr : ℕ) (table : PlainTable) (tables : List PlainTable) (way : Way) → AllByRecursion (λ t. t.prefix < table.prefix) tables → way_in table addr ≡ Some way → IsLongest addr (table ∷ tables) way
first_is_longest addr table tables way below here = record {
  table = table;
  held = inl refl;
  here = here;
  longest = λ t is some. at_most table tables t below is;
}

later_is_longest : (addr : ℕ) (table : PlainTable) (tables : List PlainTable) (way : Way) → way_in table addr ≡ None → IsLongest addr tables way → IsLongest addr (table ∷ tables) way
later_is_longest addr table tables way none r = record {
  table = r.table;
  held = inr r.held;
  here = r.here;
  longest = λ t is some. later addr table tables way none r t is some;
}

either : (addr : ℕ) (table : PlainTable) (tables : List PlainTable) (way : Way) → IsFalling (table ∷ tables) → (w : Option Way) → way_in table addr ≡ w → or_else w (route addr tables) ≡ Some way → (route addr tables ≡ Some way → IsLongest addr tables way) → IsLongest addr (table ∷ tables) way
either addr table tables way falls None at e more = later_is_longest addr table tables way at (more e)
either addr table tables way falls (Some v) at e more = first_is_longest addr table tables way falls.0 (at ∙ e)

-- the way that the tables give is that of the longest prefix
pub route_is_longest : (addr : ℕ) (tables : List PlainTable) (way : Way) → IsFalling tables → route addr tables ≡ Some way → IsLongest addr tables way
route_is_longest addr [] way falls e = absurd (cc)
route_is_longest addr (table ∷ tables) way falls e =
    either addr table tables way falls (way_in table addr) refl e (route_is_longest addr tables way falls.1)

no_first : (here later : Option Way) → or_else here later ≡ None → here ≡ None
no_first None later e = refl
no_first (Some way) later e = absurd (cc)

no_later : (here later : Option Way) → or_else here later ≡ None → later ≡ None
no_later None later e = e
no_later (Some way) later e = absurd (cc)

-- where the tables give no way, none has one
pub route_is_none : (addr : ℕ) (tables : List PlainTable) → route addr tables ≡ None → HasNoWay addr tables
route_is_none addr [] e t is = absurd is
route_is_none addr (table ∷ tables) e t (inl same) = ap (λ u. way_in u addr) same ∙ no_first (way_in table addr) (route addr tables) e
route_is_none addr (table ∷ tables) e t (inr is) =
    route_is_none addr tables (no_later (way_in table addr) (route addr tables) e) t is
