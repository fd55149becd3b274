-- What stands under a key of a table that passed.
use Rattle.std.proofs.Common.{◌≡◌, ℕ, suc, ℤ, pos, negsuc, ◌+ℤ◌, ◌-◌, ◌≤◌, ◌<◌, ◌&&◌, nat_le, nat_lt, nat_eq, int_le, cond, Bool, true, false, List, [], ◌∷◌, length, Option, Some, None, option_map, option_and_then, unwrap_or, Ok, refl, ap, IfSome, arith}
use Rattle.std.specs.Prelude.{All}
use Rattle.std.proofs.lemmas.List.Elements.{All-nil, All-cons}
use Rattle.toml.specs.Data.{Data, Items, Members, as_integer, as_array, get_member}
use Rattle.sim_base.specs.declared.key.NodeId.{NodeId}
use Rattle.scenario_form.specs.declared.field.Code.TheVariants.{Range}
use Rattle.scenario_form.specs.declared.field.Item.TheVariants.{Node}
use Rattle.scenario_form.specs.declared.field.Form.TheVariants.{List as ListOf}
use Rattle.scenario_form.specs.Checks.{◌>>◌, require, refuse_as, each}
use Rattle.scenario_form.specs.Forms.{of_type, is_from_to, item_check, count_check, values_in}
use Rattle.scenario_form.specs.Rows.{must, may, integer, node, fault, value_check, row_check}
use Rattle.scenario_form.specs.Values.{natural, node_of, rate_of, time_of, number_in, number_at, number_or, node_at, list_at, nodes_in}
use Rattle.scenario_form.specs.Limits.{IsFromTo, IsRate, IsTimeFrom}
use Rattle.scenario_form.proofs.Steps.{first_ok, rest_ok, require_ok, refuse_ok}

-- ---- what a test that holds says

pub left_true : (a b : Bool) → (a && b) ≡ true → a ≡ true
left_true true b h = refl
left_true false b h = cc

pub right_true : (a b : Bool) → (a && b) ≡ true → b ≡ true
right_true true b h = h
right_true false b h = cc

pub not_more : (n m : ℕ) → nat_le n m ≡ true → n ≤ m
not_more n m h = grind arith

pub same_number : (n m : ℕ) → nat_eq n m ≡ true → n ≡ m
same_number n m h = grind arith

-- ---- numbers

lower : (least most n : ℕ) → (nat_le least n && nat_le n most) ≡ true → least ≤ n
lower least most n h = grind arith

upper : (least most n : ℕ) → (nat_le least n && nat_le n most) ≡ true → n ≤ most
upper least most n h = grind arith

pub between : (least most n : ℕ) → (nat_le least n && nat_le n most) ≡ true → IsFromTo least most n
between least most n h = record { from = lower least most n h; to = upper least most n h }

from_to : (low high : ℕ) (z : ℤ) → is_from_to (pos low) (pos high) z ≡ true → IsFromTo low high (natural z)
from_to low high (pos n) h = between low high n h
from_to low high (negsuc n) h = cc

integer_within : (low high default : ℕ) (o : Option ℤ) → of_type o (λ z. require (is_from_to (pos low) (pos high) z) Range) ≡ Ok tt
    → IsFromTo low high (unwrap_or (option_map natural o) default)
integer_within low high default None h = cc
integer_within low high default (Some z) h = from_to low high z (require_ok _ _ h)

pub integer_if : (low high : ℕ) (o : Option ℤ) → of_type o (λ z. require (is_from_to (pos low) (pos high) z) Range) ≡ Ok tt
    → IfSome (option_map natural o) (IsFromTo low high)
integer_if low high None h = tt
integer_if low high (Some z) h = from_to low high z (require_ok _ _ h)

must_field : (nodes n low high : ℕ) (k : List ℕ) (o : Option Data) → refuse_as (fault n) (value_check nodes (must n k (integer low high)) o) ≡ Ok tt
    → IsFromTo low high (unwrap_or (option_and_then number_in o) 0)
must_field nodes n low high k None h = cc
must_field nodes n low high k (Some d) h = integer_within low high 0 (as_integer d) (refuse_ok _ _ h)

-- a number that has to stand
pub must_number : (nodes n low high : ℕ) (k : List ℕ) (t : Members) → row_check nodes t (must n k (integer low high)) ≡ Ok tt → IsFromTo low high (number_or 0 k t)
must_number nodes n low high k t h = must_field nodes n low high k (get_member k t) h

may_field : (nodes n low high default : ℕ) (k : List ℕ) (o : Option Data) → IsFromTo low high default
    → refuse_as (fault n) (value_check nodes (may n k (integer low high)) o) ≡ Ok tt
    → IsFromTo low high (unwrap_or (option_and_then number_in o) default)
may_field nodes n low high default k None is h = is
may_field nodes n low high default k (Some d) is h = integer_within low high default (as_integer d) (refuse_ok _ _ h)

-- a number with a default
pub may_number : (nodes n low high default : ℕ) (k : List ℕ) (t : Members) → IsFromTo low high default → row_check nodes t (may n k (integer low high)) ≡ Ok tt
    → IsFromTo low high (number_or default k t)
may_number nodes n low high default k t is h = may_field nodes n low high default k (get_member k t) is h

if_field : (nodes n low high : ℕ) (k : List ℕ) (o : Option Data) → refuse_as (fault n) (value_check nodes (may n k (integer low high)) o) ≡ Ok tt
    → IfSome (option_and_then number_in o) (IsFromTo low high)
if_field nodes n low high k None h = tt
if_field nodes n low high k (Some d) h = integer_if low high (as_integer d) (refuse_ok _ _ h)

-- a number without a default that may be left out
pub if_number : (nodes n low high : ℕ) (k : List ℕ) (t : Members) → row_check nodes t (may n k (integer low high)) ≡ Ok tt → IfSome (number_at k t) (IsFromTo low high)
if_number nodes n low high k t h = if_field nodes n low high k (get_member k t) h

pub if_rate : (o : Option ℕ) → IfSome o (IsFromTo 1 1000000000000) → IfSome (option_map rate_of o) IsRate
if_rate None h = tt
if_rate (Some n) h = h

pub if_time : (least : ℕ) (o : Option ℕ) → IfSome o (IsFromTo least 1000000000000) → IfSome (option_map time_of o) (IsTimeFrom least)
if_time least None h = tt
if_time least (Some n) h = h

-- ---- node numbers

at_least_one : (nodes : ℕ) → nat_lt nodes 1 ≡ false → 1 ≤ nodes
at_least_one nodes h = grind arith

below_as : (nodes n : ℕ) (b : Bool) → nat_lt nodes 1 ≡ b → int_le (pos n) (cond b (negsuc (1 - suc nodes)) (pos (nodes - 1))) ≡ true → n < nodes
below_as nodes n true is h = cc
below_as nodes n false is h = let k : n ≤ nodes - 1 = not_more n (nodes - 1) h in let p : 1 ≤ nodes = at_least_one nodes is in omega (arith, k, p)

below : (nodes : ℕ) (z : ℤ) → is_from_to (pos 0) (pos nodes +ℤ negsuc 0) z ≡ true → (node_of (natural z)).0 < nodes
below nodes (pos n) h = let k : n < nodes = below_as nodes n (nat_lt nodes 1) refl (right_true (int_le (pos 0) (pos n)) (int_le (pos n) (pos nodes +ℤ negsuc 0)) h) in omega (arith, k)
below nodes (negsuc n) h = cc

node_within : (nodes default : ℕ) (o : Option ℤ) → of_type o (λ z. require (is_from_to (pos 0) (pos nodes +ℤ negsuc 0) z) Range) ≡ Ok tt
    → (node_of (unwrap_or (option_map natural o) default)).0 < nodes
node_within nodes default None h = cc
node_within nodes default (Some z) h = below nodes z (require_ok _ _ h)

node_field : (nodes n : ℕ) (k : List ℕ) (o : Option Data) → refuse_as (fault n) (value_check nodes (must n k node) o) ≡ Ok tt
    → (node_of (unwrap_or (option_and_then number_in o) 0)).0 < nodes
node_field nodes n k None h = cc
node_field nodes n k (Some d) h = node_within nodes 0 (as_integer d) (refuse_ok _ _ h)

-- a node's number
pub must_node : (nodes n : ℕ) (k : List ℕ) (t : Members) → row_check nodes t (must n k node) ≡ Ok tt → (node_at k t).0 < nodes
must_node nodes n k t h = node_field nodes n k (get_member k t) h

-- ---- lists of node numbers

-- the nodes of some values: one for each, with a number that a node has
pub record AreNodes (nodes : ℕ) (ds : List Data) : Type 0 where
  pub count : length (nodes_in ds) ≡ length ds
  pub below : All (λ id. id.0 < nodes) (nodes_in ds)

one_node : (nodes : ℕ) (d : Data) (ds : List Data) (o : Option ℤ) → as_integer d ≡ o
    → of_type o (λ z. require (is_from_to (pos 0) (pos nodes +ℤ negsuc 0) z) Range) ≡ Ok tt
    → AreNodes nodes ds → AreNodes nodes (d ∷ ds)
one_node nodes d ds None h passed are = cc
one_node nodes d ds (Some z) h passed are = record {
  count = rw h (ap suc are.count);
  below = rw h (All-cons (λ (id : NodeId). id.0 < nodes) (node_of (natural z)) (nodes_in ds) (below nodes z (require_ok _ _ passed)) are.below);
}

pub are_nodes : (nodes : ℕ) (ds : List Data) → each (item_check nodes Node) ds ≡ Ok tt → AreNodes nodes ds
are_nodes nodes [] h = record { count = refl; below = All-nil (λ (id : NodeId). id.0 < nodes) }
are_nodes nodes (d ∷ ds) h =
    one_node nodes d ds (as_integer d) refl (first_ok (item_check nodes Node d) (each (item_check nodes Node) ds) h)
    (are_nodes nodes ds (rest_ok (item_check nodes Node d) (each (item_check nodes Node) ds) h))

-- so many nodes, each with a number that a node has
pub record HasNodes (nodes least most : ℕ) (ids : List NodeId) : Type 0 where
  pub count : IsFromTo least most (length ids)
  pub below : All (λ id. id.0 < nodes) ids

same_count : (least most m n : ℕ) → m ≡ n → IsFromTo least most n → IsFromTo least most m
same_count least most m n same is = rw same is

array_nodes : (nodes least most : ℕ) (o : Option Items)
    → of_type o (λ ds. each (item_check nodes Node) (values_in ds) >> count_check least most (values_in ds)) ≡ Ok tt
    → HasNodes nodes least most (nodes_in (unwrap_or (option_map values_in o) []))
array_nodes nodes least most None h = cc
array_nodes nodes least most (Some ds) h =
    let are : AreNodes nodes (values_in ds) = are_nodes nodes (values_in ds) (first_ok _ _ h) in
    record {
      count = same_count least most _ _ are.count (between least most (length (values_in ds)) (require_ok _ _ (rest_ok _ _ h)));
      below = are.below;
    }

list_field : (nodes n least most : ℕ) (k : List ℕ) (o : Option Data) → refuse_as (fault n) (value_check nodes (must n k (ListOf Node least most)) o) ≡ Ok tt
    → HasNodes nodes least most (nodes_in (unwrap_or (option_map values_in (option_and_then as_array o)) []))
list_field nodes n least most k None h = cc
list_field nodes n least most k (Some d) h = array_nodes nodes least most (as_array d) (refuse_ok _ _ h)

-- a list of nodes
pub must_nodes : (nodes n least most : ℕ) (k : List ℕ) (t : Members) → row_check nodes t (must n k (ListOf Node least most)) ≡ Ok tt
    → HasNodes nodes least most (nodes_in (unwrap_or (list_at k t) []))
must_nodes nodes n least most k t h = list_field nodes n least most k (get_member k t) h
