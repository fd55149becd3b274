-- What guides give, and that it is what the scenario says.
use Rattle.std.proofs.Common.{◌≡◌, ◌≢◌, ℕ, zero, suc, ◌+◌, ◌<◌, ◌≤◌, Bool, true, false, List, [], ◌∷◌, ◌++◌, length, map, get_or, Option, Some, None, slice_get, refl, sym, ap, subst, ◌∙◌, arith}
use Rattle.std.specs.Prelude.{All, option_map}
use Rattle.std.specs.List.{cons_option, filter_map, range_with_len}
use Rattle.std.specs.Ordering.{nat_cmp}
use Rattle.std.specs.BTreeMap.{get}
use Rattle.std.proofs.lemmas.List.{append-nil, get_or_default, get_or-map}
use Rattle.std.proofs.lemmas.List.Elements.{All-cons, All-nil, All-tail, All-weaker, filter_map-append}
use Rattle.route_calc.specs.declared.graph.Graph.{Graph}
use Rattle.route_calc.specs.declared.graph.Net.{Net}
use Rattle.route_calc.specs.declared.graph.Reach.{Reach}
use Rattle.route_calc.specs.declared.graph.Reach.TheVariants.{Unreachable}
use Rattle.route_calc.specs.Least.{Lead, PlainNet, answer, least_lead, nets_of, plain}
use Rattle.route_calc.specs.Walks.{HasItsNodes, IsRow}
use Rattle.route_calc.proofs.LeastLaws.{reach-least}
use Rattle.scenario_form.specs.declared.scenario.Route.{Route}
use Rattle.scenario_form.specs.declared.scenario.Routing.{Routing}
use Rattle.scenario_form.specs.declared.scenario.Routing.TheVariants.{Static, Auto}
use Rattle.scenario_form.specs.declared.scenario.Scenario.{Scenario}
use Rattle.scenario_form.specs.Limits.{IsRoute}
use Rattle.sim_world.specs.declared.ends.End.{End}
use Rattle.sim_world.specs.declared.guide.Guide.{Guide}
use Rattle.sim_world.specs.declared.guide.Guide.TheVariants.{Least, Listed}
use Rattle.sim_world.specs.declared.guide.Map.{Map}
use Rattle.sim_world.specs.declared.routing.Entry.{Entry}
use Rattle.sim_world.specs.Ends.{ends_of}
use Rattle.sim_world.specs.Graph.{led, led_to, least_by, least_route, least_routes, net_at}
use Rattle.sim_world.specs.Guide.{IsGuide, IsGuideOf, IsMap, IsMapOf, guided, led_by, node_count}
use Rattle.sim_world.specs.Networks.{IsNetwork}
use Rattle.sim_world.specs.Routing.{first_on, holder_of, listed, listed_by, listed_routes, node_of, prefix_of, toward}
use Rattle.sim_world.specs.World.{all_ends, beyond_in, ends_in, nets_in, on_in, routes_in}
use Rattle.sim_world.specs.Grouping.{grouped}
use Rattle.sim_world.proofs.GroupLaws.{all_grouped, get_or-grouped, length-grouped}
use Rattle.sim_world.proofs.RangeLaws.{range-more}

-- ---- prefixes are short

abbrev IsShort : Entry → Type 0
IsShort e = prefix_of e ≤ 30

abbrev IsShortIfAny : Option Entry → Type 0
IsShortIfAny None = Unit {0}
IsShortIfAny (Some e) = IsShort e

short_more : (o : Option Entry) (es : List Entry) → IsShortIfAny o → All IsShort es → All IsShort (cons_option o es)
short_more None es h are = are
short_more (Some e) es h are = All-cons IsShort e es h are

short_toward : (r : Route) (o : Option End) → r.prefix ≤ 30 → IsShortIfAny (option_map (listed_by r) o)
short_toward r None h = tt
short_toward r (Some e) h = h

short_listed : (holder on : ℕ → Option End) (routes : List Route) → All (λ r. r.prefix ≤ 30) routes → All IsShort (filter_map (listed holder on) routes)
short_listed holder on [] are = All-nil IsShort
short_listed holder on (r ∷ routes) are =
    short_more (listed holder on r) (filter_map (listed holder on) routes) (short_toward r (toward on (holder r.via)) (are 0 r (omega arith)))
    (short_listed holder on routes (All-tail (λ (r : Route). r.prefix ≤ 30) r routes are))

short_by : (there : End) (neighbour : ℕ) (o : Option End) → IsNetwork there.network → IsShortIfAny (option_map (least_by there neighbour) o)
short_by there neighbour None is = tt
short_by there neighbour (Some e) is = is.prefix

short_led : (ends : List End) (lead : Option Lead) (there : List End) → All (λ e. IsNetwork e.network) there → IsShortIfAny (led ends lead (slice_get there 0))
short_led ends None there are = tt
short_led ends (Some lead) [] are = tt
short_led ends (Some lead) (e ∷ there) are = short_by e lead.neighbour (slice_get ends lead.iface) (are 0 e (omega arith))

none_networks : All (λ (e : End). IsNetwork e.network) []
none_networks = All-nil (λ (e : End). IsNetwork e.network)

there_at : (on : List (List End)) (t : ℕ) → All (All (λ e. IsNetwork e.network)) on → All (λ e. IsNetwork e.network) (get_or on t [])
there_at [] t are = none_networks
there_at (there ∷ on) zero are = are 0 there (omega arith)
there_at (there ∷ on) (suc t) are = there_at on t (All-tail (All (λ (e : End). IsNetwork e.network)) there on are)

short_least : (nets : List PlainNet) (on : List (List End)) (nodes node : ℕ) (ends : List End) (from count : ℕ) → All (All (λ e. IsNetwork e.network)) on
    → All IsShort (filter_map (least_route nets on nodes node ends) (range_with_len from count))
short_least nets on nodes node ends from zero are = All-nil IsShort
short_least nets on nodes node ends from (suc count) are =
    short_more (least_route nets on nodes node ends from) (filter_map (least_route nets on nodes node ends) (range_with_len (from + 1) count))
    (short_led ends (least_lead nets nodes node (net_at nets from)) (get_or on from []) (there_at on from are))
    (short_least nets on nodes node ends (from + 1) count are)

routes_at : (routes : List (List Route)) (n : ℕ) → All (All (λ r. r.prefix ≤ 30)) routes → All (λ r. r.prefix ≤ 30) (get_or routes n [])
routes_at [] n are = All-nil (λ (r : Route). r.prefix ≤ 30)
routes_at (there ∷ routes) zero are = are 0 there (omega arith)
routes_at (there ∷ routes) (suc n) are = routes_at routes n (All-tail (All (λ (r : Route). r.prefix ≤ 30)) there routes are)

pub short_routes : (guide : Guide) (n : ℕ) (ends : List End) → IsGuide guide → All (λ e. prefix_of e ≤ 30) (guided guide n ends)
short_routes (Listed routes holders) n ends is =
    short_listed (get nat_cmp holders) (first_on ends) (get_or routes.items n []) (routes_at routes.items n is)
short_routes (Least map) n ends is = short_least (nets_of map.graph) map.on.items map.graph.nodes n ends 0 (length (nets_of map.graph)) is.networks

pub short_list : (holder : ℕ → Option End) (ends : List End) (routes : List Route) → All (λ r. r.prefix ≤ 30) routes → All (λ e. prefix_of e ≤ 30) (listed_routes holder ends routes)
short_list holder ends routes are = short_listed holder (first_on ends) routes are

pub short_grouped : (nodes : ℕ) (routes : List Route) → All (IsRoute nodes) routes → All (All (λ r. r.prefix ≤ 30)) (grouped node_of nodes routes)
short_grouped nodes routes are =
    let P : Route → Type 0 = λ r. r.prefix ≤ 30 in
    all_grouped node_of nodes P routes (All-weaker (IsRoute nodes) P (λ r is. is.prefix.to) routes are)

-- ---- the routes of a scenario

in_lists : (s : Scenario) (routes : List (List Route)) (holder : ℕ → Option End) (n : ℕ) (how : Routing) → n < s.nodes → how ≡ Static
    → routes ≡ grouped node_of s.nodes s.routes → ((addr : ℕ) → holder addr ≡ holder_of (all_ends s) addr)
    → listed_routes holder (ends_in s n) (get_or routes n []) ≡ beyond_in how s n
in_lists s routes holder n how lt static are who =
    (λ i. listed_routes (λ addr. who addr i) (ends_in s n) (get_or (are i) n []))
    ∙ ap (listed_routes (holder_of (all_ends s)) (ends_in s n)) (get_or-grouped node_of s.nodes s.routes n [] lt)
    ∙ ap (λ (how : Routing). beyond_in how s n) (sym static)

by_map : (s : Scenario) (map : Map) (n : ℕ) (how : Routing) → how ≡ Auto → IsMapOf s map
    → least_routes (nets_of map.graph) map.on.items map.graph.nodes n (ends_in s n) ≡ beyond_in how s n
by_map s map n how auto is =
    (λ i. least_routes (is.nets i) (is.on i) (is.nodes i) n (ends_in s n)) ∙ ap (λ (how : Routing). beyond_in how s n) (sym auto)

pub guided_is : (s : Scenario) (guide : Guide) (n : ℕ) → n < s.nodes → IsGuideOf s guide → guided guide n (ends_in s n) ≡ beyond_in s.routing s n
guided_is s (Listed routes holders) n lt is = in_lists s routes.items (get nat_cmp holders) n s.routing lt is.0 is.1 is.2
guided_is s (Least map) n lt is = by_map s map n s.routing is.0 is.1

pub counted : (s : Scenario) (guide : Guide) → IsGuideOf s guide → node_count guide ≡ s.nodes
counted s (Listed routes holders) is = ap length is.1 ∙ length-grouped node_of s.nodes s.routes
counted s (Least map) is = is.1.nodes

-- ---- rows say what the least walks do

same_filter : (f g : ℕ → Option Entry) (from count : ℕ) → ((t : ℕ) → t < from + count → f t ≡ g t) → filter_map f (range_with_len from count) ≡ filter_map g (range_with_len from count)
same_filter f g from zero same = refl
same_filter f g from (suc count) same =
    ap (λ o. cons_option o (filter_map f (range_with_len (from + 1) count))) (same from (omega arith))
    ∙ ap (cons_option (g from)) (same_filter f g (from + 1) count (λ t lt. same t (omega (arith, lt))))

length_nets : (nets : List Net) → length (map plain nets) ≡ length nets
length_nets [] = refl
length_nets (net ∷ nets) = ap suc (length_nets nets)

-- what stands at a place
at_place : (g : Graph) (node t : ℕ) (row : List Reach) (net : Net) (reach : Reach) → HasItsNodes g → All (λ n. 1 ≤ n.cost) g.nets.items → IsRow g node row
    → t < length g.nets.items → net ≡ get_or g.nets.items t net → reach ≡ get_or row t reach → answer reach ≡ least_lead (nets_of g) g.nodes node (plain net)
at_place g node t row net reach its some is lt at here =
    reach-least g node net reach its some
    (is.each t net reach (record { within = lt; here = sym at }) (record { within = omega (arith, lt, is.nets); here = sym here }))

-- the element at a place of a list that is long enough, whatever stands elsewhere
at_any : (g : Graph) (node t : ℕ) (row : List Reach) (nets : List Net) → HasItsNodes g → All (λ n. 1 ≤ n.cost) g.nets.items → IsRow g node row
    → nets ≡ g.nets.items → t < length nets → answer (get_or row t Unreachable) ≡ least_lead (nets_of g) g.nodes node (net_at (nets_of g) t)
at_any g node t row [] its some is same lt = absurd (omega (arith, lt))
at_any g node t row (first ∷ more) its some is same lt =
    let nets : List Net = g.nets.items in
    let inside : t < length nets = subst (λ (ns : List Net). t < length ns) same lt in
    let net : Net = get_or nets t first in
    let at : net ≡ get_or nets t net = get_or_default nets t first net inside in
    let long : t < length row = omega (arith, inside, is.nets) in
    let reach : Reach = get_or row t Unreachable in
    let here : reach ≡ get_or row t reach = get_or_default row t Unreachable reach long in
    at_place g node t row net reach its some is inside at here
    ∙ ap (least_lead (nets_of g) g.nodes node) (sym (get_or-map plain nets t first (record { cost = 0; members = [] }) inside))

pub least_is : (map : Map) (node : ℕ) (row : List Reach) (ends : List End) → IsMap map → IsRow map.graph node row
    → filter_map (led_by row map.on.items ends) (range_with_len 0 (length row)) ≡ least_routes (nets_of map.graph) map.on.items map.graph.nodes node ends
least_is map node row ends is rows =
    let long : length row ≡ length (nets_of map.graph) = rows.nets ∙ sym (length_nets map.graph.nets.items) in
    ap (λ count. filter_map (led_by row map.on.items ends) (range_with_len 0 count)) long
    ∙ same_filter (led_by row map.on.items ends) (least_route (nets_of map.graph) map.on.items map.graph.nodes node ends) 0 (length (nets_of map.graph))
    (λ t lt. let inside : t < length map.graph.nets.items = omega (arith, lt, length_nets map.graph.nets.items) in
    ap (λ lead. led ends lead (slice_get (get_or map.on.items t []) 0)) (at_any map.graph node t row map.graph.nets.items is.its_nodes is.some rows refl inside))

-- ---- one network more

led_more : (f : ℕ → Option Entry) (t : ℕ) (old new : List Entry) (o : Option Entry) → old ≡ filter_map f (range_with_len 0 t) → f t ≡ o → new ≡ old ++ cons_option o []
    → new ≡ filter_map f (range_with_len 0 (t + 1))
led_more f t old new o so_far is grown =
    grown ∙ ap (λ es. es ++ cons_option o []) so_far ∙ ap (λ o. filter_map f (range_with_len 0 t) ++ cons_option o []) (sym is)
    ∙ sym (ap (filter_map f) (range-more t) ∙ filter_map-append f (range_with_len 0 t) (t ∷ []))

pub led_some : (f : ℕ → Option Entry) (t : ℕ) (old new : List Entry) (e : Entry) → old ≡ filter_map f (range_with_len 0 t) → f t ≡ Some e → new ≡ old ++ e ∷ []
    → new ≡ filter_map f (range_with_len 0 (t + 1))
led_some f t old new e so_far is grown = led_more f t old new (Some e) so_far is grown

pub led_none : (f : ℕ → Option Entry) (t : ℕ) (old new : List Entry) → old ≡ filter_map f (range_with_len 0 t) → f t ≡ None → new ≡ old
    → new ≡ filter_map f (range_with_len 0 (t + 1))
led_none f t old new so_far is same = led_more f t old new None so_far is (same ∙ sym (append-nil old))

-- what stands at a place, as it was read
pub led_read : (row : List Reach) (on : List (List End)) (ends : List End) (t : ℕ) (d : Reach) (there es : List End) (r : Option Entry) → t < length row → t < length on
    → es ≡ there → there ≡ get_or on t there → r ≡ led ends (answer (get_or row t d)) (slice_get es 0) → led_by row on ends t ≡ r
led_read row on ends t d there es r lt inside same at is =
    (λ i. led ends (answer (get_or_default row t Unreachable d lt i)) (slice_get (get_or_default on t [] there inside i) 0))
    ∙ ap (λ (es : List End). led ends (answer (get_or row t d)) (slice_get es 0)) (sym (same ∙ at)) ∙ sym is
