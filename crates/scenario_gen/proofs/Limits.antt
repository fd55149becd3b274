-- The demo's scenario keeps the limits of the scenario language.
use Rattle.std.proofs.Common.{◌≡◌, ◌≢◌, ℕ, zero, suc, ◌+◌, ◌-◌, ◌*◌, ◌/◌, ◌%◌, ◌<◌, ◌≤◌, ◌⊎◌, inl, inr, nat_eq, Bool, true, false, List, [], ◌∷◌, ◌++◌, length, map, Some, Ok, refl, sym, ap, subst, ◌∙◌, arith, rules}
use Rattle.std.specs.Prelude.{All, not, ◌&&◌, ◌||◌}
use Rattle.std.specs.List.{AllByRecursion, enumerate_from, filter_map, flat_map, list_any, range_with_len}
use Rattle.std.proofs.lemmas.Bool.{cases_eq}
use Rattle.std.proofs.lemmas.List.Elements.{All-append, All-cons, All-map, All-nil}
use Rattle.std.proofs.lemmas.List.FromFn.{get_or-range_with_len, length-map-range_with_len, length-range_with_len}
use Rattle.scenario_form.specs.declared.refusal.Place.{Place}
use Rattle.scenario_form.specs.declared.refusal.Refusal.{Refusal}
use Rattle.scenario_form.specs.declared.interface.Interface.{Interface}
use Rattle.scenario_form.specs.declared.scenario.App.{App}
use Rattle.scenario_form.specs.declared.scenario.Link.{Link}
use Rattle.scenario_form.specs.declared.scenario.Kind.TheVariants.{UdpSink, TcpSink}
use Rattle.scenario_form.specs.declared.field.Code.TheVariants.{Own, Twice}
use Rattle.scenario_form.specs.declared.refusal.Refusal.TheVariants.{Schema}
use Rattle.scenario_form.specs.Checks.{Check, ◌>>◌, require, each}
use Rattle.scenario_form.specs.Networks.{Network, same_network, share_network}
use Rattle.scenario_form.specs.Across.{across_check, addresses_check, interfaces, is_own, link_ends, link_network, listened, networks_check, none_twice, own_check, owns_check, ports_check, same_port, uses_check}
use Rattle.scenario_form.specs.Walk.{place}
use Rattle.scenario_form.specs.Limits.{IsApp, IsLan, IsLink, IsLoss, IsRoute, IsWithinLimits}
use Rattle.scenario_gen.specs.Demo.{address, apps_of, bulk, default_app, demo_of, link_of, sender}

-- ---- numbers

same_numbers : (n : ℕ) → nat_eq n n ≡ true
same_numbers n = grind arith

other_numbers : (n m : ℕ) → n ≢ m → nat_eq n m ≡ false
other_numbers n m ne = grind arith

-- the network of node k, from 1, is the one of this number
abbrev number : ℕ → ℕ
number k = 655359 + k

abbrev host : ℕ → ℕ → ℕ
host k d = address 10 ((k - 1) / 256) ((k - 1) % 256) d

host_is : (k d : ℕ) → 1 ≤ k → host k d ≡ number k * 256 + d
host_is k d some = omega arith

network_is : (k d : ℕ) → 1 ≤ k → d < 256 → host k d / 256 ≡ number k
network_is k d some few = let e : host k d ≡ number k * 256 + d = host_is k d some in omega arith

rest_is : (k d : ℕ) → 1 ≤ k → d < 256 → host k d % 256 ≡ d
rest_is k d some few = let e : host k d ≡ number k * 256 + d = host_is k d some in omega arith

-- ---- links

two_hosts : (a b n : ℕ) → a / 256 ≡ n → b / 256 ≡ n → a % 256 ≡ 1 → b % 256 ≡ 2 → share_network 24 (a ∷ b ∷ []) ≡ true
two_hosts a b n na nb ha hb = let same : nat_eq n n ≡ true = same_numbers n in simp (na, nb, ha, hb, same)

link_is : (n k : ℕ) → 1 ≤ k → k ≤ n → IsLink (n + 1) (link_of k)
link_is n k some few = record {
  a = omega (arith, few);
  b = omega (arith, few);
  apart = λ e. omega (arith, e, some);
  network = two_hosts (host k 1) (host k 2) (number k) (network_is k 1 some (omega arith)) (network_is k 2 some (omega arith)) (rest_is k 1 some (omega arith)) (rest_is k 2 some (omega arith));
  prefix = record { from = omega arith; to = omega arith };
  rate_bps = record { from = omega arith; to = omega arith };
  delay_ns = record { from = omega arith; to = omega arith };
  mtu = record { from = omega arith; to = omega arith };
  cost = record { from = omega arith; to = omega arith };
  limit = record { from = omega arith; to = omega arith };
  tbf_bps = tt;
  tbf_burst = tt;
}

-- what holds of each number from 1 holds of what is made of each
all_made : {X : Type 0} (P : X → Type 0) (f : ℕ → X) (n : ℕ) → ((k : ℕ) → 1 ≤ k → k ≤ n → P (f k)) → All P (map f (range_with_len 1 n))
all_made P f n are =
    All-map P f (range_with_len 1 n)
    (λ i d lt. let inside : i < n = subst (λ m. i < m) (length-range_with_len 1 n) lt in
    subst (λ k. P (f k)) (sym (get_or-range_with_len 1 n i d inside)) (are (1 + i) (omega arith) (omega (arith, inside))))

-- ---- applications

sink_is : (n : ℕ) → IsApp (n + 1) (default_app UdpSink 0 9)
sink_is n = record {
  node = omega arith;
  keys = search rules;
  port = record { from = omega arith; to = omega arith };
  start_ns = record { from = omega arith; to = omega arith };
  count = record { from = omega arith; to = omega arith };
  interval_ns = record { from = omega arith; to = omega arith };
  size = record { from = omega arith; to = omega arith };
  priority = record { from = omega arith; to = omega arith };
  rate_bps = tt;
  on_ns = tt;
  off_ns = tt;
  bytes = tt;
  mss = record { from = omega arith; to = omega arith };
}

tcp_sink_is : (n : ℕ) → IsApp (n + 1) (default_app TcpSink 0 80)
tcp_sink_is n = record {
  node = omega arith;
  keys = search rules;
  port = record { from = omega arith; to = omega arith };
  start_ns = record { from = omega arith; to = omega arith };
  count = record { from = omega arith; to = omega arith };
  interval_ns = record { from = omega arith; to = omega arith };
  size = record { from = omega arith; to = omega arith };
  priority = record { from = omega arith; to = omega arith };
  rate_bps = tt;
  on_ns = tt;
  off_ns = tt;
  bytes = tt;
  mss = record { from = omega arith; to = omega arith };
}

sender_is : (n k : ℕ) → k ≤ n → n ≤ 999 → IsApp (n + 1) (sender k)
sender_is n k inside few = record {
  node = omega (arith, inside);
  keys = search rules;
  port = record { from = omega arith; to = omega arith };
  start_ns = record { from = omega arith; to = omega (arith, inside, few) };
  count = record { from = omega arith; to = omega arith };
  interval_ns = record { from = omega arith; to = omega arith };
  size = record { from = omega arith; to = omega arith };
  priority = record { from = omega arith; to = omega arith };
  rate_bps = tt;
  on_ns = tt;
  off_ns = tt;
  bytes = tt;
  mss = record { from = omega arith; to = omega arith };
}

bulk_is : (n : ℕ) → IsApp (n + 1) (bulk n)
bulk_is n = record {
  node = omega arith;
  keys = search rules;
  port = record { from = omega arith; to = omega arith };
  start_ns = record { from = omega arith; to = omega arith };
  count = record { from = omega arith; to = omega arith };
  interval_ns = record { from = omega arith; to = omega arith };
  size = record { from = omega arith; to = omega arith };
  priority = record { from = omega arith; to = omega arith };
  rate_bps = tt;
  on_ns = tt;
  off_ns = tt;
  bytes = record { from = omega arith; to = omega arith };
  mss = record { from = omega arith; to = omega arith };
}

apps_are : (n : ℕ) → n ≤ 999 → All (IsApp (n + 1)) (apps_of n)
apps_are n few =
    let P : App → Type 0 = IsApp (n + 1) in
    All-append P (default_app UdpSink 0 9 ∷ default_app TcpSink 0 80 ∷ map sender (range_with_len 1 n)) (bulk n ∷ [])
    (All-cons P (default_app UdpSink 0 9) (default_app TcpSink 0 80 ∷ map sender (range_with_len 1 n)) (sink_is n)
    (All-cons P (default_app TcpSink 0 80) (map sender (range_with_len 1 n)) (tcp_sink_is n)
    (all_made P sender n (λ k some inside. sender_is n k inside few))))
    (All-cons P (bulk n) [] (bulk_is n) (All-nil P))

length_apps : (n : ℕ) → length (apps_of n) ≡ n + 3
length_apps n =
    let push : (xs : List App) (x : App) → length (xs ++ x ∷ []) ≡ length xs + 1 = longer in
    push (default_app UdpSink 0 9 ∷ default_app TcpSink 0 80 ∷ map sender (range_with_len 1 n)) (bulk n)
    ∙ (let long : length (map sender (range_with_len 1 n)) ≡ n = length-map-range_with_len sender 1 n in omega (arith, long))
  where
    longer : (xs : List App) (x : App) → length (xs ++ x ∷ []) ≡ length xs + 1
    longer [] x = refl
    longer (y ∷ ys) x = let rest : length (ys ++ x ∷ []) ≡ length ys + 1 = longer ys x in omega (arith, rest)

-- ---- no key twice where keys rise

-- keys whose ranks rise, from a number on
Rising : {K : Type 0} → (K → ℕ) → ℕ → List (Place × K) → Type 0
Rising rank from [] = Unit {0}
Rising rank from (e ∷ es) = (from ≤ rank e.1) × Rising rank (rank e.1 + 1) es

rising_from : {K : Type 0} (rank : K → ℕ) (less from : ℕ) (es : List (Place × K)) → less ≤ from → Rising rank from es → Rising rank less es
unfolding Rising
rising_from rank less from [] le r = tt
rising_from rank less from (e ∷ es) le r = (omega (arith, le, r.0), r.1)

not_held : {K : Type 0} (same : K → K → Bool) (rank : K → ℕ) (apart : (x y : K) → rank x ≢ rank y → same x y ≡ false) (held : List K) (key : K)
    → AllByRecursion (λ h. rank h < rank key) held → list_any (same key) held ≡ false
not_held same rank apart [] key are = refl
not_held same rank apart (h ∷ held) key are =
    ap (λ b. b || list_any (same key) held) (apart key h (λ e. omega (arith, e, are.0))) ∙ not_held same rank apart held key are.1

all_less : {K : Type 0} (rank : K → ℕ) (from to : ℕ) (held : List K) → from ≤ to → AllByRecursion (λ h. rank h < from) held → AllByRecursion (λ h. rank h < to) held
all_less rank from to [] le are = tt
all_less rank from to (h ∷ held) le are = (omega (arith, le, are.0), all_less rank from to held le are.1)

none_again : {K : Type 0} (same : K → K → Bool) (rank : K → ℕ) (apart : (x y : K) → rank x ≢ rank y → same x y ≡ false) (held : List K) (from : ℕ) (es : List (Place × K))
    → AllByRecursion (λ h. rank h < from) held → Rising rank from es → none_twice same held es ≡ Ok tt
unfolding Rising
none_again same rank apart held from [] are rising = refl
none_again same rank apart held from (e ∷ es) are rising =
    ap (λ b. require (not b) (Schema e.0 Twice) >> none_twice same (e.1 ∷ held) es) (not_held same rank apart held e.1 (all_less rank from (rank e.1) held rising.0 are))
    ∙ none_again same rank apart (e.1 ∷ held) (rank e.1 + 1) es
    (omega arith, all_less rank from (rank e.1 + 1) held (omega (arith, rising.0)) are) rising.1

-- ---- interfaces and networks

-- some links from node k on, numbered from i
abbrev links_from : ℕ → ℕ → ℕ → List (ℕ × Link)
links_from i k m = enumerate_from i (map link_of (range_with_len k m))

abbrev ends_from : ℕ → ℕ → ℕ → List Interface
ends_from i k m = flat_map link_ends (links_from i k m) ++ []

abbrev address_key : Interface → Place × ℕ
address_key i = (i.at, i.address)

addresses_rise : (i k m : ℕ) → 1 ≤ k → Rising (λ a. a) (number k * 256) (map address_key (ends_from i k m))
unfolding Rising
addresses_rise i k zero some = tt
addresses_rise i k (suc m) some =
    let a : host k 1 ≡ number k * 256 + 1 = host_is k 1 some in
    let b : host k 2 ≡ number k * 256 + 2 = host_is k 2 some in (
      omega (arith, a),
      (
        omega (arith, a, b),
        rising_from (λ a. a) (host k 2 + 1) (number (k + 1) * 256) (map address_key (ends_from (i + 1) (k + 1) m)) (omega (arith, b)) (addresses_rise (i + 1) (k + 1) m (omega arith)),
      ),
    )

addresses_pass : (i k m : ℕ) → 1 ≤ k → addresses_check (ends_from i k m) ≡ Ok tt
addresses_pass i k m some =
    none_again nat_eq (λ a. a) (λ x y ne. other_numbers x y ne) [] (number k * 256) (map address_key (ends_from i k m)) tt (addresses_rise i k m some)

networks_rise : (i k m : ℕ) → 1 ≤ k → Rising (λ (n : Network). n.0) (number k) (map link_network (links_from i k m) ++ [])
unfolding Rising
networks_rise i k zero some = tt
networks_rise i k (suc m) some =
    let at : host k 1 / 256 ≡ number k = network_is k 1 some (omega arith) in (
      omega (arith, at),
      rising_from (λ (n : Network). n.0) (host k 1 / 256 + 1) (number (k + 1)) (map link_network (links_from (i + 1) (k + 1) m) ++ []) (omega (arith, at)) (networks_rise (i + 1) (k + 1) m (omega arith)),
    )

networks_pass : (n : ℕ) → networks_check (demo_of n) ≡ Ok tt
networks_pass n =
    none_again same_network (λ (n : Network). n.0) (λ x y ne. ap (λ b. b && nat_eq x.1 y.1) (other_numbers x.0 y.0 ne)) [] (number 1) (map link_network (links_from 0 1 n) ++ []) tt
    (networks_rise 0 1 n (omega arith))

-- ---- applications send to another node

-- the address of node 0 that all send to
abbrev root : ℕ
root = address 10 0 0 1

no_and : (b c : Bool) → c ≡ false → (b && c) ≡ false
no_and true c h = h
no_and false c h = refl

-- the first end of a link
upper : (k node : ℕ) → 1 ≤ k → 1 ≤ node → ((nat_eq (host k 1) root) && (nat_eq ((k - 1) / 2) node)) ≡ false
upper k node some there = go (cases_eq k 1)
  where
    go : (k ≡ 1) ⊎ (k ≢ 1) → ((nat_eq (host k 1) root) && (nat_eq ((k - 1) / 2) node)) ≡ false
    go (inl first) = no_and (nat_eq (host k 1) root) (nat_eq ((k - 1) / 2) node) (other_numbers ((k - 1) / 2) node (λ e. omega (arith, e, first, there)))
    go (inr later) =
        let a : host k 1 ≡ number k * 256 + 1 = host_is k 1 some in
        ap (λ b. b && nat_eq ((k - 1) / 2) node) (other_numbers (host k 1) root (λ e. omega (arith, e, a, later, some)))

lower : (k node : ℕ) → 1 ≤ k → ((nat_eq (host k 2) root) && (nat_eq k node)) ≡ false
lower k node some =
    let b : host k 2 ≡ number k * 256 + 2 = host_is k 2 some in
    ap (λ b. b && nat_eq k node) (other_numbers (host k 2) root (λ e. omega (arith, e, b)))

root_is_not : (i k m node : ℕ) → 1 ≤ k → 1 ≤ node → is_own (ends_from i k m) node root ≡ false
root_is_not i k zero node some there = refl
root_is_not i k (suc m) node some there =
    let rest : Bool = is_own (ends_from (i + 1) (k + 1) m) node root in
    ap (λ b. b || ((nat_eq (host k 2) root && nat_eq k node) || rest)) (upper k node some there)
    ∙ ap (λ b. b || rest) (lower k node some)
    ∙ root_is_not (i + 1) (k + 1) m node (omega arith) there

senders_pass : (all : List Interface) (i k m n : ℕ) → ((node : ℕ) → 1 ≤ node → is_own all node root ≡ false) → 1 ≤ k → 1 ≤ n
    → each (own_check all) (enumerate_from i (map sender (range_with_len k m) ++ bulk n ∷ [])) ≡ Ok tt
senders_pass all i k zero n not_own some there =
    ap (λ b. require (not b) (Schema (place 4 i 4) Own) >> Ok tt) (not_own n there)
senders_pass all i k (suc m) n not_own some there =
    ap (λ b. require (not b) (Schema (place 4 i 4) Own) >> each (own_check all) (enumerate_from (i + 1) (map sender (range_with_len (k + 1) m) ++ bulk n ∷ []))) (not_own k some)
    ∙ senders_pass all (i + 1) (k + 1) m n not_own (omega arith) there

owns_pass : (all : List Interface) (n : ℕ) → ((node : ℕ) → 1 ≤ node → is_own all node root ≡ false) → 1 ≤ n → owns_check all (apps_of n) ≡ Ok tt
owns_pass all n not_own some = senders_pass all 2 1 n n not_own (omega arith) some

-- ---- ports

no_more_listen : (i k m n : ℕ) → filter_map listened (enumerate_from i (map sender (range_with_len k m) ++ bulk n ∷ [])) ≡ []
no_more_listen i k zero n = refl
no_more_listen i k (suc m) n = no_more_listen (i + 1) (k + 1) m n

ports_pass : (n : ℕ) → ports_check (apps_of n) ≡ Ok tt
ports_pass n = ap (λ more. none_twice same_port [] ((place 4 0 3, (0, (false, 9))) ∷ (place 4 1 3, (0, (true, 80))) ∷ more)) (no_more_listen 2 1 n n)

-- ---- all together

then_pass : (c d : Check Refusal) → c ≡ Ok tt → d ≡ Ok tt → (c >> d) ≡ Ok tt
then_pass c d h k = ap (λ c. c >> d) h ∙ k

across_passes : (n : ℕ) → 1 ≤ n → across_check (demo_of n) ≡ Ok tt
across_passes n some =
    let all : List Interface = interfaces (demo_of n) in
    then_pass (addresses_check all) (networks_check (demo_of n) >> uses_check all (demo_of n)) (addresses_pass 0 1 n (omega arith))
    (then_pass (networks_check (demo_of n)) (uses_check all (demo_of n)) (networks_pass n)
    (then_pass (owns_check all (apps_of n)) (ports_check (apps_of n) >> Ok tt) (owns_pass all n (λ node there. root_is_not 0 1 n node (omega arith) there) some)
    (then_pass (ports_check (apps_of n)) (Ok tt) (ports_pass n) refl)))

pub demo_within : (n : ℕ) → 1 ≤ n → n ≤ 999 → IsWithinLimits (demo_of n)
demo_within n some few = record {
  nodes = record { from = omega arith; to = omega (arith, few) };
  stop_ns = record { from = omega arith; to = omega arith };
  seed = record { from = omega arith; to = omega arith };
  events_per_node = record { from = omega arith; to = omega arith };
  groups = tt;
  few = record {
    links = (let long : length (map link_of (range_with_len 1 n)) ≡ n = length-map-range_with_len link_of 1 n in omega (arith, long, few));
    lans = omega arith;
    routes = omega arith;
    apps = (let long : length (apps_of n) ≡ n + 3 = length_apps n in omega (arith, long, few));
    losses = omega arith;
  };
  links = all_made (IsLink (n + 1)) link_of n (λ k some inside. link_is n k some inside);
  lans = All-nil (λ lan. IsLan (n + 1) lan);
  routes = All-nil (λ route. IsRoute (n + 1) route);
  apps = apps_are n few;
  losses = All-nil (λ loss. IsLoss (n + 1) loss);
  across = across_passes n some;
}
