-- Different interfaces have files of different names.
use Rattle.std.proofs.Common.{◌≡◌, ℕ, ◌+◌, ◌<◌, ◌≤◌, ◌%◌, ◌^◌, false, true, List, [], ◌∷◌, ◌++◌, codes, refl, ap, sym, ◌∙◌, append_assoc, arith}
use Rattle.std.specs.Fmt.{decimal}
use Rattle.std.specs.Str.Parse.{digits_value}
use Rattle.std.specs.List.{AllByRecursion}
use Rattle.std.proofs.lemmas.Bool.{eq-eqb}
use Rattle.std.proofs.lemmas.Fmt.{decimal_by_steps, decimal_is_IsNumeral}
use Rattle.sim_run.specs.declared.captures.Capture.{Capture}
use Rattle.sim_run.specs.Captures.{capture_name, is_of, HasNumbers}
use Rattle.sim_run.proofs.CaptureLaws.{all-append}

-- no byte of a decimal number comes before the digits
abbrev AreDigits : List ℕ → Type 0
AreDigits bytes = AllByRecursion (λ b. 48 ≤ b) bytes

decimal_digits : (n : ℕ) → n < 2 ^ 64 → AreDigits (decimal n)
decimal_digits n small =
    decimal_by_steps (λ m bytes. AllByRecursion (λ b. 48 ≤ b) bytes) (λ m below. (omega arith, tt))
    (λ m bytes above front. all-append (λ b. 48 ≤ b) bytes ((48 + m % 10) ∷ []) front (omega arith, tt)) n small

decimal-same : (a b : ℕ) → a < 2 ^ 64 → b < 2 ^ 64 → decimal a ≡ decimal b → a ≡ b
decimal-same a b small_a small_b e = sym (decimal_is_IsNumeral a small_a).1 ∙ ap (digits_value 10) e ∙ (decimal_is_IsNumeral b small_b).1

-- what stands before the first mark, and behind it
same_parts : (xs ys u v : List ℕ) (mark : ℕ) → mark < 48 → AreDigits xs → AreDigits ys → xs ++ mark ∷ u ≡ ys ++ mark ∷ v → (xs ≡ ys) × (u ≡ v)
same_parts [] [] u v mark low dx dy e = (refl, cc)
same_parts [] (y ∷ ys) u v mark low dx dy e = let at : mark ≡ y = cc in absurd (omega (arith, at, dy.0))
same_parts (x ∷ xs) [] u v mark low dx dy e = let at : x ≡ mark = cc in absurd (omega (arith, at, dx.0))
same_parts (x ∷ xs) (y ∷ ys) u v mark low dx dy e =
    let head : x ≡ y = cc in
    let tail : xs ++ mark ∷ u ≡ ys ++ mark ∷ v = cc in
    let same = same_parts xs ys u v mark low dx.1 dy.1 tail in
    (ap (λ z. z ∷ xs) head ∙ ap (λ zs. y ∷ zs) same.0, same.1)

pub name_parts : (c : Capture) → capture_name c ≡ codes "trace-" ++ (decimal c.node.0 ++ 45 ∷ (decimal c.iface ++ 46 ∷ codes "pcap"))
name_parts c = simp append_assoc

pub names-differ : (c d : Capture) → HasNumbers c → HasNumbers d → is_of c.node.0 c.iface d ≡ false → capture_name d ≡ capture_name c → ⊥
names-differ c d nc nd apart e =
    let both : codes "trace-" ++ (decimal d.node.0 ++ 45 ∷ (decimal d.iface ++ 46 ∷ codes "pcap"))
    ≡ codes "trace-" ++ (decimal c.node.0 ++ 45 ∷ (decimal c.iface ++ 46 ∷ codes "pcap")) = sym (name_parts d) ∙ e ∙ name_parts c in
    let rest : decimal d.node.0 ++ 45 ∷ (decimal d.iface ++ 46 ∷ codes "pcap") ≡ decimal c.node.0 ++ 45 ∷ (decimal c.iface ++ 46 ∷ codes "pcap") = cc in
    let dn : d.node.0 < 2 ^ 64 = omega (arith, nd.node) in
    let di : d.iface < 2 ^ 64 = omega (arith, nd.iface) in
    let cn : c.node.0 < 2 ^ 64 = omega (arith, nc.node) in
    let ci : c.iface < 2 ^ 64 = omega (arith, nc.iface) in
    let by_node = same_parts (decimal d.node.0) (decimal c.node.0) _ _ 45 (omega arith) (decimal_digits d.node.0 dn) (decimal_digits c.node.0 cn) rest in
    let by_iface = same_parts (decimal d.iface) (decimal c.iface) _ _ 46 (omega arith) (decimal_digits d.iface di) (decimal_digits c.iface ci) by_node.1 in
    let node : d.node.0 ≡ c.node.0 = decimal-same _ _ dn cn by_node.0 in
    let iface : d.iface ≡ c.iface = decimal-same _ _ di ci by_iface.0 in
    let same : is_of c.node.0 c.iface d ≡ true = rw (eq-eqb d.node.0 c.node.0 node, eq-eqb d.iface c.iface iface) refl in
    let never : true ≡ false = sym same ∙ apart in cc
