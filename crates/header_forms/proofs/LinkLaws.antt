-- Laws of the headers of PPP and Ethernet.
use Rattle.std.proofs.Common.{ℕ, ◌≡◌, List, [], ◌∷◌, ◌++◌, length, take, drop, ap, ◌∙◌, arith, length-append}
use Rattle.byteorder.specs.Endian.{big_bytes}
use Rattle.header_forms.specs.declared.link.Ethernet.{Ethernet}
use Rattle.header_forms.specs.Fields.{field}
use Rattle.header_forms.specs.Link.{ethernet_bytes, IsEthernet, FitsEthernet}
use Rattle.header_forms.proofs.FieldLaws.{AreSpelled, first_bytes, first_field, behind}

pub same_ethernet : (g h : Ethernet) → g.dst ≡ h.dst → g.src ≡ h.src → g.proto ≡ h.proto → g ≡ h
same_ethernet g h d s p =
    let by_dst : List ℕ → Ethernet = λ x. record { dst = x; src = g.src; proto = g.proto } in
    let by_src : List ℕ → Ethernet = λ x. record { dst = h.dst; src = x; proto = g.proto } in
    let by_proto : ℕ → Ethernet = λ x. record { dst = h.dst; src = h.src; proto = x } in
    ap by_dst d ∙ ap by_src s ∙ ap by_proto p

-- what is read of a spelled header is the header
pub ethernet_again : (g h : Ethernet) (bytes rest : List ℕ) → FitsEthernet h → IsEthernet h bytes rest → g.dst ≡ take 6 (drop 0 bytes) → g.src ≡ take 6 (drop 6 bytes) → g.proto ≡ field 12 2 bytes → g ≡ h
unfolding ethernet_bytes
ethernet_again g h bytes rest fits is d s p =
    let all : AreSpelled rest 0 bytes (h.dst ∷ h.src ∷ big_bytes 2 h.proto ∷ []) = record { spelled = is.spelled } in
    let from_src = behind 0 6 h.dst bytes fits.dst all in
    let from_proto = behind 6 6 h.src bytes fits.src from_src in
    same_ethernet g h (d ∙ first_bytes 0 6 h.dst bytes fits.dst all) (s ∙ first_bytes 6 6 h.src bytes fits.src from_src) (p ∙ first_field 12 2 h.proto bytes fits.proto from_proto)

pub length-ethernet_bytes : (h : Ethernet) → FitsEthernet h → length (ethernet_bytes h) ≡ 14
unfolding ethernet_bytes
length-ethernet_bytes h fits =
    let tail = h.src ++ (big_bytes 2 h.proto ++ []) in
    omega (arith, length-append h.dst tail, length-append h.src (big_bytes 2 h.proto ++ []), fits.dst, fits.src)
