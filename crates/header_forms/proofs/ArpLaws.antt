-- Laws of the packets of ARP.
use Rattle.std.proofs.Common.{ℕ, ◌≡◌, ◌^◌, ◌<◌, ◌≤◌, List, [], ◌∷◌, ◌++◌, length, take, drop, get_or, ap, ◌∙◌, arith, length-drop, ⊎_elim, ◌⊎◌, Fits, w8}
use Rattle.byteorder.specs.Endian.{big_bytes}
use Rattle.header_forms.specs.declared.arp.Arp.{Arp}
use Rattle.header_forms.specs.Fields.{field}
use Rattle.header_forms.specs.Arp.{arp_bytes, IsArp, FitsArp, HasArpFields}
use Rattle.header_forms.proofs.FieldLaws.{AreSpelled, piece, piece_of_bytes, no_piece, first_bytes, first_field, behind, behind_field}

pub same_arp : (g h : Arp) → g.op ≡ h.op → g.sender_mac ≡ h.sender_mac → g.sender ≡ h.sender → g.target_mac ≡ h.target_mac → g.target ≡ h.target → g ≡ h
same_arp g h o m s n t =
    let by_op : ℕ → Arp = λ x. record { op = x; sender_mac = g.sender_mac; sender = g.sender; target_mac = g.target_mac; target = g.target } in
    let by_mac : List ℕ → Arp = λ x. record { op = h.op; sender_mac = x; sender = g.sender; target_mac = g.target_mac; target = g.target } in
    let by_sender : ℕ → Arp = λ x. record { op = h.op; sender_mac = h.sender_mac; sender = x; target_mac = g.target_mac; target = g.target } in
    let by_target_mac : List ℕ → Arp = λ x. record { op = h.op; sender_mac = h.sender_mac; sender = h.sender; target_mac = x; target = g.target } in
    let by_target : ℕ → Arp = λ x. record { op = h.op; sender_mac = h.sender_mac; sender = h.sender; target_mac = h.target_mac; target = x } in
    ap by_op o ∙ ap by_mac m ∙ ap by_sender s ∙ ap by_target_mac n ∙ ap by_target t

-- what stands at the places of a spelled packet
pub record ArpFields (h : Arp) (bytes : List ℕ) : Type 0 where
  pub long : 28 ≤ length bytes
  pub hardware : field 0 2 bytes ≡ 1
  pub protocol : field 2 2 bytes ≡ 2048
  pub mac_size : field 4 1 bytes ≡ 6
  pub address_size : field 5 1 bytes ≡ 4
  pub op : field 6 2 bytes ≡ h.op
  pub sender_mac : take 6 (drop 8 bytes) ≡ h.sender_mac
  pub sender : field 14 4 bytes ≡ h.sender
  pub target_mac : take 6 (drop 18 bytes) ≡ h.target_mac
  pub target : field 24 4 bytes ≡ h.target

op-lt : (op : ℕ) → (op ≡ 1) ⊎ (op ≡ 2) → op < 256 ^ 2
op-lt op is = ⊎_elim (λ (one : op ≡ 1). omega (arith, one)) (λ (two : op ≡ 2). omega (arith, two)) is

pub arp_fields : (h : Arp) (bytes rest : List ℕ) → FitsArp h → IsArp h bytes rest → ArpFields h bytes
unfolding arp_bytes
arp_fields h bytes rest fits is =
    let s0 : AreSpelled rest 0 bytes (big_bytes 2 1 ∷ big_bytes 2 2048 ∷ big_bytes 1 6 ∷ big_bytes 1 4 ∷ big_bytes 2 h.op ∷ h.sender_mac ∷ big_bytes 4 h.sender ∷ h.target_mac ∷ big_bytes 4 h.target ∷ []) =
    record { spelled = is.spelled } in
    let s2 = behind_field 0 2 1 bytes s0 in
    let s4 = behind_field 2 2 2048 bytes s2 in
    let s5 = behind_field 4 1 6 bytes s4 in
    let s6 = behind_field 5 1 4 bytes s5 in
    let s8 = behind_field 6 2 h.op bytes s6 in
    let s14 = behind 8 6 h.sender_mac bytes fits.sender_mac s8 in
    let s18 = behind_field 14 4 h.sender bytes s14 in
    let s24 = behind 18 6 h.target_mac bytes fits.target_mac s18 in
    record {
      long = omega (arith, length-drop 24 bytes, ap length s24.spelled);
      hardware = first_field 0 2 1 bytes (omega arith) s0;
      protocol = first_field 2 2 2048 bytes (omega arith) s2;
      mac_size = first_field 4 1 6 bytes (omega arith) s4;
      address_size = first_field 5 1 4 bytes (omega arith) s5;
      op = first_field 6 2 h.op bytes (op-lt h.op is.op) s6;
      sender_mac = first_bytes 8 6 h.sender_mac bytes fits.sender_mac s8;
      sender = first_field 14 4 h.sender bytes fits.sender s14;
      target_mac = first_bytes 18 6 h.target_mac bytes fits.target_mac s18;
      target = first_field 24 4 h.target bytes fits.target s24;
    }

-- what is read of a spelled packet is the packet
pub arp_again : (g h : Arp) (bytes rest : List ℕ) → FitsArp h → IsArp h bytes rest → HasArpFields g bytes → g ≡ h
arp_again g h bytes rest fits is at =
    let there = arp_fields h bytes rest fits is in
    same_arp g h (at.op ∙ there.op) (at.sender_mac ∙ there.sender_mac) (at.sender ∙ there.sender) (at.target_mac ∙ there.target_mac) (at.target ∙ there.target)

-- what was read spells the bytes
pub arp_read : (h : Arp) (bytes : List ℕ) → ((k : ℕ) → Fits w8 (get_or bytes k 0)) → 28 ≤ length bytes → 1 ≡ field 0 2 bytes → 2048 ≡ field 2 2 bytes → 6 ≡ field 4 1 bytes → 4 ≡ field 5 1 bytes → HasArpFields h bytes → bytes ≡ arp_bytes h ++ drop 28 bytes
unfolding arp_bytes
arp_read h bytes fits long hardware protocol mac_size address_size at =
    (piece 0 2 1 bytes fits (omega arith) hardware
    (piece 2 2 2048 bytes fits (omega arith) protocol
    (piece 4 1 6 bytes fits (omega arith) mac_size
    (piece 5 1 4 bytes fits (omega arith) address_size
    (piece 6 2 h.op bytes fits (omega arith) at.op
    (piece_of_bytes 8 6 h.sender_mac bytes at.sender_mac
    (piece 14 4 h.sender bytes fits (omega arith) at.sender
    (piece_of_bytes 18 6 h.target_mac bytes at.target_mac
    (piece 24 4 h.target bytes fits (omega arith) at.target (no_piece 28 bytes)))))))))).spelled
