-- What was done so far, and then the rest, is all.
use Rattle.std.proofs.Common.{◌≡◌, ℕ, suc, ◌+◌, ◌<◌, List, [], ◌∷◌, ◌++◌, length, get_or, drop, drop-cons, add-one, refl, sym, ap, ◌∙◌, append_assoc}
use Rattle.std.proofs.lemmas.List.{append-nil}
use Rattle.sim_base.specs.declared.numbers.Numbers.{Numbers}
use Rattle.sim_base.specs.Packet.{Packet}
use Rattle.tcp_conn.specs.declared.words.Effect.{Effect}
use Rattle.tcp_flow.specs.declared.words.Act.{Act}
use Rattle.tcp_flow.specs.declared.conn.Conn.{Conn}
use Rattle.tcp_flow.specs.Conn.{done, all_done}

pub record IsCarried (k₀ : Conn) (n₀ : Numbers) (o₀ : List (Act Packet)) (es₀ : List Effect) (k : Conn) (n : Numbers) (o : List (Act Packet)) (es : List Effect) : Type 0 where
  pub conn : (all_done k n es).conn ≡ (all_done k₀ n₀ es₀).conn
  pub numbers : (all_done k n es).numbers ≡ (all_done k₀ n₀ es₀).numbers
  pub acts : o ++ (all_done k n es).acts ≡ o₀ ++ (all_done k₀ n₀ es₀).acts

pub none-carried : (k : Conn) (n : Numbers) (o : List (Act Packet)) (es : List Effect) → IsCarried k n o es k n o (drop 0 es)
none-carried k n o es = record { conn = refl; numbers = refl; acts = refl }

pub drop-at : (es : List Effect) (i : ℕ) (e : Effect) → i < length es → e ≡ get_or es i e → drop i es ≡ e ∷ drop (i + 1) es
drop-at es i e h is = drop-cons es i e h ∙ ap (λ x. x ∷ drop (suc i) es) (sym is) ∙ ap (λ j. e ∷ drop j es) (sym (add-one i))

pub one-carried : (k₀ : Conn) (n₀ : Numbers) (o₀ : List (Act Packet)) (es₀ : List Effect) (k : Conn) (n : Numbers) (o : List (Act Packet)) (es : List Effect) (e : Effect) (rest : List Effect) (j : Conn) (m : Numbers) (p : List (Act Packet)) →
    es ≡ e ∷ rest → j ≡ (done k n e).conn → m ≡ (done k n e).numbers → p ≡ o ++ (done k n e).acts →
    IsCarried k₀ n₀ o₀ es₀ k n o es → IsCarried k₀ n₀ o₀ es₀ j m p rest
one-carried k₀ n₀ o₀ es₀ k n o es e rest j m p split conn numbers acts h =
    let d = done k n e in
    record {
      conn =
          ap (λ x. (all_done x m rest).conn) conn ∙ ap (λ x. (all_done d.conn x rest).conn) numbers
          ∙ sym (ap (λ l. (all_done k n l).conn) split) ∙ h.conn;
      numbers =
          ap (λ x. (all_done x m rest).numbers) conn ∙ ap (λ x. (all_done d.conn x rest).numbers) numbers
          ∙ sym (ap (λ l. (all_done k n l).numbers) split) ∙ h.numbers;
      acts =
          ap (λ x. p ++ (all_done x m rest).acts) conn ∙ ap (λ x. p ++ (all_done d.conn x rest).acts) numbers
          ∙ ap (λ l. l ++ (all_done d.conn d.numbers rest).acts) acts
          ∙ append_assoc o d.acts (all_done d.conn d.numbers rest).acts
          ∙ sym (ap (λ l. o ++ (all_done k n l).acts) split) ∙ h.acts;
    }

-- where nothing is left
pub all-conn : (k₀ : Conn) (n₀ : Numbers) (o₀ : List (Act Packet)) (es₀ : List Effect) (k : Conn) (n : Numbers) (o : List (Act Packet)) (es : List Effect) → es ≡ [] → IsCarried k₀ n₀ o₀ es₀ k n o es → k ≡ (all_done k₀ n₀ es₀).conn
all-conn k₀ n₀ o₀ es₀ k n o es none h = sym (ap (λ l. (all_done k n l).conn) none) ∙ h.conn

pub all-numbers : (k₀ : Conn) (n₀ : Numbers) (o₀ : List (Act Packet)) (es₀ : List Effect) (k : Conn) (n : Numbers) (o : List (Act Packet)) (es : List Effect) → es ≡ [] → IsCarried k₀ n₀ o₀ es₀ k n o es → n ≡ (all_done k₀ n₀ es₀).numbers
all-numbers k₀ n₀ o₀ es₀ k n o es none h = sym (ap (λ l. (all_done k n l).numbers) none) ∙ h.numbers

pub all-acts : (k₀ : Conn) (n₀ : Numbers) (o₀ : List (Act Packet)) (es₀ : List Effect) (k : Conn) (n : Numbers) (o : List (Act Packet)) (es : List Effect) → es ≡ [] → IsCarried k₀ n₀ o₀ es₀ k n o es → o ≡ o₀ ++ (all_done k₀ n₀ es₀).acts
all-acts k₀ n₀ o₀ es₀ k n o es none h = sym (append-nil o) ∙ sym (ap (λ l. o ++ (all_done k n l).acts) none) ∙ h.acts
