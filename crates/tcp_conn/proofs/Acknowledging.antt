-- Which acknowledgement is one of more.
use Rattle.std.proofs.Common.{◌≡◌, ℕ, ◌<◌, true, cond, nat_lt, List, ap, arith}
use Rattle.std.proofs.lemmas.Bool.Decides.{nat_tests}
use Rattle.tcp_conn.specs.declared.words.Heard.{Heard}
use Rattle.tcp_conn.specs.declared.connection.Connection.{Connection}
use Rattle.tcp_conn.specs.Send.{silently}
use Rattle.tcp_conn.specs.Step.{counted_ack, dup_ack, is_duplicate, new_ack}

below : (a b : ℕ) → a < b → nat_lt a b ≡ true
below a b h = grind (arith, nat_tests)

pub counted_ack-more : (now : ℕ) (s : Heard) (bytes : List ℕ) (c : Connection) → c.una < s.ack → counted_ack now s bytes c ≡ new_ack now s.ack c
unfolding counted_ack
counted_ack-more now s bytes c h =
    ap (λ b. cond b (new_ack now s.ack c) (cond (is_duplicate s bytes c) (dup_ack now s.ack c) (silently c))) (below c.una s.ack h)
