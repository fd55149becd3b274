-- Pieces of a text, joined one by one.
use Rattle.std.proofs.Common.{◌≡◌, ℕ, List, ◌++◌, append_assoc}

-- the last piece is joined to all others
pub last_joined : (a b c d e f g h i j k l last : List ℕ)
    → (a ++ (b ++ (c ++ (d ++ (e ++ (f ++ (g ++ (h ++ (i ++ (j ++ (k ++ l))))))))))) ++ last
    ≡ a ++ (b ++ (c ++ (d ++ (e ++ (f ++ (g ++ (h ++ (i ++ (j ++ (k ++ (l ++ last)))))))))))
last_joined a b c d e f g h i j k l last = simp append_assoc
