-- The data of a segment, with its tag.
use Rattle.std.proofs.Common.{◌≡◌, ℕ, List, length, refl}
use Rattle.sim_base.specs.declared.numbers.Uid.{Uid}
use Rattle.sim_base.specs.Packet.{len, from_bytes, add_byte_tag}

pub bytes-data : (uid : Uid) (app : ℕ) (bytes : List ℕ) → (add_byte_tag 1 app (from_bytes uid bytes)).bytes ≡ bytes
unfolding from_bytes add_byte_tag
bytes-data uid app bytes = refl

pub len-data : (uid : Uid) (app : ℕ) (bytes : List ℕ) → len (add_byte_tag 1 app (from_bytes uid bytes)) ≡ length bytes
unfolding from_bytes add_byte_tag
len-data uid app bytes = refl
