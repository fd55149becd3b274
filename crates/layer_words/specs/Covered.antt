-- What a checksum of UDP or TCP covers besides the datagram: RFC 768 and RFC 9293, section 3.1.
use Rattle.std.specs.Prelude.{ℕ, List, [], ◌∷◌}
use Rattle.std.specs.List.{concat}
use Rattle.byteorder.specs.Endian.{big_bytes}

-- the pseudo-header: source, destination, a zero, the protocol, and the length of header and data
unfoldable pub pseudo_header : ℕ → ℕ → ℕ → ℕ → List ℕ
pseudo_header src dst proto length =
    concat (big_bytes 4 src ∷ big_bytes 4 dst ∷ big_bytes 1 0 ∷ big_bytes 1 proto ∷ big_bytes 2 length ∷ [])
