-- A number written as a varint in its shortest form: the other direction of Varint.antt. No rule speaks of this; what is claimed of the definitions does.
use Rattle.std.specs.Prelude.{ℕ, zero, suc, ◌+◌, ◌/◌, ◌%◌, ◌<◌, true, false, [], ◌∷◌, ltb}
use Rattle.varint.specs.Bytes.{Bytes, byte}

-- "lowest seven bits first", in at most `left` bytes.
unfoldable pub encode_from : (left n : ℕ) → Bytes
encode_from zero n = []
encode_from (suc left) n = elim (ltb n 128) [ true ↦ n ∷ [] | false ↦ (n % 128 + 128) ∷ encode_from left (n / 128) ]

unfoldable pub encode : ℕ → Bytes
encode n = encode_from 10 n

-- Each element is a byte, as in every slice that a program lends.
abbrev pub Octets : Bytes → Type 0
Octets s = (i : ℕ) → byte s i < 256
