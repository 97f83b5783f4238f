-- A field written: the other direction of Wire.antt. No rule speaks of this; what is claimed of the definitions does.
use Rattle.std.specs.Prelude.{ℕ, ◌+◌, ◌*◌, true, false, ◌++◌, eqb, length}
use Rattle.varint.specs.Bytes.{Bytes}
use Rattle.varint.specs.Encoding.{encode}
use Rattle.wire.specs.Wire.{VARINT, LEN}
use Rattle.wire.specs.Message.{text}
use Rattle.wire.specs.declared.Field.{Field}

-- What a field says, wherever it lies.
pub record Said : Type 0 where
  pub number : ℕ
  pub wire : ℕ
  pub value : ℕ
  pub contents : Bytes

unfoldable pub said : (model : Bytes) → Field → Said
said model f = record { number = f.number; wire = f.wire; value = f.value; contents = text model f }

-- After the tag: the value; the length and the contents; or as many bytes as the wire type has.
unfoldable pub encoded_value : (wire value : ℕ) → (contents : Bytes) → Bytes
encoded_value wire value contents = elim (eqb wire VARINT) [
  | true ↦ encode value
  | false ↦ elim (eqb wire LEN) [ true ↦ encode (length contents) ++ contents | false ↦ contents ]
]

-- Where the contents of a field begin whose tag has one byte: after it and "a shortest length".
unfoldable pub contents_at : (place len : ℕ) → ℕ
contents_at place len = place + 1 + length (encode len)

unfoldable pub encoded : Said → Bytes
encoded f = encode (8 * f.number + f.wire) ++ encoded_value f.wire f.value f.contents
