-- Worked examples of the Protocol Buffers encoding page, evaluated.
use Rattle.std.specs.Prelude.{ℕ, ◌≡◌, refl}
use mathlib.Core.List.{List, [], ◌∷◌, ◌++◌, map, flat_map}
use Rattle.varint.specs.Bytes.{Bytes}
use Rattle.wire.specs.Wire.{VARINT, I64, LEN, I32}
use Rattle.wire.specs.Message.{message, whole, Message-computes}
use Rattle.wire.specs.Encoding.{Said, said, encoded_value, encoded}
use Rattle.varint.specs.Encoding.{encode_from, encode}
use Rattle.varint.specs.Notation.{hex, ascii, Notation-computes}

-- What each field of a message says.
shown : Bytes → List Said
shown m = map (said m) (message m (whole m)).fields

field : (number wire value : ℕ) → Bytes → Said
field number wire value contents = record { number = number; wire = wire; value = value; contents = contents }

messages : List (Bytes × List Said)
messages =
    (hex "08 96 01", field 1 VARINT 150 [] ∷ [])
    ∷ (hex "12 07 74 65 73 74 69 6E 67", field 2 LEN 0 (ascii "testing") ∷ [])
    ∷ (hex "1A 03 08 96 01", field 3 LEN 0 (hex "08 96 01") ∷ [])
    ∷ (hex "22 05 68 65 6C 6C 6F 28 01 28 02 28 03", field 4 LEN 0 (ascii "hello") ∷ field 5 VARINT 1 [] ∷ field 5 VARINT 2 [] ∷ field 5 VARINT 3 [] ∷ [])
    ∷ (hex "32 06 03 8E 02 9E A7 05", field 6 LEN 0 (hex "03 8E 02 9E A7 05") ∷ [])  -- packed
    ∷ (hex "0D 01 02 03 04 11 01 02 03 04 05 06 07 08", field 1 I32 0 (hex "01 02 03 04") ∷ field 2 I64 0 (hex "01 02 03 04 05 06 07 08") ∷ [])
    ∷ []

-- Up to the first that cannot be read.
cut : List (Bytes × List Said)
cut =
    (hex "08 01 0B 08 02", field 1 VARINT 1 [] ∷ [])
    ∷ (hex "08 01 88 00 02", field 1 VARINT 1 [] ∷ [])  -- a padded tag
    ∷ (hex "08 01 08 82 00", field 1 VARINT 1 [] ∷ [])  -- a padded value
    ∷ (hex "08 01 12 81 00 61", field 1 VARINT 1 [] ∷ [])  -- a padded length
    ∷ []

messages_hold : map (λ s. shown s.0) (messages ++ cut) ≡ map (λ s. s.1) (messages ++ cut)
unfolding messages cut shown said field Notation-computes Message-computes
messages_hold = refl

-- And written again.
written_hold : map (λ s. flat_map encoded s.1) messages ≡ map (λ s. s.0) messages
unfolding messages field flat_map encoded encoded_value encode encode_from Notation-computes
written_hold = refl
