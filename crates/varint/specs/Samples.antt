-- Worked examples of the Protocol Buffers encoding page, and the ends of the varint, evaluated.
use Rattle.std.specs.Prelude.{ℕ, ◌^◌, ◌-◌, ◌≡◌, refl, true, false, List, [], ◌∷◌, map, length}
use Rattle.varint.specs.Outcome.{pass, Judged, refused}
use Rattle.varint.specs.Bytes.{Bytes}
use Rattle.varint.specs.Varint.{varint, Varint-computes}
use Rattle.varint.specs.Encoding.{encode_from, encode}
use Rattle.varint.specs.declared.Varint.{Varint}
use Rattle.varint.specs.Notation.{hex, Notation-computes}

-- What a varint at 0 says, in its shortest form and padded.
read : (value next : ℕ) → Judged Varint
read value next = pass (record { value = value; next = next; shortest = true })

padded : (value next : ℕ) → Judged Varint
padded value next = pass (record { value = value; next = next; shortest = false })

varints : List (Bytes × Judged Varint)
varints =
    (hex "01", read 1 1)
    ∷ (hex "96 01", read 150 2)
    ∷ (hex "AC 02", read 300 2)
    ∷ (hex "FE FF FF FF FF FF FF FF FF 01", read (2 ^ 64 - 2) 10)  -- -2
    ∷ (hex "FF FF FF FF FF FF FF FF FF 01", read (2 ^ 64 - 1) 10)
    ∷ (hex "FF FF FF FF FF FF FF FF FF 02", refused 2 0)
    ∷ (hex "80 80 80 80 80 80 80 80 80 80 00", refused 2 0)
    ∷ (hex "00", read 0 1)
    ∷ (hex "80 00", padded 0 2)
    ∷ (hex "81 80 00", padded 1 3)
    ∷ (hex "FF 7F", read 16383 2)
    ∷ (hex "FF FF FF FF FF FF FF FF FF 00", padded (2 ^ 63 - 1) 10)
    ∷ (hex "80 80 80 80 80 80 80 80 80 01", read (2 ^ 63) 10)
    ∷ (hex "80", refused 1 0)
    ∷ ([], refused 1 0)
    ∷ []

varints_hold : map (λ s. varint s.0 0 (length s.0) 0) varints ≡ map (λ s. s.1) varints
unfolding varints read padded Notation-computes Varint-computes
varints_hold = refl

-- Numbers, and how they are written.
numbers : List (ℕ × Bytes)
numbers =
    (0, hex "00")
    ∷ (127, hex "7F")
    ∷ (128, hex "80 01")
    ∷ (150, hex "96 01")
    ∷ (16383, hex "FF 7F")
    ∷ (16384, hex "80 80 01")
    ∷ (2 ^ 63, hex "80 80 80 80 80 80 80 80 80 01")
    ∷ (2 ^ 64 - 1, hex "FF FF FF FF FF FF FF FF FF 01")
    ∷ []

numbers_hold : map (λ s. encode s.0) numbers ≡ map (λ s. s.1) numbers
unfolding numbers encode_from encode Notation-computes
numbers_hold = refl
