-- Document 02: "each byte has the class (letter or underscore, digit, other) that 01's identifier gives it".
use Rattle.std.specs.Prelude.{ℕ, zero, suc, ◌≡◌, refl, Bool, true, false, ◌&&◌, List, [], ◌∷◌, map, eqb}
use Rattle.varint.specs.Bytes.{Bytes}
use Rattle.varint.specs.Notation.{hex, ascii, Notation-computes}
use Rattle.spelling.specs.Identifier.{is_letter, is_digit, Identifier-computes}

-- A class is written as one of its bytes: `a`, `0` or `.`.
unfoldable pub class_of : (letter digit : Bool) → ℕ
class_of true digit = 0x61
class_of false true = 0x30
class_of false false = 0x2E

unfoldable pub byte_class : ℕ → ℕ
byte_class b = class_of (is_letter b) (is_digit b)

-- The test of a whole table: its entries are f 0, f 1 and so on, n of them.
unfoldable pub tabulates : (ℕ → ℕ) → ℕ → Bytes → Bool
tabulates f zero [] = true
tabulates f zero (x ∷ more) = false
tabulates f (suc n) [] = false
tabulates f (suc n) (x ∷ more) = eqb x (f 0) && tabulates (λ k. f (suc k)) n more

-- This file and what it is built on, for whoever computes with it.
unfoldable pub ByteClass-computes : Unit {0}
unfolding Identifier-computes class_of byte_class tabulates
ByteClass-computes = tt

-- ---- samples: both sides of each boundary, and what no ASCII text has

classes : List (Bytes × Bytes)
classes =
    (ascii "/09:", ascii ".00.")
    ∷ (ascii "@AZ[", ascii ".aa.")
    ∷ (ascii "^_`az{", ascii ".a.aa.")
    ∷ (hex "00 7F 80 C3 FF", ascii ".....")
    ∷ []

classes_hold : map (λ s. map byte_class s.0) classes ≡ map (λ s. s.1) classes
unfolding classes ByteClass-computes Notation-computes
classes_hold = refl
