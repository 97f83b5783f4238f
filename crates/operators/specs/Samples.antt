-- Operator lists on both sides of each rule, evaluated.
use Rattle.std.specs.Prelude.{ℕ, ◌≡◌, refl, Bool, true, false, List, [], ◌∷◌, map}
use Prim.Native.String.{String}
use Rattle.varint.specs.Bytes.{Bytes}
use Rattle.varint.specs.Notation.{hex, ascii, Notation-computes}
use Rattle.operators.specs.Operators.{domain, sound, allows, Operators-computes}

-- List L of document 01, whole, for the default domain 7 to 21.
unfoldable pub L : Bytes
L = hex "00 00 00 0B 01 00 08 00 00 00 07 00 00 00 15"

lists : List (Bytes × Bool)
lists =
    (L, true)
    ∷ (hex "00 00 00 01 01", true)  -- no entries
    ∷ ([], false)
    ∷ (hex "00 00 00 01", false)  -- no version byte
    ∷ (hex "00 00 00 01 02", false)  -- another version
    ∷ (hex "00 00 00 02 01", false)  -- a count too high
    ∷ (hex "00 00 00 01 01 00", false)  -- a count too low
    ∷ (hex "00 00 00 02 01 00", false)  -- half a length
    ∷ (hex "00 00 00 0A 01 00 07 00 00 00 01 00 00 00", false)  -- no room for two versions
    ∷ (hex "00 00 00 0B 01 00 09 00 00 00 01 00 00 00 01", false)  -- an entry past the end
    ∷ (hex "00 00 00 0B 01 00 08 00 00 00 00 00 00 00 01", false)  -- lowest 0
    ∷ (hex "00 00 00 0B 01 00 08 00 00 00 02 00 00 00 01", false)  -- lowest above highest
    ∷ (hex "00 00 00 17 01 00 09 61 00 00 00 01 00 00 00 01 00 09 62 00 00 00 01 00 00 00 01", true)  -- a, b
    ∷ (hex "00 00 00 17 01 00 09 61 00 00 00 01 00 00 00 01 00 09 61 00 00 00 02 00 00 00 02", false)  -- a twice
    ∷ (hex "00 00 00 1C 01 00 08 00 00 00 01 00 00 00 01 00 0F 61 69 2E 6F 6E 6E 78 00 00 00 01 00 00 00 01", false)  -- the empty domain and ai.onnx
    ∷ []

lists_hold : map (λ s. sound s.0) lists ≡ map (λ s. s.1) lists
unfolding lists L Notation-computes Operators-computes
lists_hold = refl

-- Domain and version, under L.
versions : List (String × ℕ × Bool)
versions =
    ("", 6, false)
    ∷ ("", 7, true)
    ∷ ("", 21, true)
    ∷ ("", 22, false)
    ∷ ("ai.onnx", 7, true)
    ∷ ("ai.onnx.ml", 7, false)
    ∷ []

versions_hold : map (λ s. allows L (domain (ascii s.0)) s.1) versions ≡ map (λ s. s.2) versions
unfolding versions L Notation-computes Operators-computes
versions_hold = refl
