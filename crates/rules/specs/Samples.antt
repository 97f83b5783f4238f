-- Document 01, "Sample models under L": those marked P, evaluated in the definitions.
use Rattle.std.specs.Prelude.{ℕ, ◌≡◌, refl, List, [], ◌∷◌, map}
use Rattle.varint.specs.Outcome.{pass, Judged, refused, refused_with}
use Rattle.varint.specs.Bytes.{Bytes}
use Rattle.varint.specs.Notation.{hex, Notation-computes}
use Rattle.operators.specs.Samples.{L}
use Rattle.rules.specs.Verdict.{Counts, verdict, Verdict-computes}

M0 : Bytes
M0 = hex "08 08 42 02 10 0D 3A 03 12 01 67"

M1 : Bytes
M1 = hex "08 08 42 02 10 0D 3A 0B 12 01 67 0A 06 12 01 61 22 01 58"

accepted : (nodes names odd : ℕ) → Judged Counts
accepted nodes names odd = pass (record { nodes = nodes; names = names; odd = odd })

samples : List (Bytes × ℕ × Judged Counts)
samples =
    ([], 0, refused 10 0)
    ∷ (hex "08", 0, refused 1 0)
    ∷ (hex "00", 0, refused 3 0)
    ∷ (hex "0A", 0, refused 4 0)
    ∷ (hex "08 08 08 08", 0, refused 5 2)
    ∷ (hex "08 FF FF FF FF FF FF FF FF FF 01", 0, refused 10 0)
    ∷ (hex "08 FF FF FF FF FF FF FF FF FF 02", 0, refused 2 0)
    ∷ (M0, 0, accepted 0 0 0)
    ∷ (M1, 2, accepted 1 1 0)
    ∷ (M1, 0, refused 40 13)
    ∷ (hex "08 08 42 02 10 0D 3A 0E 12 01 67 0A 09 0A 01 61 12 01 61 22 01 58", 1, refused 30 13)
    ∷ (hex "08 08 42 02 10 0D 3A 0E 12 01 67 0A 09 12 01 61 12 01 61 22 01 58", 2, refused_with 23 16 13)
    ∷ []

samples_hold : map (λ s. verdict s.0 L s.1) samples ≡ map (λ s. s.2) samples
unfolding samples M0 M1 accepted L Notation-computes Verdict-computes
samples_hold = refl
