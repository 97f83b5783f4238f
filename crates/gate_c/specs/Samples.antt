-- Small answers, evaluated.
use Rattle.std.specs.Prelude.{ℕ, ◌≡◌, refl, List, [], ◌∷◌, map}
use Rattle.varint.specs.Bytes.{Bytes}
use Rattle.varint.specs.Notation.{hex, Notation-computes}
use Rattle.operators.specs.Samples.{L}
use Rattle.rules.specs.Verdict.{verdict, Verdict-computes}
use Rattle.gate_c.specs.declared.GateAnswer.{GateAnswer}
use Rattle.gate_c.specs.declared.GatePart.{GatePart}
use Rattle.gate_c.specs.Exports.{outcome, shown_at}

M1 : Bytes
M1 = hex "08 08 42 02 10 0D 3A 0B 12 01 67 0A 06 12 01 61 22 01 58"

answer : (refusal place nodes names first odd : ℕ) → GateAnswer
answer refusal place nodes names first odd = record { refusal = refusal; place = place; nodes = nodes; names = names; first = first; odd = odd }

answers : List (Bytes × ℕ × GateAnswer)
answers =
    ([], 0, answer 10 0 0 0 0 0)
    ∷ (hex "08 08 08 08", 0, answer 5 2 0 0 0 0)
    ∷ (M1, 2, answer 0 0 1 1 0 0)
    ∷ (M1, 1, answer 40 13 0 0 0 0)
    ∷ (M1, 0, answer 40 13 0 0 0 0)
    ∷ (hex "08 08 42 02 10 0D 3A 0E 12 01 67 0A 09 12 01 61 12 01 61 22 01 58", 2, answer 23 16 0 0 13 0)
    ∷ (hex "08 08 42 02 10 0D 3A 0B 12 01 67 0A 06 12 01 2F 22 01 58", 2, answer 0 0 1 1 0 1)
    ∷ []

answers_hold : map (λ s. outcome (verdict s.0 L s.1)) answers ≡ map (λ s. s.2) answers
unfolding answers answer M1 L outcome Notation-computes Verdict-computes
answers_hold = refl

at : (start size : ℕ) → GatePart
at start size = record { start = start; length = size }

parts : List (ℕ × ℕ × GatePart)
parts =
    (15, 1, at 15 1)
    ∷ (0, 19, at 0 19)
    ∷ (19, 0, at 19 0)
    ∷ (18, 2, at 0 0)  -- runs past the end
    ∷ (20, 0, at 0 0)  -- starts past it
    ∷ []

parts_hold : map (λ s. shown_at M1 s.0 s.1) parts ≡ map (λ s. s.2) parts
unfolding parts at M1 shown_at Notation-computes
parts_hold = refl
