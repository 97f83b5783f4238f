-- What the exported functions answer, in numbers that C knows.
use Rattle.std.specs.Prelude.{ℕ, ◌+◌, true, false, length, leb}
use Rattle.varint.specs.Outcome.{pass, fail, Judged}
use Rattle.varint.specs.Bytes.{Bytes}
use Rattle.rules.specs.Verdict.{Counts}
use Rattle.gate_c.specs.declared.GateAnswer.{GateAnswer}
use Rattle.gate_c.specs.declared.GatePart.{GatePart}

-- Document 01's number and place of a refusal, or the counts of an acceptance, and zeros for the others. No refusal has number 0.
-- Document 02: "Every refusal gains a second number", "An acceptance gains a third count".
unfoldable pub outcome : Judged Counts → GateAnswer
outcome (pass c) = record { refusal = 0; place = 0; nodes = c.nodes; names = c.names; first = 0; odd = c.odd }
outcome (fail r) = record { refusal = r.number; place = r.place; nodes = 0; names = 0; first = r.first; odd = 0 }

-- Where the name service finds the part that it shows; nothing, at the model's start, where the range does not fit.
unfoldable pub shown_at : (model : Bytes) → (start size : ℕ) → GatePart
shown_at model start size = elim (leb (start + size) (length model)) [
  | true ↦ record { start = start; length = size }
  | false ↦ record { start = 0; length = 0 }
]
