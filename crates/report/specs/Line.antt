-- The line of an answer.
use Rattle.std.specs.Prelude.{ℕ, zero, suc, ◌/◌, ◌%◌, true, false, [], ◌∷◌, ◌++◌, length, drop, eqb, ltb}
use Rattle.io.specs.Digits.{hex_digit_ascii}
use Rattle.varint.specs.Outcome.{pass, fail, Judged}
use Rattle.varint.specs.Bytes.{Bytes}
use Rattle.varint.specs.Notation.{ascii}
use Rattle.varint.specs.declared.Refusal.{Refusal}
use Rattle.rules.specs.Verdict.{Counts}

-- A number in decimal digits, the most significant first. It has no more digits than ones, so the number is bound enough.
unfoldable pub spell : (bound n : ℕ) → Bytes
spell zero n = []
spell (suc bound) n = elim (ltb n 10) [ true ↦ hex_digit_ascii n ∷ [] | false ↦ spell bound (n / 10) ++ (hex_digit_ascii (n % 10) ∷ []) ]

unfoldable pub decimal : ℕ → Bytes
decimal n = spell (suc n) n

-- Two words, each with a number after it.
unfoldable pub numbers_of : (first : Bytes) → (m : ℕ) → (second : Bytes) → (n : ℕ) → Bytes
numbers_of first m second n = first ++ decimal m ++ second ++ decimal n

-- "The program's line for 23 ends ` first N`."
unfoldable pub first_of : Refusal → Bytes
first_of r = elim (eqb r.number 23) [ true ↦ ascii " first " ++ decimal r.first | false ↦ [] ]

-- "one line with a newline, `accepted nodes 1 names 1` or `refused 30 at 13`"; "An accepted line gains ` odd N`".
unfoldable pub line_of : Judged Counts → Bytes
line_of (pass c) = numbers_of (ascii "accepted nodes ") c.nodes (ascii " names ") c.names ++ ascii " odd " ++ decimal c.odd ++ (0x0A ∷ [])
line_of (fail r) = numbers_of (ascii "refused ") r.number (ascii " at ") r.place ++ first_of r ++ (0x0A ∷ [])

-- A text at the start of a buffer, whose other bytes stay.
unfoldable pub over : (text buffer : Bytes) → Bytes
over text buffer = text ++ drop (length text) buffer
