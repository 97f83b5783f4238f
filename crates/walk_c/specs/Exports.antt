-- What the exported functions answer, in numbers that C knows.
use Rattle.std.specs.Prelude.{ℕ, zero, suc, true, false, length, leb}
use Rattle.varint.specs.Outcome.{pass, fail, Rule}
use Rattle.varint.specs.Bytes.{Bytes}
use Rattle.varint.specs.Varint.{varint}
use Rattle.walk_c.specs.declared.Answer.{Answer}

-- Document 01's number and place of a refusal, and two zeros for none.
unfoldable pub answered : Rule → Answer
answered (pass u) = record { number = 0; place = 0 }
answered (fail r) = record { number = r.number; place = r.place }

module _ (bytes : Bytes) where
  -- How many varints stand one after the other from `pos` on, up to the first that is refused. A varint takes a byte at least, so
  -- the number of bytes is bound enough.
  unfoldable pub count_from : (bound pos : ℕ) → ℕ
  count_from zero pos = 0
  count_from (suc bound) pos = elim (leb (length bytes) pos) [
    | true ↦ 0
    | false ↦ elim (varint bytes pos (length bytes) pos) [ pass v ↦ suc (count_from bound v.next) | fail r ↦ 0 ]
  ]

  unfoldable pub varint_count : ℕ
  varint_count = count_from (length bytes) 0
