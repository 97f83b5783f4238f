-- What the answers of the code say of fields, each with the cursor after it.
use Rattle.std.specs.declared.option.Option as code
use Rattle.std.specs.Prelude.{ℕ, eqb, None, Some}
use Rattle.std.proofs.Math.Option.{Option, none, some}
use Rattle.varint.specs.Outcome.{pass, ◌>>=◌, Judged}
use Rattle.varint.specs.Lists.{first, keep}
use Rattle.varint.specs.Bytes.{Bytes}
use Rattle.wire.specs.Wire.{fields}
use Rattle.wire.specs.declared.Field.{Field}
use Rattle.wire.specs.declared.Cursor.{Cursor}

-- A field that was looked for, with the cursor after it, as the code answers it.
abbrev pub Sought : Type 0
Sought = code.Option (Field × Cursor)

unfoldable pub sought_says : Sought → Option (Field × Cursor)
sought_says (Some (f, c)) = some (f, c)
sought_says None = none

-- "An absent number reads as 0": the value in the field that was looked for.
unfoldable pub value_in : Sought → ℕ
value_in (Some (f, c)) = f.value
value_in None = 0

-- A cursor at the start of the message that a field holds.
unfoldable pub contents_of : Field → Cursor
contents_of f = record { at = f.start; end = f.next }

-- A field of a message that ends at `end`, with the cursor after it.
unfoldable pub after : (end : ℕ) → Field → Field × Cursor
after end f = (f, record { at = f.next; end = end })

unfoldable pub with_cursor : (end : ℕ) → Judged Field → Judged (Field × Cursor)
with_cursor end o = o >>= λ f. pass (after end f)

-- The same of a field that may be missing.
unfoldable pub found_in : (end : ℕ) → Option Field → Option (Field × Cursor)
found_in end o = elim o [ none ↦ none | some f ↦ some (after end f) ]

-- The first field with this number among those from `pos` to `end`.
unfoldable pub sought_in : (model : Bytes) → (number end pos : ℕ) → Option (Field × Cursor)
sought_in model number end pos = found_in end (first (keep (λ f. eqb number f.number) (fields model end pos)))
