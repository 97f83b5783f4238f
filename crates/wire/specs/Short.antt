-- A short field: one byte of tag, one of length or of value.
use Rattle.std.specs.Prelude.{ℕ, ◌+◌, ◌/◌, ◌%◌, ◌≤◌, ◌≡◌, true, false, eqb, length}
use Rattle.varint.specs.Outcome.{pass}
use Rattle.varint.specs.Bytes.{Bytes, byte}
use Rattle.wire.specs.Wire.{VARINT, field}
use Rattle.wire.specs.declared.Field.{Field}

-- The field that the two bytes at a place say, with its end.
unfoldable pub short_field : (model : Bytes) → (pos next : ℕ) → Field
short_field model pos next = record {
  place = pos;
  number = byte model pos / 8;
  wire = byte model pos % 8;
  value = elim (eqb (byte model pos % 8) VARINT) [ true ↦ byte model (pos + 1) | false ↦ 0 ];
  start = pos + 2;
  next = next;
}

-- It is the field that is read there.
pub record Short (model : Bytes) (end pos next : ℕ) : Type 0 where
  pub room : pos + 2 ≤ next
  pub inside : next ≤ end
  pub there : next ≤ length model
  pub read : field model end pos ≡ pass (short_field model pos next)
