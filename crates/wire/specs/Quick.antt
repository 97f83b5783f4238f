-- What is read with few tests, where it has a usual size: varints, tags, values.
use Rattle.std.specs.Prelude.{ℕ, ◌+◌, ◌^◌, ◌≤◌, ◌<◌, ◌≡◌, true, List, [], ◌∷◌}
use Rattle.varint.specs.Outcome.{pass}
use Rattle.varint.specs.Lists.{contains}
use Rattle.varint.specs.Bytes.{Bytes}
use Rattle.varint.specs.Varint.{shortest_varint}
use Rattle.wire.specs.Wire.{VARINT, I64, LEN, I32, tag, sized, value}
use Rattle.wire.specs.declared.shorts.Number.{Number}
use Rattle.wire.specs.declared.Tag.{Tag}
use Rattle.wire.specs.declared.Field.{Field}

-- A varint in its shortest form that is read at a place, whatever field it is of. It is too short for a tag above 2^32 - 1.
pub record Few (model : Bytes) (end pos : ℕ) (v : Number) : Type 0 where
  pub inside : v.next ≤ end
  pub small : v.value < 2 ^ 32
  pub read : (place : ℕ) → pass (record { value = v.value; next = v.next; shortest = true }) ≡ shortest_varint model place end pos

-- Some varint in its shortest form is read at a place, and ends at `next`.
pub record Many (model : Bytes) (end pos next : ℕ) : Type 0 where
  pub value : ℕ
  pub inside : next ≤ end
  pub read : (place : ℕ) → pass (record { value = value; next = next; shortest = true }) ≡ shortest_varint model place end pos

abbrev pub wires : List ℕ
wires = VARINT ∷ I64 ∷ LEN ∷ I32 ∷ []

-- The tag at a place, if its wire type is one.
pub record QuickTag (model : Bytes) (end pos : ℕ) (t : Tag) : Type 0 where
  pub read : contains t.wire wires ≡ true → pass t ≡ tag model end pos

abbrev pub field_of : Tag → (value start next : ℕ) → Field
field_of t value start next = record { place = t.place; number = t.number; wire = t.wire; value = value; start = start; next = next }

-- A wire type whose values have a fixed size.
pub record Fixed (wire size : ℕ) : Type 0 where
  pub good : contains wire wires ≡ true
  pub read : (model : Bytes) (t : Tag) (end : ℕ) → t.wire ≡ wire → sized t end 0 t.next size ≡ value model t end

-- Where a value of fixed size ends.
pub record FixedEnd (wire from end next : ℕ) : Type 0 where
  pub size : ℕ
  pub fixed : Fixed wire size
  pub is : next ≡ from + size
  pub inside : next ≤ end

-- The field of a tag, and its wire type is one.
pub record QuickValue (model : Bytes) (t : Tag) (end : ℕ) (f : Field) : Type 0 where
  pub good : contains t.wire wires ≡ true
  pub read : pass f ≡ value model t end

-- The tag of a number that ends at `next`.
pub record Long (model : Bytes) (t : Tag) (end next : ℕ) : Type 0 where
  pub zero : t.wire ≡ VARINT
  pub number : Many model end t.next next
