-- Document 01, "First walk: the wire": tags, values and fields, with no regard to what a field means.
-- A position is always one in the whole model: `pos` is where something begins, `end` where the enclosing message ends.
-- Tag and Field are the structs of the code. A refusal in a field names the place of its tag.
use Rattle.std.specs.Prelude.{ℕ, zero, suc, ◌+◌, ◌-◌, ◌/◌, ◌%◌, ◌^◌, Bool, true, false, not, ◌||◌, List, [], ◌∷◌, leb, ltb, eqb}
use Rattle.varint.specs.Outcome.{pass, fail, ◌>>=◌, ◌>>◌, Judged, refuse◌at:◌when:◌}
use Rattle.varint.specs.Lists.{contains, Lists-computes}
use Rattle.varint.specs.Bytes.{Bytes}
use Rattle.varint.specs.Varint.{shortest_varint, Varint-computes}
use Rattle.wire.specs.declared.Tag.{Tag}
use Rattle.wire.specs.declared.Field.{Field}

-- The wire types of the Protocol Buffers encoding that are in use: varint, eight bytes, length and contents, four bytes.
abbrev pub VARINT : ℕ
VARINT = 0

abbrev pub I64 : ℕ
I64 = 1

abbrev pub LEN : ℕ
LEN = 2

abbrev pub I32 : ℕ
I32 = 5

-- "A tag is at most 2^32 - 1, its field number at least 1, its wire type 0, 1, 2 or 5."
unfoldable pub bad_tag : ℕ → Bool
bad_tag t = leb (2 ^ 32) t || (eqb (t / 8) 0 || not (contains (t % 8) (VARINT ∷ I64 ∷ LEN ∷ I32 ∷ [])))

-- "A value or length must end inside its enclosing message": the field of this tag with `size` bytes from `start` on.
unfoldable pub sized : Tag → (end value start size : ℕ) → Judged Field
sized t end value start size = do
  refuse 1 at: t.place when: ltb end (start + size)
  pass (record {
    place = t.place;
    number = t.number;
    wire = t.wire;
    value = value;
    start = start;
    next = start + size;
  })

module _ (model : Bytes) where
  unfoldable pub tag : (end pos : ℕ) → Judged Tag
  tag end pos = do
    t ← shortest_varint model pos end pos
    refuse 3 at: pos when: bad_tag t.value
    pass (record { place = pos; number = t.value / 8; wire = t.value % 8; next = t.next })

  -- The value, or the length and with it the contents, that follow a tag.
  unfoldable pub value : Tag → (end : ℕ) → Judged Field
  value t end = elim (eqb t.wire VARINT) [
    | true ↦ do
      v ← shortest_varint model t.place end t.next
      sized t end v.value v.next 0
    | false ↦ elim (eqb t.wire LEN) [
      | true ↦ do
        v ← shortest_varint model t.place end t.next
        sized t end 0 v.next v.value
      | false ↦ elim (eqb t.wire I64) [ true ↦ sized t end 0 t.next 8 | false ↦ sized t end 0 t.next 4 ]
    ]
  ]

  unfoldable pub field : (end pos : ℕ) → Judged Field
  field end pos = do
    t ← tag end pos
    value t end

  -- The fields from `pos` to `end` in wire order, up to the first that cannot be read. A field takes a byte or more, so
  -- `end - pos` is bound enough for their number.
  unfoldable pub fields_from : (bound end pos : ℕ) → List Field
  fields_from zero end pos = []
  fields_from (suc bound) end pos = elim (leb end pos) [
    | true ↦ []
    | false ↦ elim (field end pos) [ pass f ↦ f ∷ fields_from bound end f.next | fail r ↦ [] ]
  ]

  unfoldable pub fields : (end pos : ℕ) → List Field
  fields end pos = fields_from (end - pos) end pos

-- This file and what it is built on, for whoever computes with it.
unfoldable pub Wire-computes : Unit {0}
unfolding Lists-computes Varint-computes bad_tag sized tag value field fields_from fields
Wire-computes = tt
