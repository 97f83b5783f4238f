-- A reader that lets padding pass, as a runtime's own parser does and document 01's did: "Padded ones pass." No rule speaks of this; what is
-- claimed of the definitions does.
use Rattle.std.specs.Prelude.{ℕ, zero, suc, ◌-◌, ◌/◌, ◌%◌, true, false, List, [], ◌∷◌, leb, eqb}
use Rattle.varint.specs.Outcome.{pass, fail, ◌>>=◌, ◌>>◌, Judged, refuse◌at:◌when:◌}
use Rattle.varint.specs.Bytes.{Bytes}
use Rattle.varint.specs.Varint.{varint}
use Rattle.wire.specs.Wire.{VARINT, I64, LEN, bad_tag, sized}
use Rattle.wire.specs.declared.Tag.{Tag}
use Rattle.wire.specs.declared.Field.{Field}

module _ (model : Bytes) where
  unfoldable pub plain_tag : (end pos : ℕ) → Judged Tag
  plain_tag end pos = do
    t ← varint model pos end pos
    refuse 3 at: pos when: bad_tag t.value
    pass (record { place = pos; number = t.value / 8; wire = t.value % 8; next = t.next })

  unfoldable pub plain_value : Tag → (end : ℕ) → Judged Field
  plain_value t end = elim (eqb t.wire VARINT) [
    | true ↦ do
      v ← varint model t.place end t.next
      sized t end v.value v.next 0
    | false ↦ elim (eqb t.wire LEN) [
      | true ↦ do
        v ← varint model t.place end t.next
        sized t end 0 v.next v.value
      | false ↦ elim (eqb t.wire I64) [ true ↦ sized t end 0 t.next 8 | false ↦ sized t end 0 t.next 4 ]
    ]
  ]

  unfoldable pub plain_field : (end pos : ℕ) → Judged Field
  plain_field end pos = do
    t ← plain_tag end pos
    plain_value t end

  unfoldable pub plain_fields_from : (bound end pos : ℕ) → List Field
  plain_fields_from zero end pos = []
  plain_fields_from (suc bound) end pos = elim (leb end pos) [
    | true ↦ []
    | false ↦ elim (plain_field end pos) [ pass f ↦ f ∷ plain_fields_from bound end f.next | fail r ↦ [] ]
  ]

  unfoldable pub plain_fields : (end pos : ℕ) → List Field
  plain_fields end pos = plain_fields_from (end - pos) end pos
