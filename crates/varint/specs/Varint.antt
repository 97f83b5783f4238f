-- Document 01, "First walk: the wire": varints. Document 02, Req 07: "Padding alone defeats our content hash."
-- A position is always one in the whole model: `pos` is where something begins, `end` where the enclosing message ends.
-- Varint is the struct of the code. A refusal names the place of the tag of the field that the varint is in.
use Rattle.std.specs.Prelude.{ℕ, zero, suc, ◌+◌, ◌*◌, ◌%◌, true, false, not, ◌&&◌, ◌||◌, leb, ltb, eqb}
use Rattle.varint.specs.Outcome.{pass, ◌>>=◌, ◌>>◌, Judged, refused, refuse◌at:◌when:◌, Outcome-computes}
use Rattle.varint.specs.Bytes.{Bytes, byte, Bytes-computes}
use Rattle.varint.specs.declared.Varint.{Varint}

module _ (model : Bytes) where
  -- "A varint has at most ten bytes, lowest seven bits first; the tenth is 0 or 1." `left` bytes may still come, nine after the first.
  -- "The varint reader now also tells whether the form was the shortest": the last byte is the first, or is not 0.
  unfoldable pub varint_from : (left place end pos : ℕ) → Judged Varint
  varint_from zero place end pos = refused 2 place
  varint_from (suc left) place end pos = do
    refuse 1 at: place when: leb end pos
    refuse 2 at: place when: (eqb left 0 && ltb 1 (byte model pos))
    elim (ltb (byte model pos) 128) [
      | true ↦ pass (record { value = byte model pos; next = pos + 1; shortest = eqb left 9 || ltb 0 (byte model pos) })
      | false ↦ do
        high ← varint_from left place end (pos + 1)
        pass (record { value = byte model pos % 128 + 128 * high.value; next = high.next; shortest = high.shortest })
    ]

  unfoldable pub varint : (place end pos : ℕ) → Judged Varint
  varint place end pos = varint_from 10 place end pos

  -- "every caller refuses a padded tag, value or length with 9, after 1 and 2 for that varint and before 01's next test"
  unfoldable pub shortest_varint : (place end pos : ℕ) → Judged Varint
  shortest_varint place end pos = do
    v ← varint place end pos
    refuse 9 at: place when: not v.shortest
    pass v

-- This file and what it is built on, for whoever computes with it.
unfoldable pub Varint-computes : Unit {0}
unfolding Outcome-computes Bytes-computes varint_from varint shortest_varint
Varint-computes = tt
