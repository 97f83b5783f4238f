-- A message that is opened: its fields by number. "An absent number reads as 0, absent bytes as empty."
use Rattle.std.specs.Prelude.{ℕ, ◌-◌, List, [], length, eqb}
use Rattle.std.proofs.Math.Option.{Option, none, some}
use Rattle.varint.specs.Lists.{first, keep}
use Rattle.varint.specs.Bytes.{Bytes, part}
use Rattle.wire.specs.Wire.{LEN, fields, Wire-computes}
use Rattle.wire.specs.declared.Field.{Field}

-- The place of a message's tag, and its fields in wire order.
pub record Message : Type 0 where
  pub place : ℕ
  pub fields : List Field

-- The fields with this number, in list order.
unfoldable pub all_of : ℕ → Message → List Field
all_of n m = keep (λ f. eqb n f.number) m.fields

-- A field that may stand once.
unfoldable pub first_of : ℕ → Message → Option Field
first_of n m = first (all_of n m)

unfoldable pub number_of : ℕ → Message → ℕ
number_of n m = elim (first_of n m) [ none ↦ 0 | some f ↦ f.value ]

-- "Place: the first tag byte of the field at fault; for something absent, the tag of the message that lacks it"
unfoldable pub place_of : ℕ → Message → ℕ
place_of n m = elim (first_of n m) [ none ↦ m.place | some f ↦ f.place ]

module _ (model : Bytes) where
  -- The bytes of a field's contents.
  unfoldable pub text : Field → Bytes
  text f = part f.start (f.next - f.start) model

  unfoldable pub bytes_of : ℕ → Message → Bytes
  bytes_of n m = elim (first_of n m) [ none ↦ [] | some f ↦ text f ]

  -- The message that a field holds.
  unfoldable pub message : Field → Message
  message f = record { place = f.place; fields = fields model f.next f.start }

  -- The model itself, as if it were the contents of a field: "and 0 for the model".
  unfoldable pub whole : Field
  whole = record { place = 0; number = 0; wire = LEN; value = 0; start = 0; next = length model }

-- This file and what it is built on, for whoever computes with it.
unfoldable pub Message-computes : Unit {0}
unfolding Wire-computes all_of first_of number_of place_of text bytes_of message whole
Message-computes = tt
