-- Document 01: "Type: 24, 25, 37, then each dim: 38 for a negative dim_value, 21 for a dim_param that is present (an empty one
-- included). A dim may have neither." Request 03: 21 is given "to bytes that are not well-formed UTF-8 (RFC 3629) and to an empty
-- dim_param".
use Rattle.std.specs.Prelude.{ℕ, ◌^◌, Bool, not, leb}
use Rattle.std.proofs.Math.Option.{none, some}
use Rattle.varint.specs.Outcome.{pass, ◌>>◌, each, Judged, refused, refuse◌at:◌when:◌}
use Rattle.wire.specs.declared.Field.{Field}
use Rattle.varint.specs.Lists.{within}
use Rattle.varint.specs.Bytes.{Bytes}
use Rattle.wire.specs.Message.{Message, all_of, first_of, number_of, place_of, message}
use Rattle.schema.specs.Numbers.{ValueInfo-type, TypeProto-tensor, TensorType-elem_type, TensorType-shape, Shape-dim, Dimension-dim_value, Dimension-dim_param}
use Rattle.rules.specs.Names.{name_in}
use Rattle.rules.specs.Walk.{Walk, naming, Walk-computes}

-- "A signed value is the 64-bit two's complement reading." So 2^63 and above are negative, and lie outside every range that
-- `within` tests in this crate.
unfoldable pub negative : ℕ → Bool
negative n = leb (2 ^ 63) n

-- An element type of a tensor, in 1..23.
unfoldable pub is_element : ℕ → Bool
is_element n = within 1 23 n

module _ (model : Bytes) where
  -- "21 for a dim_param that is present (an empty one included)"
  unfoldable pub dim_param : Walk → Message → Judged Walk
  dim_param w d = elim (first_of Dimension-dim_param d) [ none ↦ pass w | some p ↦ naming 21 w (name_in model p) ]

  unfoldable pub dim : Walk → Field → Judged Walk
  dim w f = do
    let d = message model f
    refuse 38 at: place_of Dimension-dim_value d when: negative (number_of Dimension-dim_value d)
    dim_param w d

  unfoldable pub tensor_type : Message → Walk → Judged Walk
  tensor_type t w = do
    refuse 25 at: place_of TensorType-elem_type t when: not (is_element (number_of TensorType-elem_type t))
    elim (first_of TensorType-shape t) [
      | none ↦ refused 37 t.place
      | some shape ↦ each dim w (all_of Shape-dim (message model shape))
    ]

  -- "24 the type's, if there is one": the type that a ValueInfo declares, which must be a tensor's.
  unfoldable pub declared_type : Message → Walk → Judged Walk
  declared_type v w = elim (first_of ValueInfo-type v) [
    | none ↦ refused 24 v.place
    | some type ↦ elim (first_of TypeProto-tensor (message model type)) [
      | none ↦ refused 24 type.place
      | some tensor ↦ tensor_type (message model tensor) w
    ]
  ]

-- This file and what it is built on, for whoever computes with it.
unfoldable pub Types-computes : Unit {0}
unfolding Walk-computes negative is_element dim_param dim tensor_type declared_type
Types-computes = tt
