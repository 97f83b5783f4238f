-- The second walk on each of its refusals, and on two neighbours at once, evaluated: number and place. Main graphs stand from place 6 on in `model`, and their
-- contents from 8 on.
use Rattle.std.specs.Prelude.{ℕ, ◌≡◌, refl, List, [], ◌∷◌, ◌++◌, map}
use Prim.Native.String.{String}
use Rattle.varint.specs.Outcome.{Judged, refused, refused_with}
use Rattle.varint.specs.Bytes.{Bytes}
use Rattle.varint.specs.Notation.{hex, ascii}
use Rattle.schema.specs.Numbers.{Model-ir_version, Model-graph, Graph-node}
use Rattle.schema.specs.Numbers.{Graph-name, Graph-initializer, Graph-input, Graph-output, Graph-sparse_initializer, Node-input, Node-output, Node-name}
use Rattle.schema.specs.Numbers.{Node-op_type, Node-attribute, Node-domain, Attribute-name, Tensor-name, ValueInfo-name, ValueInfo-type}
use Rattle.schema.specs.Numbers.{TypeProto-tensor, TensorType-elem_type, TensorType-shape, Shape-dim, Dimension-dim_param}
use Rattle.rules.specs.Models.{held, counted, value, tensor, body, node, graph, import, named, op, out, model_of, model, Models-computes}
use Rattle.rules.specs.FunctionRows.{accepted, function_rows, FunctionRows-computes}
use Rattle.rules.specs.Verdict.{Counts, verdict, Verdict-computes}

-- ---- parts that are not as `Models` makes them

input : String → Bytes → Bytes
input x type = held Graph-input (held ValueInfo-name (ascii x) ++ type)

-- A main graph with an input `x` of this type, and one with a node of these fields.
typed : Bytes → Bytes
typed type = model (named ++ input "x" type)

tensor_type : Bytes → Bytes
tensor_type fields = held ValueInfo-type (held TypeProto-tensor fields)

shaped : Bytes → Bytes
shaped dims = tensor_type (counted TensorType-elem_type 1 ++ held TensorType-shape dims)

-- The dim_value -1.
minus_one : Bytes
minus_one = hex "08 FF FF FF FF FF FF FF FF FF 01"

dim : Bytes → Bytes
dim fields = shaped (held Shape-dim fields)

noded : Bytes → Bytes
noded fields = model (named ++ held Graph-node fields)

-- An attribute of these fields after its name, and a node with one.
attribute : Bytes → Bytes → Bytes
attribute x fields = held Node-attribute (held Attribute-name x ++ fields)

attributed : Bytes → Bytes
attributed fields = noded (op ++ attribute (ascii "a") fields ++ out)

-- A model of an IR version with an input `x` and a node that holds this graph.
bodied : (ir_version : ℕ) → Bytes → Bytes
bodied v g = model_of v (graph "x" "" (node "" (body "do" g ∷ []) "y" ∷ []) "y")

-- A model, cells, and the answer.
judged : List (Bytes × ℕ × Judged Counts)
judged =
    -- header
    (counted Model-ir_version 2 ++ import "" 13 ++ held Model-graph named, 0, refused 10 0)
    ∷ (import "" 13 ++ held Model-graph named ++ counted Model-ir_version 12, 0, refused 10 11)
    ∷ (counted Model-ir_version 11 ++ import "" 13, 0, refused 11 0)
    ∷ (counted Model-ir_version 3 ++ held Model-graph named, 0, refused 12 0)
    ∷ (model_of 3 named, 0, accepted 0 0 0)
    ∷ (model_of 11 named, 0, accepted 0 0 0)
    ∷ (counted Model-ir_version 8 ++ import "" 13 ++ import "ai.onnx" 13 ++ held Model-graph named, 0, refused 13 8)
    ∷ (counted Model-ir_version 8 ++ import "" 22 ++ import "" 13 ++ held Model-graph named, 0, refused 14 2)
    ∷ (counted Model-ir_version 8 ++ import "ai.onnx.ml" 13 ++ held Model-graph named, 0, refused 14 2)
    -- graph
    ∷ (model [], 0, refused 20 6)
    ∷ (model (held Graph-name []), 0, refused 20 8)
    ∷ (model (held Graph-name (hex "67 80")), 0, refused 21 8)
    ∷ (model (held Graph-sparse_initializer [] ++ named), 0, refused 16 8)
    ∷ (model (named ++ held Graph-input []), 0, refused 22 11)
    ∷ (model (named ++ held Graph-output (value (ascii "w1"))), 0, refused 35 13)
    -- types
    ∷ (typed [], 2, refused 24 11)
    ∷ (typed (held ValueInfo-type (hex "22 00")), 2, refused 24 16)
    ∷ (typed (tensor_type []), 2, refused 25 18)
    ∷ (typed (tensor_type (counted TensorType-elem_type 24)), 2, refused 25 20)
    ∷ (typed (tensor_type (counted TensorType-elem_type 23)), 2, refused 37 18)
    ∷ (typed (dim minus_one), 2, refused 38 26)
    ∷ (typed (dim (held Dimension-dim_param [])), 2, refused 21 26)
    ∷ (typed (dim []), 2, accepted 0 1 0)
    -- initializers
    ∷ (model (named ++ held Graph-initializer (held Tensor-name (ascii "w"))), 2, refused 26 11)
    ∷ (model (graph "x" "w" [] "x"), 3, refused 40 28)
    ∷ (model (graph "x" "x" [] "x"), 2, accepted 0 1 0)
    ∷ (model (graph "x" "x x" [] "x"), 2, refused_with 23 35 13)
    -- initializers at IR 3, beside IR 4: of a graph's own inputs, in a nested graph too, and when the cells are full
    ∷ (model_of 3 (graph "x" "w" [] "x"), 4, refused 43 28)
    ∷ (model_of 4 (graph "x" "w" [] "x"), 4, accepted 0 2 0)
    ∷ (model_of 3 (graph "x" "x" [] "x"), 2, accepted 0 1 0)
    ∷ (model_of 3 (graph "x" "x x" [] "x"), 2, refused_with 23 35 13)
    ∷ (bodied 3 (graph "i" "i" [] "i"), 4, accepted 1 2 0)
    ∷ (bodied 4 (graph "i" "i" [] "i"), 4, refused_with 23 57 42)
    ∷ (bodied 3 (graph "i" "i i" [] "i"), 4, refused_with 23 64 42)
    ∷ (bodied 3 (graph "i" "x" [] "i"), 4, refused 43 57)
    ∷ (bodied 4 (graph "i" "x" [] "i"), 4, refused_with 23 57 13)
    ∷ (bodied 11 (graph "i" "i" [] "i"), 4, refused_with 23 57 42)
    -- and with ir_version after the graph
    ∷ (import "" 13 ++ held Model-graph (graph "" "w" [] "w") ++ counted Model-ir_version 3, 2, refused 43 15)
    ∷ (import "" 13 ++ held Model-graph (graph "" "w" [] "w") ++ counted Model-ir_version 4, 2, accepted 0 1 0)
    -- nodes
    ∷ (noded out, 2, refused 27 11)
    ∷ (noded (held Node-op_type [] ++ out), 2, refused 27 13)
    ∷ (noded (held Node-domain (ascii "d") ++ op ++ out), 2, refused 28 13)
    ∷ (noded (held Node-domain (ascii "ai.onnx") ++ op ++ out), 2, accepted 1 1 0)
    ∷ (noded (op ++ held Node-name (hex "FF") ++ out), 2, refused 21 16)
    ∷ (model (named ++ held Graph-node (op ++ held Node-name (ascii "n") ++ out) ++ held Graph-node (op ++ held Node-name (ascii "n") ++ out)), 2, refused 29 27)
    ∷ (model (graph "w" "" (node "w1" [] "y" ∷ []) "y"), 4, refused 30 26)
    ∷ (noded op, 2, refused 34 11)
    ∷ (noded (op ++ held Node-output []), 0, accepted 1 0 0)
    -- attributes
    ∷ (noded (op ++ held Node-attribute [] ++ out), 2, refused 22 16)
    ∷ (attributed (hex "A0 01 02"), 2, accepted 1 1 0)
    ∷ (attributed [], 2, refused 32 16)
    ∷ (attributed (hex "A0 01 0F"), 2, refused 32 16)
    ∷ (attributed (hex "A0 01 02 22 00"), 2, refused 32 16)
    ∷ (attributed (hex "A0 01 04"), 2, refused 32 16)
    ∷ (attributed (hex "AA 01 01 61"), 2, refused 33 16)
    ∷ (attributed (hex "AA 01 00 A0 01 03 22 00"), 2, accepted 1 1 0)
    ∷ (noded (op ++ body "a" (graph "" "" [] "") ++ body "a" (graph "" "" [] "") ++ out), 2, refused 31 31)
    -- a nested graph: no default in it, and the greatest count may lie there
    ∷ (model (graph "x" "" (node "" (body "do" (graph "i" "i" [] "i") ∷ []) "y" ∷ []) "y"), 18, refused_with 23 57 42)
    ∷ (model (graph "x" "" (node "" (body "do" (graph "i j" "k" [] "k") ∷ []) "y" ∷ []) "y"), 8, accepted 1 4 0)
    ∷ (model (graph "x" "" (node "" (body "do" (graph "i j" "k" [] "k") ∷ []) "y" ∷ []) "y"), 7, refused 40 70)
    -- both places: of a name that vanished and was defined again the second; of a default its input's, here later on the wire
    ∷ (model (graph "x" "" (node "" (body "do" (graph "" "t" [] "t") ∷ []) "t" ∷ node "x" [] "t" ∷ []) "t"), 18, refused_with 23 74 63)
    ∷ (model (held Graph-initializer (tensor (ascii "x")) ++ held Graph-initializer (tensor (ascii "x")) ++ held Graph-input (value (ascii "x")) ++ named), 2, refused_with 23 19 24)
    -- "Shortcuts that let a bad graph through", each beside a good graph
    ∷ (model (graph "x" "" (node "" (body "do" (graph "" "" (node "y" [] "t" ∷ []) "t") ∷ []) "y" ∷ []) "y"), 18, refused 30 42)
    ∷ (model (graph "x" "" (node "" (body "do" (graph "" "" (node "x" [] "t" ∷ []) "t") ∷ []) "y" ∷ []) "y"), 18, accepted 2 2 0)
    ∷ (
      model (node "x w" [] "y" ++ held Graph-output (value (ascii "y")) ++ held Graph-initializer (tensor (ascii "w"))
          ++ held Graph-input (value (ascii "x")) ++ named),
      18,
      accepted 1 3 0,
    )
    ∷ (model (graph "x" "" (node "y" [] "a" ∷ node "x" [] "y" ∷ []) "y"), 18, refused 30 26)
    ∷ (model (graph "x" "" (node "" (body "then" (graph "" "t" [] "t") ∷ body "else" (graph "" "" [] "t") ∷ []) "y" ∷ []) "y"), 18, refused 35 80)
    ∷ (model (graph "x" "" (node "" (body "then" (graph "" "t" [] "t") ∷ body "else" (graph "" "t" [] "t") ∷ []) "y" ∷ []) "y"), 18, accepted 1 2 0)
    ∷ (model (graph "x" "" (node "" (body "do" (graph "" "t" [] "t") ∷ []) "y" ∷ node "t" [] "z" ∷ []) "y"), 18, refused 30 68)
    ∷ (model (graph "x" "x" (node "x" [] "y" ∷ []) "y"), 4, accepted 1 2 0)
    ∷ (model (graph "w" "" (node "w" [] "w1" ∷ node "w1" [] "y" ∷ []) "y"), 18, accepted 2 3 0)
    -- names that are not identifiers count, each field once: of a graph, inputs, defaults, nodes, attributes, graph outputs, dim_params
    ∷ (model (held Graph-name (ascii "g-1")), 0, accepted 0 0 1)
    ∷ (model (graph "/x" "" (node "/x" [] "/y" ∷ []) "/y"), 4, accepted 1 2 4)
    ∷ (model (graph "/x" "/x" [] "/x"), 2, accepted 0 1 3)
    ∷ (noded (held Node-op_type (ascii "a b") ++ out), 2, accepted 1 1 1)
    ∷ (noded (op ++ held Node-name (ascii "1") ++ out), 2, accepted 1 1 1)
    ∷ (noded (op ++ held Node-output (hex "C3 A9") ++ held Node-output []), 2, accepted 1 1 1)
    ∷ (noded (op ++ body "a.b" (graph "" "" [] "") ++ out), 2, accepted 1 1 1)
    ∷ (typed (dim (held Dimension-dim_param (ascii "N"))), 2, accepted 0 1 0)
    ∷ (typed (dim (held Dimension-dim_param (ascii "batch size"))), 2, accepted 0 1 1)
    ∷ (
      model (named ++ held Graph-input (value (ascii "x"))
          ++ held Graph-output (held ValueInfo-name (ascii "x") ++ dim (held Dimension-dim_param (ascii "2N")))),
      2,
      accepted 0 1 1,
    )
    -- in a nested graph its names, and not its types
    ∷ (model (graph "x" "" (node "" (body "do" (graph "/i" "/k" [] "/k") ∷ []) "y" ∷ []) "y"), 18, accepted 1 3 3)
    ∷ (model (graph "x" "" (node "" (body "do" (named ++ input "i" (dim (held Dimension-dim_param (ascii "2N")))) ∷ []) "y" ∷ []) "y"), 18, accepted 1 2 0)
    -- each of them is well-formed UTF-8
    ∷ (model (named ++ held Graph-input (value (hex "C0 80"))), 2, refused 21 13)
    ∷ (model (named ++ held Graph-initializer (tensor (hex "FF"))), 2, refused 21 15)
    ∷ (noded (held Node-op_type (hex "FF") ++ out), 2, refused 21 13)
    ∷ (noded (held Node-input (hex "C3") ++ op ++ out), 2, refused 21 13)
    ∷ (noded (op ++ held Node-output (hex "C3 A9 80")), 2, refused 21 16)
    ∷ (model (named ++ held Graph-output (value (hex "FF"))), 2, refused 21 13)
    ∷ (typed (dim (held Dimension-dim_param (hex "ED A0 80"))), 2, refused 21 26)
    -- the order of neighbouring rules: each model breaks both
    ∷ (counted Model-ir_version 8, 0, refused 11 0)
    ∷ (counted Model-ir_version 8 ++ held Model-graph [], 0, refused 12 0)
    ∷ (counted Model-ir_version 8 ++ import "" 13 ++ import "" 22 ++ held Model-graph named, 0, refused 13 8)
    ∷ (counted Model-ir_version 8 ++ import "" 22 ++ held Model-graph [], 0, refused 14 2)
    ∷ (model (held Graph-sparse_initializer [] ++ held Graph-name []), 0, refused 20 10)
    ∷ (model (held Graph-sparse_initializer [] ++ held Graph-name (hex "FF")), 0, refused 21 10)
    ∷ (model (named ++ held Graph-input [] ++ held Graph-sparse_initializer []), 0, refused 16 13)
    ∷ (model (held Graph-initializer [] ++ held Graph-input [] ++ named), 0, refused 22 10)
    ∷ (model (held Graph-node [] ++ held Graph-initializer [] ++ named), 0, refused 22 10)
    ∷ (model (held Graph-output [] ++ held Graph-node [] ++ named), 0, refused 27 10)
    ∷ (model (graph "x x" "" [] "x"), 2, refused_with 23 26 13)
    ∷ (typed [], 1, refused 40 13)
    ∷ (typed (shaped (held Shape-dim (held Dimension-dim_param []) ++ held Shape-dim minus_one)), 2, refused 21 26)
    ∷ (model (named ++ input "x" (tensor_type (counted TensorType-elem_type 1)) ++ input "y" (dim minus_one)), 4, refused 37 18)
    ∷ (model (named ++ input "x" (dim minus_one) ++ input "y" (tensor_type (counted TensorType-elem_type 1))), 4, refused 38 26)
    ∷ (model (named ++ held Graph-initializer (held Tensor-name (ascii "w"))), 0, refused 40 13)
    ∷ (model_of 3 (named ++ held Graph-initializer []), 0, refused 22 11)
    ∷ (model_of 3 (named ++ held Graph-initializer (tensor (hex "FF"))), 0, refused 21 15)
    ∷ (model_of 3 (named ++ held Graph-initializer (held Tensor-name (ascii "w"))), 0, refused 43 13)
    ∷ (model (named ++ held Graph-output (held ValueInfo-name (ascii "q"))), 0, refused 35 13)
    ∷ (noded (held Node-domain (ascii "d") ++ out), 2, refused 27 11)
    ∷ (noded (held Node-domain (ascii "d") ++ op ++ held Node-name (hex "FF") ++ out), 2, refused 28 13)
    ∷ (noded (held Node-input (ascii "q") ++ op ++ held Node-name (hex "FF") ++ out), 2, refused 21 19)
    ∷ (noded (held Node-input (hex "FF") ++ op ++ out), 2, refused 21 13)
    ∷ (noded (held Node-attribute [] ++ held Node-input (ascii "q") ++ op ++ out), 2, refused 30 15)
    ∷ (noded (op ++ held Node-attribute []), 2, refused 22 16)
    ∷ (noded (op ++ held Node-output (hex "FF")), 0, refused 21 16)
    ∷ (noded (op ++ held Node-attribute [] ++ held Node-attribute [] ++ out), 2, refused 22 16)
    ∷ (noded (op ++ attribute (hex "FF") (hex "A0 01 02") ++ attribute (hex "FF") (hex "A0 01 02") ++ out), 2, refused 21 18)
    ∷ (noded (op ++ attribute (ascii "a") (hex "A0 01 02") ++ attribute (ascii "a") (hex "AA 01 01 61") ++ out), 2, refused 31 26)
    ∷ (attributed (hex "A0 01 0F AA 01 01 61"), 2, refused 33 16)
    ∷ (attributed (hex "32 00 A0 01 01"), 2, refused 32 16)
    ∷ []

-- L, and the domain `m` from 1 to 5.
listed : Bytes
listed = hex "00 00 00 16 01 00 08 00 00 00 07 00 00 00 15 00 09 6D 00 00 00 01 00 00 00 05"

judged_hold : map (λ s. verdict s.0 listed s.1) (judged ++ function_rows) ≡ map (λ s. s.2) (judged ++ function_rows)
unfolding listed FunctionRows-computes judged input typed tensor_type shaped minus_one dim noded attribute attributed bodied Models-computes Verdict-computes
judged_hold = refl
