-- Small models put together from their parts. Only samples use this.
use Rattle.std.specs.Prelude.{ℕ, ◌+◌, ◌*◌, ◌/◌, ◌%◌, true, false, length, ltb}
use Prim.Native.String.{String}
use mathlib.Core.List.{List, [], ◌∷◌, ◌++◌, flat_map}
use Rattle.varint.specs.Bytes.{Bytes}
use Rattle.varint.specs.Notation.{hex, ascii, words, Notation-computes}
use Rattle.schema.specs.Numbers.{Model-ir_version, Model-graph, Model-opset_import, Model-functions, OperatorSetId-domain, OperatorSetId-version, Function-name}
use Rattle.schema.specs.Numbers.{Function-input, Function-output, Function-node, Function-opset_import, Graph-node}
use Rattle.schema.specs.Numbers.{Graph-name, Graph-initializer, Graph-input, Graph-output, Node-input, Node-output}
use Rattle.schema.specs.Numbers.{Node-op_type, Node-attribute, Attribute-name, Attribute-g, Tensor-name, Tensor-data_type}
use Rattle.schema.specs.Numbers.{ValueInfo-name, ValueInfo-type, TypeProto-tensor, TensorType-elem_type, TensorType-shape}

-- A tag or a length of one byte or two.
unfoldable pub size : ℕ → Bytes
size n = elim (ltb n 128) [ true ↦ n ∷ [] | false ↦ (n % 128 + 128) ∷ (n / 128) ∷ [] ]

-- A field with contents, and one with a number.
unfoldable pub held : ℕ → Bytes → Bytes
held n contents = size (8 * n + 2) ++ size (length contents) ++ contents

unfoldable pub counted : ℕ → ℕ → Bytes
counted n v = size (8 * n) ++ v ∷ []

-- A ValueInfo with a name and the type of a tensor of rank 0, and a Tensor with a name.
unfoldable pub value : Bytes → Bytes
value x = held ValueInfo-name x ++ held ValueInfo-type (held TypeProto-tensor (counted TensorType-elem_type 1 ++ held TensorType-shape []))

unfoldable pub tensor : Bytes → Bytes
tensor x = counted Tensor-data_type 1 ++ held Tensor-name x

-- An attribute that holds one graph: its type is 5.
unfoldable pub body : String → Bytes → Bytes
body x g = held Node-attribute (held Attribute-name (ascii x) ++ held Attribute-g g ++ hex "A0 01 05")

-- A node: the names of its inputs, its attributes, the names of its outputs. In a graph, and in a function.
unfoldable pub node_fields : String → List Bytes → String → Bytes
node_fields inputs attributes outputs =
    flat_map (held Node-input) (words inputs)
    ++ held Node-op_type (ascii "F")
    ++ flat_map (λ a. a) attributes
    ++ flat_map (held Node-output) (words outputs)

unfoldable pub node : String → List Bytes → String → Bytes
node inputs attributes outputs = held Graph-node (node_fields inputs attributes outputs)

unfoldable pub call : String → List Bytes → String → Bytes
call inputs attributes outputs = held Function-node (node_fields inputs attributes outputs)

-- A graph: the names of its inputs and of its initializers, its nodes, the names of its outputs.
unfoldable pub graph : String → String → List Bytes → String → Bytes
graph inputs initializers nodes outputs =
    held Graph-name (ascii "g")
    ++ flat_map (λ x. held Graph-input (value x)) (words inputs)
    ++ flat_map (λ x. held Graph-initializer (tensor x)) (words initializers)
    ++ flat_map (λ n. n) nodes
    ++ flat_map (λ x. held Graph-output (value x)) (words outputs)

-- Parts by themselves: the name of a graph, an import of the model, the operator and the output of a node.
unfoldable pub named : Bytes
named = held Graph-name (ascii "g")

unfoldable pub import : String → ℕ → Bytes
import d v = held Model-opset_import (held OperatorSetId-domain (ascii d) ++ counted OperatorSetId-version v)

unfoldable pub op : Bytes
op = held Node-op_type (ascii "F")

unfoldable pub out : Bytes
out = held Node-output (ascii "y")

-- A model of an IR version with one import, and one of IR version 8.
unfoldable pub model_of : (ir_version : ℕ) → Bytes → Bytes
model_of v g = counted Model-ir_version v ++ held Model-opset_import (counted OperatorSetId-version 13) ++ held Model-graph g

unfoldable pub model : Bytes → Bytes
model g = model_of 8 g

-- A function: its name, further fields, the names of its inputs, its nodes, the names of its outputs. `imported` is its import.
unfoldable pub imported : Bytes
imported = held Function-opset_import (counted OperatorSetId-version 13)

unfoldable pub function : String → Bytes → String → List Bytes → String → Bytes
function name more inputs nodes outputs =
    held Model-functions
    (held Function-name (ascii name)
    ++ more
    ++ flat_map (held Function-input) (words inputs)
    ++ flat_map (λ n. n) nodes
    ++ flat_map (held Function-output) (words outputs))

-- This file and what it is built on, for whoever computes with it.
unfoldable pub Models-computes : Unit {0}
unfolding Notation-computes size held counted value tensor body node_fields node call graph named import op out model_of model imported function flat_map
Models-computes = tt
