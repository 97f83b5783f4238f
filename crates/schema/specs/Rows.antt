-- Document 01, "Rows (v varint, s bytes, m opened message, f four bytes, * may repeat)". A row is document 01's
-- term for a field that a kind of message may have. Page.antt prints this table back as the document has it.
use Rattle.std.specs.Prelude.{ℕ, Bool, true, false, List, [], ◌∷◌, eqb}
use Prim.Native.String.{String}
use Rattle.std.proofs.Math.Option.{Option, none, some}
use Rattle.schema.specs.declared.Kind.{Kind}
use Rattle.schema.specs.declared.Kind.TheVariants.{Model, OperatorSetId, Function, Graph, Node, Attribute, Tensor, ValueInfo, TypeProto, TensorType, Shape, Dimension}
use Rattle.schema.specs.declared.Holds.{Holds}
use Rattle.schema.specs.declared.Holds.TheVariants.{Varint, Bytes, Four, Message}
use Rattle.schema.specs.declared.Row.{Row}
use Rattle.schema.specs.declared.Row.TheVariants.{Once, Many, Packable, OneOf, Unknown}

-- Kind, Holds and Row are the enums of the code. The document's "Type" and "Type.Tensor" are TypeProto and TensorType here, and document 02's
-- "FunctionProto" is Function: "Open Model field 25".
unfoldable pub rows : Kind → List (ℕ × String × Row)
rows Model =
    (1, "ir_version", Once Varint)
    ∷ (7, "graph", Once (Message Graph))
    ∷ (8, "opset_import", Many (Message OperatorSetId))
    ∷ (25, "functions", Many (Message Function))
    ∷ []
rows OperatorSetId =
    (1, "domain", Once Bytes)
    ∷ (2, "version", Once Varint)
    ∷ []
rows Function =
    (1, "name", Once Bytes)
    ∷ (4, "input", Many Bytes)
    ∷ (5, "output", Many Bytes)
    ∷ (6, "attribute", Many Bytes)
    ∷ (7, "node", Many (Message Node))
    ∷ (9, "opset_import", Many (Message OperatorSetId))
    ∷ (10, "domain", Once Bytes)
    ∷ (11, "attribute_proto", Many (Message Attribute))
    ∷ (13, "overload", Once Bytes)
    ∷ []
rows Graph =
    (1, "node", Many (Message Node))
    ∷ (2, "name", Once Bytes)
    ∷ (5, "initializer", Many (Message Tensor))
    ∷ (11, "input", Many (Message ValueInfo))
    ∷ (12, "output", Many (Message ValueInfo))
    ∷ (13, "value_info", Many (Message ValueInfo))
    ∷ (15, "sparse_initializer", Many Bytes)
    ∷ []
rows Node =
    (1, "input", Many Bytes)
    ∷ (2, "output", Many Bytes)
    ∷ (3, "name", Once Bytes)
    ∷ (4, "op_type", Once Bytes)
    ∷ (5, "attribute", Many (Message Attribute))
    ∷ (7, "domain", Once Bytes)
    ∷ []
rows Attribute =
    (1, "name", Once Bytes)
    ∷ (2, "f", Once Four)
    ∷ (3, "i", Once Varint)
    ∷ (4, "s", Once Bytes)
    ∷ (5, "t", Once (Message Tensor))
    ∷ (6, "g", Once (Message Graph))
    ∷ (7, "floats", Packable Four)
    ∷ (8, "ints", Packable Varint)
    ∷ (9, "strings", Many Bytes)
    ∷ (10, "tensors", Many (Message Tensor))
    ∷ (11, "graphs", Many (Message Graph))
    ∷ (14, "tp", Once Bytes)
    ∷ (15, "type_protos", Many Bytes)
    ∷ (20, "type", Once Varint)
    ∷ (21, "ref_attr_name", Once Bytes)
    ∷ (22, "sparse_tensor", Once Bytes)
    ∷ (23, "sparse_tensors", Many Bytes)
    ∷ []
rows Tensor =
    (2, "data_type", Once Varint)
    ∷ (8, "name", Once Bytes)
    ∷ []
rows ValueInfo =
    (1, "name", Once Bytes)
    ∷ (2, "type", Once (Message TypeProto))
    ∷ []
rows TypeProto =
    (1, "tensor", OneOf (Message TensorType))
    ∷ (4, "", OneOf Bytes)
    ∷ (5, "", OneOf Bytes)
    ∷ (7, "", OneOf Bytes)
    ∷ (8, "", OneOf Bytes)
    ∷ (9, "", OneOf Bytes)
    ∷ []
rows TensorType =
    (1, "elem_type", Once Varint)
    ∷ (2, "shape", Once (Message Shape))
    ∷ []
rows Shape =
    (1, "dim", Many (Message Dimension))
    ∷ []
rows Dimension =
    (1, "dim_value", OneOf Varint)
    ∷ (2, "dim_param", OneOf Bytes)
    ∷ []

-- The row of a field, by its number.
unfoldable pub row_in : ℕ → List (ℕ × String × Row) → Row
row_in n [] = Unknown
row_in n (e ∷ more) = elim (eqb n e.0) [ true ↦ e.2 | false ↦ row_in n more ]

unfoldable pub row_of : Kind → ℕ → Row
row_of k n = row_in n (rows k)

unfoldable pub holds_of : Row → Option Holds
holds_of (Once h) = some h
holds_of (Many h) = some h
holds_of (Packable h) = some h
holds_of (OneOf h) = some h
holds_of Unknown = none

unfoldable pub opened : Holds → Option Kind
opened Varint = none
opened Bytes = none
opened Four = none
opened (Message k) = some k

-- A graph, or a function: document 02, "A function is at depth 1".
unfoldable pub has_nodes : Kind → Bool
has_nodes Model = false
has_nodes OperatorSetId = false
has_nodes Function = true
has_nodes Graph = true
has_nodes Node = false
has_nodes Attribute = false
has_nodes Tensor = false
has_nodes ValueInfo = false
has_nodes TypeProto = false
has_nodes TensorType = false
has_nodes Shape = false
has_nodes Dimension = false

-- All of this file, for whoever computes with it.
unfoldable pub Rows-computes : Unit {0}
unfolding rows row_in row_of holds_of opened has_nodes
Rows-computes = tt
