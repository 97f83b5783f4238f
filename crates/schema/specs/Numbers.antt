-- The numbers of the fields that the second walk and the runner look at, by message and name.
use Rattle.std.specs.Prelude.{ℕ, ◌≡◌, refl, true, false, List, [], ◌∷◌, map, eqb}
use Prim.Native.String.{String}
use Rattle.schema.specs.declared.Kind.{Kind}
use Rattle.schema.specs.declared.Kind.TheVariants.{Model, OperatorSetId, Function, Graph, Node, Attribute, Tensor, ValueInfo, TypeProto, TensorType, Shape, Dimension}
use Rattle.schema.specs.declared.Row.{Row}
use Rattle.schema.specs.Rows.{rows}

abbrev pub Model-ir_version : ℕ
Model-ir_version = 1

abbrev pub Model-graph : ℕ
Model-graph = 7

abbrev pub Model-opset_import : ℕ
Model-opset_import = 8

abbrev pub Model-functions : ℕ
Model-functions = 25

abbrev pub OperatorSetId-domain : ℕ
OperatorSetId-domain = 1

abbrev pub OperatorSetId-version : ℕ
OperatorSetId-version = 2

abbrev pub Function-name : ℕ
Function-name = 1

abbrev pub Function-input : ℕ
Function-input = 4

abbrev pub Function-output : ℕ
Function-output = 5

abbrev pub Function-attribute : ℕ
Function-attribute = 6

abbrev pub Function-node : ℕ
Function-node = 7

abbrev pub Function-opset_import : ℕ
Function-opset_import = 9

abbrev pub Function-domain : ℕ
Function-domain = 10

abbrev pub Function-attribute_proto : ℕ
Function-attribute_proto = 11

abbrev pub Function-overload : ℕ
Function-overload = 13

abbrev pub Graph-node : ℕ
Graph-node = 1

abbrev pub Graph-name : ℕ
Graph-name = 2

abbrev pub Graph-initializer : ℕ
Graph-initializer = 5

abbrev pub Graph-input : ℕ
Graph-input = 11

abbrev pub Graph-output : ℕ
Graph-output = 12

abbrev pub Graph-sparse_initializer : ℕ
Graph-sparse_initializer = 15

abbrev pub Node-input : ℕ
Node-input = 1

abbrev pub Node-output : ℕ
Node-output = 2

abbrev pub Node-name : ℕ
Node-name = 3

abbrev pub Node-op_type : ℕ
Node-op_type = 4

abbrev pub Node-attribute : ℕ
Node-attribute = 5

abbrev pub Node-domain : ℕ
Node-domain = 7

abbrev pub Attribute-name : ℕ
Attribute-name = 1

abbrev pub Attribute-g : ℕ
Attribute-g = 6

abbrev pub Attribute-graphs : ℕ
Attribute-graphs = 11

abbrev pub Attribute-type : ℕ
Attribute-type = 20

abbrev pub Attribute-ref_attr_name : ℕ
Attribute-ref_attr_name = 21

abbrev pub Tensor-data_type : ℕ
Tensor-data_type = 2

abbrev pub Tensor-name : ℕ
Tensor-name = 8

abbrev pub ValueInfo-name : ℕ
ValueInfo-name = 1

abbrev pub ValueInfo-type : ℕ
ValueInfo-type = 2

abbrev pub TypeProto-tensor : ℕ
TypeProto-tensor = 1

abbrev pub TensorType-elem_type : ℕ
TensorType-elem_type = 1

abbrev pub TensorType-shape : ℕ
TensorType-shape = 2

abbrev pub Shape-dim : ℕ
Shape-dim = 1

abbrev pub Dimension-dim_value : ℕ
Dimension-dim_value = 1

abbrev pub Dimension-dim_param : ℕ
Dimension-dim_param = 2

-- The name that a table of rows has for a number.
name_in : ℕ → List (ℕ × String × Row) → String
name_in n [] = ""
name_in n (e ∷ more) = elim (eqb n e.0) [ true ↦ e.1 | false ↦ name_in n more ]

numbers : List (Kind × ℕ × String)
numbers =
    (Model, Model-ir_version, "ir_version")
    ∷ (Model, Model-graph, "graph")
    ∷ (Model, Model-opset_import, "opset_import")
    ∷ (Model, Model-functions, "functions")
    ∷ (OperatorSetId, OperatorSetId-domain, "domain")
    ∷ (OperatorSetId, OperatorSetId-version, "version")
    ∷ (Function, Function-name, "name")
    ∷ (Function, Function-input, "input")
    ∷ (Function, Function-output, "output")
    ∷ (Function, Function-attribute, "attribute")
    ∷ (Function, Function-node, "node")
    ∷ (Function, Function-opset_import, "opset_import")
    ∷ (Function, Function-domain, "domain")
    ∷ (Function, Function-attribute_proto, "attribute_proto")
    ∷ (Function, Function-overload, "overload")
    ∷ (Graph, Graph-node, "node")
    ∷ (Graph, Graph-name, "name")
    ∷ (Graph, Graph-initializer, "initializer")
    ∷ (Graph, Graph-input, "input")
    ∷ (Graph, Graph-output, "output")
    ∷ (Graph, Graph-sparse_initializer, "sparse_initializer")
    ∷ (Node, Node-input, "input")
    ∷ (Node, Node-output, "output")
    ∷ (Node, Node-name, "name")
    ∷ (Node, Node-op_type, "op_type")
    ∷ (Node, Node-attribute, "attribute")
    ∷ (Node, Node-domain, "domain")
    ∷ (Attribute, Attribute-name, "name")
    ∷ (Attribute, Attribute-g, "g")
    ∷ (Attribute, Attribute-graphs, "graphs")
    ∷ (Attribute, Attribute-type, "type")
    ∷ (Attribute, Attribute-ref_attr_name, "ref_attr_name")
    ∷ (Tensor, Tensor-data_type, "data_type")
    ∷ (Tensor, Tensor-name, "name")
    ∷ (ValueInfo, ValueInfo-name, "name")
    ∷ (ValueInfo, ValueInfo-type, "type")
    ∷ (TypeProto, TypeProto-tensor, "tensor")
    ∷ (TensorType, TensorType-elem_type, "elem_type")
    ∷ (TensorType, TensorType-shape, "shape")
    ∷ (Shape, Shape-dim, "dim")
    ∷ (Dimension, Dimension-dim_value, "dim_value")
    ∷ (Dimension, Dimension-dim_param, "dim_param")
    ∷ []

numbers_hold : map (λ e. name_in e.1 (rows e.0)) numbers ≡ map (λ e. e.2) numbers
unfolding numbers name_in rows
numbers_hold = refl
