-- Plain counts of nodes and of odd names, with no scope and no rules, to hold the counts of an acceptance against.
use Rattle.std.specs.Prelude.{ℕ, zero, suc, Bool, true, false, not, ◌&&◌, length}
use mathlib.Core.List.{List, [], ◌∷◌, ◌++◌, map, flat_map}
use Rattle.std.proofs.Math.Option.{none, some}
use Rattle.wire.specs.declared.Field.{Field}
use Rattle.varint.specs.Lists.{is_empty, keep}
use Rattle.varint.specs.Bytes.{Bytes}
use Rattle.wire.specs.Message.{Message, all_of, first_of, text, bytes_of, message, whole}
use Rattle.schema.specs.Numbers.{Model-graph, Model-functions, Function-name, Function-input, Function-output, Function-attribute, Function-node}
use Rattle.schema.specs.Numbers.{Function-attribute_proto, Graph-node, Graph-name, Graph-initializer, Graph-input, Graph-output, Node-input, Node-output, Node-name}
use Rattle.schema.specs.Numbers.{Node-op_type, Node-attribute, Attribute-name, Tensor-name, ValueInfo-name, ValueInfo-type, TypeProto-tensor}
use Rattle.schema.specs.Numbers.{TensorType-shape, Shape-dim, Dimension-dim_param}
use Rattle.spelling.specs.Identifier.{identifier}
use Rattle.rules.specs.Names.{bodies_of, bodies_in}

-- ---- nodes

module _ (model : Bytes) where
  -- The node fields of a graph and of the graphs within it, to `bound` depths.
  unfoldable pub nodes_in : (bound : ℕ) → (graph : Field) → List Field
  nodes_in zero g = []
  nodes_in (suc bound) g = flat_map (λ n. n ∷ flat_map (λ b. nodes_in bound b) (bodies_in model n)) (all_of Graph-node (message model g))

  -- Those of a function.
  unfoldable pub function_nodes : (bound : ℕ) → (function : Field) → List Field
  function_nodes bound f = flat_map (λ n. n ∷ flat_map (λ b. nodes_in bound b) (bodies_in model n)) (all_of Function-node (message model f))

  unfoldable pub main_nodes : (bound : ℕ) → List Field
  main_nodes bound = elim (first_of Model-graph (message model (whole model))) [ none ↦ [] | some g ↦ nodes_in bound g ]

  unfoldable pub nodes_to : (bound : ℕ) → ℕ
  nodes_to bound = length (main_nodes bound ++ flat_map (function_nodes bound) (all_of Model-functions (message model (whole model))))

  -- "nodes in all graphs"; "Both counts include function bodies." A graph is longer than one inside it, so the length of the model is bound enough.
  unfoldable pub node_count : ℕ
  node_count = nodes_to (length model)

-- ---- odd names

-- "nonempty fields .. that are not identifiers"
unfoldable pub is_odd : Bytes → Bool
is_odd x = not (is_empty x) && not (identifier x)

unfoldable pub odds : List Bytes → ℕ
odds names = length (keep is_odd names)

module _ (model : Bytes) where
  -- The message in a message's field of this number; one that is absent has no fields.
  unfoldable pub part_of : ℕ → Message → Message
  part_of n m = elim (first_of n m) [ none ↦ record { place = m.place; fields = [] } | some f ↦ message model f ]

  -- The dim_params of a tensor type.
  unfoldable pub dim_params : Message → List Bytes
  dim_params t = map (λ d. bytes_of model Dimension-dim_param (message model d)) (all_of Shape-dim (part_of TensorType-shape t))

  -- The name of an input or an output, and in the main graph the dim_params of its type.
  unfoldable pub value_names : (main : Bool) → Field → List Bytes
  value_names main f =
      let v = message model f in
      bytes_of model ValueInfo-name v ∷ elim main [ true ↦ dim_params (part_of TypeProto-tensor (part_of ValueInfo-type v)) | false ↦ [] ]

  -- All names of an attribute, a node and a graph; `inner` has those of the graphs within.
  module _ (inner : Field → List Bytes) where
    unfoldable pub attribute_names : Field → List Bytes
    attribute_names f = let a = message model f in bytes_of model Attribute-name a ∷ flat_map inner (bodies_of a)

    unfoldable pub node_names : Field → List Bytes
    node_names f =
        let m = message model f in
        bytes_of model Node-op_type m ∷ bytes_of model Node-name m
        ∷ map (text model) (all_of Node-input m)
        ++ flat_map attribute_names (all_of Node-attribute m)
        ++ map (text model) (all_of Node-output m)

    unfoldable pub graph_names : (main : Bool) → Field → List Bytes
    graph_names main f =
        let g = message model f in
        bytes_of model Graph-name g
        ∷ flat_map (value_names main) (all_of Graph-input g)
        ++ map (λ t. bytes_of model Tensor-name (message model t)) (all_of Graph-initializer g)
        ++ flat_map node_names (all_of Graph-node g)
        ++ flat_map (value_names main) (all_of Graph-output g)

  -- To `bound` depths.
  unfoldable pub names_in : (bound : ℕ) → (main : Bool) → (graph : Field) → List Bytes
  names_in zero main g = []
  names_in (suc bound) main g = graph_names (λ b. names_in bound false b) main g

  -- All names of a function; `inner` has those of the graphs within.
  unfoldable pub function_names : (inner : Field → List Bytes) → Field → List Bytes
  function_names inner f =
      let m = message model f in
      bytes_of model Function-name m
      ∷ map (text model) (all_of Function-attribute m)
      ++ map (λ a. bytes_of model Attribute-name (message model a)) (all_of Function-attribute_proto m)
      ++ map (text model) (all_of Function-input m)
      ++ flat_map (node_names inner) (all_of Function-node m)
      ++ map (text model) (all_of Function-output m)

  unfoldable pub main_names : (bound : ℕ) → List Bytes
  main_names bound = elim (first_of Model-graph (message model (whole model))) [ none ↦ [] | some g ↦ names_in bound true g ]

  unfoldable pub odd_to : (bound : ℕ) → ℕ
  odd_to bound =
      odds (main_names bound ++ flat_map (function_names (λ b. names_in bound false b)) (all_of Model-functions (message model (whole model))))

  unfoldable pub odd_in : ℕ
  odd_in = odd_to (length model)
