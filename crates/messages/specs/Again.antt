-- The second walk as the code makes it. Nothing is kept of the names that stood earlier in a list, nor of the imports: they are read
-- again where they stand. No rule speaks of this; contracts of the code do, and `graph_again_lem` in `second_walk` says
-- that it is the second walk of document 01.
use Rattle.std.specs.Prelude.{ℕ, zero, suc, Bool, not}
use mathlib.Core.List.{List, [], ◌∷◌, ◌++◌, flat_map}
use Rattle.varint.specs.Outcome.{pass, ◌>>=◌, ◌>>◌, each, Judged, refused, refuse◌at:◌when:◌}
use Rattle.wire.specs.declared.Field.{Field}
use Rattle.varint.specs.Lists.{is_empty, present}
use Rattle.varint.specs.Bytes.{Bytes}
use Rattle.wire.specs.Message.{all_of, first_of, number_of, place_of, text, bytes_of, message}
use Rattle.schema.specs.Numbers.{Graph-node, Graph-name, Graph-initializer, Graph-input, Graph-output, Graph-sparse_initializer}
use Rattle.schema.specs.Numbers.{Tensor-name, Tensor-data_type, Node-input, Node-output, Node-attribute}
use Rattle.rules.specs.Names.{Name, name_of, inputs_of, bodies_of}
use Rattle.rules.specs.Walk.{Walk, GraphJudge, with_node, naming}
use Rattle.rules.specs.Types.{is_element}
use Rattle.rules.specs.Count.{value_names}
use Rattle.rules.specs.Node.{node_input, node_output, body}
use Rattle.rules.specs.Graph.{lacks_input, default_or_new, input, output}
use Rattle.headers.specs.Earlier.{earlier_in}
use Rattle.messages.specs.Around.{inside, context}
use Rattle.messages.specs.Heads.{attribute_rules, node_head}
use Rattle.messages.specs.declared.contexts.Surroundings.{Surroundings}

module _ (model : Bytes) where
  -- The names that are tested: of a field that is a name, of an initializer, and of a graph up to its nodes.
  unfoldable pub field_names : Field → List Bytes
  field_names f = text model f ∷ []

  unfoldable pub tensor_names : Field → List Bytes
  tensor_names f = bytes_of model Tensor-name (message model f) ∷ []

  unfoldable pub opening_names : (main : Bool) → Field → List Bytes
  opening_names main f =
      let g = message model f in
      bytes_of model Graph-name g ∷ flat_map (value_names model main) (all_of Graph-input g) ++ flat_map tensor_names (all_of Graph-initializer g)

  -- "op_type (27, 21); 28; a nonempty node name (21, 29); inputs"
  unfoldable pub node_rules : Surroundings → (graph : Field) → Walk → Field → Judged Walk
  node_rules s graph w f = do
    t ← node_head model s graph w f
    each (node_input model) t (all_of Node-input (message model f))

  -- "its name (20, 21); 16"
  unfoldable pub graph_rules : Walk → Field → Judged Walk
  graph_rules w f = do
    let g = message model f
    t ← naming 20 w (name_of model Graph-name g)
    refuse 16 at: place_of Graph-sparse_initializer g when: present (first_of Graph-sparse_initializer g)
    pass t

  module _ (full : ℕ → Bool) where
    -- "43 (after 21, before 23)", and then a default or a new name.
    unfoldable pub declaring : Surroundings → (graph f : Field) → Walk → Name → Judged Walk
    declaring s graph f w x = do
      let inputs = inputs_of model (message model graph)
      refuse 43 at: x.place when: lacks_input (context model s) inputs x.bytes
      default_or_new full (context model s) inputs (earlier_in model Graph-initializer Tensor-name graph f) w x

    unfoldable pub initializer_again : Surroundings → (graph : Field) → Walk → Field → Judged Walk
    initializer_again s graph w f = do
      let m = message model f
      let x = name_of model Tensor-name m
      t ← naming 22 w x
      v ← declaring s graph f t x
      refuse 26 at: place_of Tensor-data_type m when: not (is_element (number_of Tensor-data_type m))
      pass v

    -- A graph up to its nodes.
    unfoldable pub opening : Surroundings → Walk → Field → Judged Walk
    opening s w f = do
      let g = message model f
      t ← graph_rules w f
      v ← each (input model full (context model s)) t (all_of Graph-input g)
      each (initializer_again s f) v (all_of Graph-initializer g)

    -- A node after its attributes: "34; outputs".
    unfoldable pub closing : Walk → Field → Judged Walk
    closing w f = do
      let m = message model f
      refuse 34 at: f.place when: is_empty (all_of Node-output m)
      v ← each (node_output model full) w (all_of Node-output m)
      pass (with_node v)

    module _ (nested : GraphJudge) where
      unfoldable pub attribute_again : Surroundings → (node : Field) → Walk → Field → Judged Walk
      attribute_again s node w f = do
        t ← attribute_rules model s node w f
        each (body nested) t (bodies_of (message model f))

      unfoldable pub node_again : Surroundings → (graph : Field) → Walk → Field → Judged Walk
      node_again s graph w f = do
        t ← node_rules s graph w f
        v ← each (attribute_again s f) t (all_of Node-attribute (message model f))
        closing v f

      unfoldable pub graph_from : Surroundings → Walk → Field → Judged Walk
      graph_from s w f = do
        let g = message model f
        v ← opening s w f
        n ← each (node_again s f) v (all_of Graph-node g)
        each (output model (context model s)) n (all_of Graph-output g)

    unfoldable pub graph_again : (left : ℕ) → Surroundings → GraphJudge
    graph_again zero s w f = refused 6 f.place
    graph_again (suc left) s w f = graph_from (λ v g. graph_again left (inside s) v g) s w f
