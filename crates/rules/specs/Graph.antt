-- The second walk of document 01 over a graph.
use Rattle.std.specs.Prelude.{ℕ, zero, suc, Bool, true, false, not, ◌&&◌, ◌||◌, List, ◌∷◌, eqb}
use Rattle.varint.specs.Outcome.{pass, ◌>>=◌, ◌>>◌, each, Judged, refused, refuse◌at:◌when:◌}
use Rattle.wire.specs.declared.Field.{Field}
use Rattle.varint.specs.Lists.{present}
use Rattle.varint.specs.Bytes.{Bytes, member}
use Rattle.wire.specs.Message.{all_of, first_of, number_of, place_of, message}
use Rattle.schema.specs.Numbers.{Graph-node, Graph-name, Graph-initializer, Graph-input, Graph-output, Graph-sparse_initializer, ValueInfo-name, Tensor-name, Tensor-data_type}
use Rattle.rules.specs.Names.{Name, name_of, inputs_of}
use Rattle.rules.specs.Walk.{Context, nested_in, in_main, Walk, GraphJudge, Along, along, visible, naming, define}
use Rattle.rules.specs.Types.{is_element, declared_type, Types-computes}
use Rattle.rules.specs.Node.{node, Node-computes}

unfoldable pub at_ir3 : Context → Bool
at_ir3 c = eqb c.ir_version 3

-- "At IR 3 each initializer must bear the name of an input of its own graph, otherwise 43"
unfoldable pub lacks_input : Context → (inputs : List Bytes) → Bytes → Bool
lacks_input c inputs x = at_ir3 c && not (member x inputs)

-- "In the main graph it may bear the name of an input, ..". "In a nested graph it may not (IR 4 and later)." At IR 3 "a nested graph may
-- give its own input a default once".
unfoldable pub takes_defaults : Context → Bool
takes_defaults c = c.main || at_ir3 c

-- ".. the name of an input, once: that is a default, and adds no name."
unfoldable pub is_default : Context → (inputs earlier : List Bytes) → Bytes → Bool
is_default c inputs earlier x = takes_defaults c && member x inputs && not (member x earlier)

unfoldable pub default_or_new : (full : ℕ → Bool) → Context → (inputs earlier : List Bytes) → Walk → Name → Judged Walk
default_or_new full c inputs earlier w x = elim (is_default c inputs earlier x.bytes) [ true ↦ pass w | false ↦ define full w x ]

-- "Input: 22, 21, 23, 40; in the main graph then its type."
unfoldable pub input : (model : Bytes) → (full : ℕ → Bool) → Context → Walk → Field → Judged Walk
input model full c w f = do
  let m = message model f
  let x = name_of model ValueInfo-name m
  t ← naming 22 w x
  v ← define full t x
  in_main c (declared_type model m) v

-- "Initializer: 22, 21, 23, 40, 26."; "43 (after 21, before 23)"
unfoldable pub initializer : (model : Bytes) → (full : ℕ → Bool) → Context → (inputs : List Bytes) → Along → Field → Judged Along
initializer model full c inputs w f = do
  let m = message model f
  let x = name_of model Tensor-name m
  t ← naming 22 w.walk x
  refuse 43 at: x.place when: lacks_input c inputs x.bytes
  v ← default_or_new full c inputs w.earlier t x
  refuse 26 at: place_of Tensor-data_type m when: not (is_element (number_of Tensor-data_type m))
  pass (record { walk = v; earlier = x.bytes ∷ w.earlier })

-- "Graph output: 22, 21, 35; in the main graph then its type. An outer name serves. The same output may be listed twice."
unfoldable pub output : (model : Bytes) → Context → Walk → Field → Judged Walk
output model c w f = do
  let m = message model f
  let x = name_of model ValueInfo-name m
  v ← naming 22 w x
  refuse 35 at: x.place when: not (visible x.bytes v.scope)
  in_main c (declared_type model m) v

-- "Of each graph: its name (20, 21); 16; inputs; initializers; nodes; outputs, each in list order whatever the field order on
-- the wire." `nested` judges a graph inside this one.
unfoldable pub graph_with : (model : Bytes) → (full : ℕ → Bool) → Context → (nested : GraphJudge) → GraphJudge
graph_with model full c nested w f = do
  let g = message model f
  t ← naming 20 w (name_of model Graph-name g)
  refuse 16 at: place_of Graph-sparse_initializer g when: present (first_of Graph-sparse_initializer g)
  v ← each (input model full c) t (all_of Graph-input g)
  i ← each (initializer model full c (inputs_of model g)) (along v) (all_of Graph-initializer g)
  n ← each (node model full c nested) (along i.walk) (all_of Graph-node g)
  each (output model c) n.walk (all_of Graph-output g)

-- "A graph judges nodes, a node judges attributes, and an attribute judges graphs, to depth 8": `left` depths are left for this
-- graph and those inside it.
unfoldable pub graph : (model : Bytes) → (full : ℕ → Bool) → (left : ℕ) → Context → GraphJudge
graph model full zero c w f = refused 6 f.place
graph model full (suc left) c w f = graph_with model full c (λ v g. graph model full left (nested_in c) v g) w f

-- This file and what it is built on, for whoever computes with it.
unfoldable pub Graph-computes : Unit {0}
unfolding Types-computes Node-computes input at_ir3 lacks_input takes_defaults is_default default_or_new initializer output graph_with graph
Graph-computes = tt
