-- A graph as the code walks it is the graph of document 01.
use Prim.Native.Nat.{ℕ, zero, suc}
use mathlib.Core.Path.{◌≡◌, refl, sym, ap, subst, ◌∙◌}
use mathlib.Core.Bool.{Bool}
use mathlib.Core.List.{List}
use Rattle.varint.specs.Outcome.{◌>>=◌, ◌>>◌, each, Judged, refuse◌at:◌when:◌}
use Rattle.wire.specs.declared.Field.{Field}
use Rattle.varint.specs.Lists.{present}
use Rattle.varint.specs.Bytes.{Bytes}
use Rattle.wire.specs.Message.{all_of, first_of, place_of, message}
use Rattle.schema.specs.Numbers.{Graph-node, Graph-name, Graph-initializer, Graph-input, Graph-output, Graph-sparse_initializer}
use Rattle.schema.specs.Numbers.{Tensor-name}
use Rattle.rules.specs.Names.{name_of, inputs_of}
use Rattle.rules.specs.Walk.{Context, nested_in, in_main, Walk, GraphJudge, along, naming}
use Rattle.rules.specs.Node.{node}
use Rattle.rules.specs.Graph.{input, initializer, output, graph_with, graph}
use Rattle.rules.proofs.Matching.{bind_assoc}
use Rattle.messages.specs.Around.{inside, context}
use Rattle.messages.specs.Again.{graph_rules, initializer_again, opening, node_again, graph_from, graph_again}
use Rattle.messages.specs.declared.contexts.Surroundings.{Surroundings}
use Rattle.second_walk.proofs.ListAgain.{follows_same, each_follows, agree_none}
use Rattle.second_walk.proofs.AgainLaws.{Known, kept, Answers, answers_inside, initializer_again_lem, one, nodes_again_lem}

module _ (model : Bytes) (full : ℕ → Bool) (s : Surroundings) (nodes : s.nodes ≡ Graph-node) {imports attributes : List Bytes}
    (answers : Answers model s imports attributes) (nested : GraphJudge) (f : Field) where
  abbrev Around : Context
  Around = kept s imports attributes

  abbrev Outputs : Walk → Judged Walk
  Outputs n = each (output model Around) n (all_of Graph-output (message model f))

  abbrev Nodes : Walk → Judged Walk
  Nodes v = each (node_again model full nested s f) v (all_of Graph-node (message model f)) >>= Outputs

  -- the graph's name and rule 16, and then the inputs
  named : (w : Walk) → (Walk → Judged Walk) → Judged Walk
  named w k =
      naming 20 w (name_of model Graph-name (message model f))
      >>= λ t. refuse 16 at: place_of Graph-sparse_initializer (message model f) when: present (first_of Graph-sparse_initializer (message model f))
      >> (each (input model full Around) t (all_of Graph-input (message model f)) >>= k)

  opening_then : (w : Walk) (k : Walk → Judged Walk) → (opening model full s w f >>= k)
      ≡ named w (λ v. each (initializer_again model full s f) v (all_of Graph-initializer (message model f)) >>= k)
  unfolding opening graph_rules input in_main context named
  opening_then w k =
      bind_assoc (graph_rules model w f) _ k
      ∙ bind_assoc (naming 20 w (name_of model Graph-name (message model f))) _ _
      ∙ ap (λ (h : Walk → Judged Walk). naming 20 w (name_of model Graph-name (message model f)) >>= h)
      (λ i t. (one
      (refuse 16 at: place_of Graph-sparse_initializer (message model f) when: present (first_of Graph-sparse_initializer (message model f))) t
      (λ v. each (input model full Around) v (all_of Graph-input (message model f))
      >>= (λ u. each (initializer_again model full s f) u (all_of Graph-initializer (message model f))) >>= k)
      ∙ ap (λ (o : Judged Walk). refuse 16 at: place_of Graph-sparse_initializer (message model f)
      when: present (first_of Graph-sparse_initializer (message model f)) >> o)
      (bind_assoc (each (input model full Around) t (all_of Graph-input (message model f))) _ k)) i)

  graph_nodes : (v : Walk) → (each (node model full Around nested) (along v) (all_of Graph-node (message model f)) >>= λ n. Outputs n.walk) ≡ Nodes v
  graph_nodes v =
      subst (λ (x : ℕ). (each (node model full Around nested) (along v) (all_of x (message model f)) >>= λ n. Outputs n.walk)
      ≡ (each (node_again model full nested s f) v (all_of x (message model f)) >>= Outputs)) nodes (nodes_again_lem model full s answers nested f v Outputs)

  initializers_again : (v : Walk)
      → (each (initializer model full Around (inputs_of model (message model f))) (along v) (all_of Graph-initializer (message model f))
      >>= λ i. Nodes i.walk) ≡ (each (initializer_again model full s f) v (all_of Graph-initializer (message model f)) >>= Nodes)
  unfolding along
  initializers_again v =
      follows_same (each_follows (Known model Tensor-name) (initializer model full Around (inputs_of model (message model f)))
      (initializer_again model full s f) _ (initializer_again_lem model full s imports attributes f) (along v) (agree_none model Tensor-name)) Nodes

  with_again : (w : Walk) → graph_with model full Around nested w f ≡ graph_from model full nested s w f
  unfolding graph_with graph_from output in_main context named
  with_again w =
      ap (λ (k : Walk → Judged Walk).
      named w (λ v. each (initializer model full Around (inputs_of model (message model f))) (along v) (all_of Graph-initializer (message model f))
      >>= λ i. k i.walk)) (λ i v. graph_nodes v i)
      ∙ ap (named w) (λ i v. initializers_again v i)
      ∙ sym (opening_then w Nodes)

pub graph_again_lem : (model : Bytes) (full : ℕ → Bool) (left : ℕ) (s : Surroundings) → s.nodes ≡ Graph-node → {imports attributes : List Bytes}
    → Answers model s imports attributes → (w : Walk) (f : Field)
    → graph model full left (kept s imports attributes) w f ≡ graph_again model full left s w f
unfolding graph graph_again nested_in inside
graph_again_lem model full zero s nodes answers w f = refl
graph_again_lem model full (suc left) s nodes {imports} {attributes} answers w f =
    ap (λ (nested : GraphJudge). graph_with model full (kept s imports attributes) nested w f)
    (λ i v g. graph_again_lem model full left (inside s) refl (answers_inside answers) v g i)
    ∙ with_again model full s nodes answers (λ v g. graph_again model full left (inside s) v g) f w
