-- The depth of the second walk: the first walk lets no graph stand at depth 9, so depths beyond 8 change nothing.
use Prim.Native.Nat.{ℕ, zero, suc, ◌+◌, ◌-◌, ◌≤◌}
use native.Mathlib.Omega.{arith}
use mathlib.Core.Path.{◌≡◌, refl, sym, ap, ap₂, ◌∙◌}
use mathlib.Core.Bool.{Bool, ◌||◌}
use mathlib.Core.List.{List, []}
use mathlib.Core.Option.{Option, none, some}
use native.Mathlib.Nat.{add-suc}
use lib.Dec.{T, eqb, eqb→eq}
use Rattle.varint.specs.Outcome.{Outcome, pass, ◌>>=◌, each, Judged}
use Rattle.wire.specs.declared.Field.{Field}
use Rattle.varint.specs.Lists.{keep}
use Rattle.varint.specs.Bytes.{Bytes}
use Rattle.wire.specs.Message.{Message, all_of, first_of, number_of, message, whole}
use Rattle.varint.proofs.Lists.{All, If, all_map, all_first, all_kept}
use Rattle.varint.proofs.Tells.{each_agree}
use Rattle.schema.specs.declared.Kind.{Kind}
use Rattle.schema.specs.declared.Kind.TheVariants.{Model, Function, Graph, Node, Attribute}
use Rattle.schema.specs.Rows.{row_of, has_nodes, Rows-computes}
use Rattle.schema.specs.Numbers.{Model-ir_version, Model-graph, Model-functions, Function-node, Graph-node, Node-attribute, Attribute-g, Attribute-graphs}
use Rattle.schema.specs.FirstWalk.{kind_of, deeper, walked, first_walk}
use Rattle.schema.proofs.Opened.{Sound, Opens, walked_opens, model_graph, model_functions, function_node, graph_node, node_attribute, attribute_body}
use Rattle.rules.specs.Names.{bodies_of}
use Rattle.rules.specs.Walk.{Context, nested_in, Walk, start, afresh, Along}
use Rattle.rules.specs.Node.{body, attribute, node}
use Rattle.rules.specs.Graph.{graph_with, graph}
use Rattle.rules.specs.Function.{Functions, functions, function_head, function_body, function}
use Rattle.rules.specs.Header.{in_model, header, second_walk_to, second_walk}
use Rattle.rules.proofs.MainGraph.{main_graph}

bind_same : {E A B : Type 0} (o : Outcome E A) (f g : A → Outcome E B) → ((a : A) → f a ≡ g a) → (o >>= f) ≡ (o >>= g)
bind_same o f g h = ap (λ k. o >>= k) (λ i a. h a i)

then_same : {E A B : Type 0} (o p : Outcome E A) (f : A → Outcome E B) → o ≡ p → (o >>= f) ≡ (p >>= f)
then_same o p f e = ap (λ (u : Outcome _ _). u >>= f) e

module _ (model : Bytes) where
  -- fields of a walked message that open messages of one kind: those were walked too
  opens_kept : (kind : Kind) (depth : ℕ) (f : Field) (test : Field → Bool) (k : Kind)
      → ((g : Field) → T (test g) → kind_of (row_of kind g.number) ≡ some k) → walked model kind depth [] f.next f.start ≡ pass tt
      → All (λ g. Sound model depth g k) (keep test (message model f).fields)
  unfolding message
  opens_kept kind depth f test k e w =
      all_kept test (Opens model kind depth) (λ g. Sound model depth g k) (λ g o t. opened_as g o (e g t)) (message model f).fields
      (walked_opens model kind depth f.next f.start w)
    where
      opened_as : (g : Field) → Opens model kind depth g → kind_of (row_of kind g.number) ≡ some k → Sound model depth g k
      opened_as g o q = rw q at o.1

  -- the fields with number `n` of a message that was walked
  parts_sound : (kind k : Kind) (n depth : ℕ) (f : Field) → kind_of (row_of kind n) ≡ some k → walked model kind depth [] f.next f.start ≡ pass tt
      → All (λ g. Sound model depth g k) (all_of n (message model f))
  unfolding all_of
  parts_sound kind k n depth f e w = opens_kept kind depth f (λ g. eqb n g.number) k (λ g t. rw (← (eqb→eq n g.number t)) e) w

  attributes_sound : (depth : ℕ) (n : Field) → Sound model depth n Node → All (λ a. Sound model depth a Attribute) (all_of Node-attribute (message model n))
  unfolding Rows-computes deeper
  attributes_sound depth n s = parts_sound Node Attribute Node-attribute depth n node_attribute s.1

  bodies_sound : (depth : ℕ) (a : Field) → Sound model depth a Attribute → All (λ b. Sound model depth b Graph) (bodies_of (message model a))
  unfolding bodies_of Rows-computes deeper
  bodies_sound depth a s =
      opens_kept Attribute depth a (λ g. eqb Attribute-g g.number || eqb Attribute-graphs g.number) Graph (λ g t. attribute_body g.number t) s.1

  -- of each graph that a node holds
  abbrev Inner : (Field → Type 0) → Field → Type 0
  Inner Q n = All (λ a. All Q (bodies_of (message model a))) (all_of Node-attribute (message model n))

  -- the nodes of a graph or of a function, by the number that they have there
  inner_sound : (kind : Kind) (number depth : ℕ) (f : Field) → kind_of (row_of kind number) ≡ some Node
      → walked model kind depth [] f.next f.start ≡ pass tt
      → All (Inner (λ b. Sound model depth b Graph)) (all_of number (message model f))
  inner_sound kind number depth f e w =
      all_map (λ n. Sound model depth n Node) _ (λ n s.
      all_map (λ a. Sound model depth a Attribute) _ (λ a s. bodies_sound depth a s)
      (all_of Node-attribute (message model n)) (attributes_sound depth n s)) (all_of number (message model f)) (parts_sound kind Node number depth f e w)

  -- ---- two judges of graphs further in that agree

  module _ (full : ℕ → Bool) (c : Context) (J K : Walk → Field → Judged Walk) (Q : Field → Type 0) (agree : (w : Walk) (b : Field) → Q b → J w b ≡ K w b) where
    body_agrees : (w : Walk) (b : Field) → Q b → body J w b ≡ body K w b
    unfolding body
    body_agrees w b q = then_same _ _ _ (agree w b q)

    attribute_agrees : (w : Along) (a : Field) → All Q (bodies_of (message model a)) → attribute model c J w a ≡ attribute model c K w a
    unfolding attribute
    attribute_agrees w a q = simp (each_agree Q (body J) (body K) body_agrees (bodies_of (message model a)) q) refl

    node_agrees : (w : Along) (n : Field) → Inner Q n → node model full c J w n ≡ node model full c K w n
    unfolding node
    node_agrees w n q =
        simp (each_agree (λ a. All Q (bodies_of (message model a))) (attribute model c J) (attribute model c K) attribute_agrees
        (all_of Node-attribute (message model n)) q) refl

    nodes_agree : (ns : List Field) → All (Inner Q) ns → (w : Along) → each (node model full c J) w ns ≡ each (node model full c K) w ns
    nodes_agree = each_agree (Inner Q) (node model full c J) (node model full c K) node_agrees

    graph_agrees : (w : Walk) (f : Field) → All (Inner Q) (all_of Graph-node (message model f)) → graph_with model full c J w f ≡ graph_with model full c K w f
    unfolding graph_with
    graph_agrees w f q = simp (nodes_agree (all_of Graph-node (message model f)) q) refl

    function_body_agrees : (list : Bytes) (w : Walk) (m : Message) → All (Inner Q) (all_of Function-node m)
        → function_body model full c J w m ≡ function_body model full c K w m
    unfolding function_body
    function_body_agrees list w m q = simp (nodes_agree (all_of Function-node m) q) refl

  -- ---- the depths left

  depths_agree : (full : ℕ → Bool) (left more depth : ℕ) → depth + left ≡ 8 → (c : Context) (w : Walk) (f : Field)
      → walked model Graph depth [] f.next f.start ≡ pass tt
      → graph model full (suc left) c w f ≡ graph model full (suc (more + left)) c w f
  unfolding graph has_nodes deeper
  depths_agree full zero more depth e c w f s =
      graph_agrees full c (graph model full zero (nested_in c)) (graph model full (more + zero) (nested_in c)) (λ b. Sound model depth b Graph)
      (λ v b t. absurd (too_deep b t)) w f (inner_sound Graph Graph-node depth f graph_node s)
    where
      too_deep : (b : Field) → Sound model depth b Graph → ⊥
      too_deep b t = let q : depth ≡ 8 = omega arith in rw q at t.0
  depths_agree full (suc left) more depth e c w f s =
      graph_agrees full c (graph model full (suc left) (nested_in c)) (graph model full (more + suc left) (nested_in c)) (λ b. Sound model depth b Graph)
      (λ v b t. rw add-suc (depths_agree full left more (depth + 1) (omega arith) (nested_in c) v b t.1)) w f (inner_sound Graph Graph-node depth f graph_node s)

  -- a function stands at depth 1, as the main graph does: seven are left for the graphs inside
  function_agrees : (list : Bytes) (full : ℕ → Bool) (more v : ℕ) (w : Functions) (f : Field) → Sound model 0 f Function
      → function model list full 7 v w f ≡ function model list full (suc (more + 6)) v w f
  unfolding function has_nodes deeper
  function_agrees list full more v w f s =
      let m = message model f in
      bind_same (function_head model list v w.earlier (afresh w.walk) m) _ _ (λ h.
      then_same _ _ _
      (function_body_agrees full h.around (graph model full 7 (nested_in h.around)) (graph model full (suc (more + 6)) (nested_in h.around))
      (λ b. Sound model 1 b Graph) (λ u b t. depths_agree full 6 more 2 refl (nested_in h.around) u b t.1) list h.walk m
      (inner_sound Function Function-node 1 f function_node s.1)))

  opened_sound : (n : ℕ) (k : Kind) → kind_of (row_of Model n) ≡ some k → first_walk model ≡ pass tt
      → All (λ g. Sound model 0 g k) (all_of n (message model (whole model)))
  unfolding first_walk whole
  opened_sound n k e w = parts_sound Model k n 0 (whole model) e w

  main_sound : first_walk model ≡ pass tt → If (λ g. Sound model 0 g Graph) (first_of Model-graph (message model (whole model)))
  unfolding first_of
  main_sound w = all_first (λ g. Sound model 0 g Graph) (all_of Model-graph (message model (whole model))) (opened_sound Model-graph Graph model_graph w)

  functions_sound : first_walk model ≡ pass tt → All (λ f. Sound model 0 f Function) (all_of Model-functions (message model (whole model)))
  functions_sound w = opened_sound Model-functions Function model_functions w

  pub second_bound : (list : Bytes) (full : ℕ → Bool) (depth : ℕ) → first_walk model ≡ pass tt → 8 ≤ depth → second_walk_to model list depth full ≡ second_walk model list full
  unfolding second_walk_to second_walk deeper has_nodes
  second_bound list full depth w h =
      let m = message model (whole model) in
      let v = number_of Model-ir_version m in
      let left : depth - 1 ≡ suc (depth - 8 + 6) = omega arith in
      bind_same (header model list m) _ _ (λ imports.
      ap₂ (λ (o : Judged Walk) (k : Walk → Judged Walk). o >>= k) (go (in_model m imports) (first_of Model-graph m) (main_sound w)) (λ i u.
      then_same _ _ (λ f. pass f.walk)
      (each_agree (λ f. Sound model 0 f Function) (function model list full (depth - 1) v) (function model list full 7 v)
      (λ s f q. ap (λ (d : ℕ). function model list full d v s f) left ∙ sym (function_agrees list full (depth - 8) v s f q))
      (all_of Model-functions m) (functions_sound w) (functions u)) i))
    where
      go : (c : Context) (o : Option Field) → If (λ g. Sound model 0 g Graph) o → main_graph model full depth c o ≡ main_graph model full 8 c o
      go c none s = refl
      go c (some g) s =
          let e : depth ≡ suc (depth - 8 + 7) = omega arith in
          ap (λ (d : ℕ). graph model full d c start g) e ∙ sym (depths_agree full 7 (depth - 8) 1 refl c start g s.1)
