-- What graph, node and attribute count: no more odd names than names, and how many names each has.
use Prim.Native.Nat.{ℕ, zero, suc, ◌+◌, ◌≤◌}
use native.Mathlib.Omega.{arith}
use mathlib.Core.Path.{◌≡◌, refl}
use mathlib.Core.Bool.{Bool, false}
use mathlib.Core.List.{List, [], ◌∷◌, ◌++◌, map, flat_map}
use lib.ListN.{length, length-append}
use Rattle.varint.specs.Outcome.{pass, fail, each, Judged}
use Rattle.varint.specs.Bytes.{Bytes}
use Rattle.wire.specs.declared.Field.{Field}
use Rattle.wire.specs.Message.{all_of, text, bytes_of, message}
use Rattle.varint.proofs.Tells.{Tells, Any, tells_bind, tells_weaken}
use Rattle.schema.specs.Numbers.{Graph-node, Graph-name, Graph-initializer, Graph-input, Graph-output, Node-input, Node-output, Node-attribute}
use Rattle.schema.specs.Numbers.{Attribute-name, Tensor-name}
use Rattle.rules.specs.Names.{bodies_of}
use Rattle.rules.specs.Walk.{Walk, GraphJudge, leaving}
use Rattle.rules.specs.Node.{body}
use Rattle.rules.specs.Graph.{output}
use Rattle.rules.specs.Count.{value_names, attribute_names, node_names, graph_names, names_in}
use Rattle.rules.proofs.Rules.{Adds}
use Rattle.rules.proofs.NamesFew.{odds_few}
use Rattle.messages.specs.Heads.{attribute_rules}
use Rattle.messages.specs.Around.{inside, context}
use Rattle.messages.specs.Again.{field_names, tensor_names, opening_names, node_rules, opening, closing, attribute_again, node_again, graph_from, graph_again}
use Rattle.messages.specs.declared.contexts.Surroundings.{Surroundings}
use Rattle.scope.proofs.StepLaws.{grew_few}
use Rattle.parts.proofs.OpeningLaws.{opening_grew}
use Rattle.nodes.proofs.NodeCounts.{attribute_adds, rules_odd}
use Rattle.nodes.proofs.OutputLaws.{outputs_odd}
use Rattle.nodes.proofs.ClosingLaws.{closing_odd}

-- ---- how many names there are

mapped : (g : Field → Bytes) (l : List Field) → length (map g l) ≡ length (flat_map (λ f. g f ∷ []) l)
unfolding flat_map
mapped g [] = refl
mapped g (f ∷ l) = let e = mapped g l in omega arith

module _ (model : Bytes) (inner : Field → List Bytes) (f : Field) where
  pub attribute_names_lem : length (attribute_names model inner f) ≡ 1 + length (flat_map inner (bodies_of (message model f)))
  unfolding attribute_names
  attribute_names_lem = omega arith

  pub node_names_lem : length (node_names model inner f)
      ≡ 2 + length (flat_map (field_names model) (all_of Node-input (message model f)))
      + length (flat_map (attribute_names model inner) (all_of Node-attribute (message model f)))
      + length (flat_map (field_names model) (all_of Node-output (message model f)))
  unfolding node_names field_names
  node_names_lem =
      let m = message model f in
      let ins : List Bytes = map (text model) (all_of Node-input m) in
      let inside : List Bytes = flat_map (attribute_names model inner) (all_of Node-attribute m) in
      let outs : List Bytes = map (text model) (all_of Node-output m) in
      let a = length-append (ins ++ inside) outs in
      let b = length-append ins inside in
      let c = mapped (text model) (all_of Node-input m) in
      let d = mapped (text model) (all_of Node-output m) in
      omega arith

  pub graph_names_lem : (main : Bool) → length (graph_names model inner main f)
      ≡ length (opening_names model main f)
      + length (flat_map (node_names model inner) (all_of Graph-node (message model f)))
      + length (flat_map (value_names model main) (all_of Graph-output (message model f)))
  unfolding graph_names opening_names tensor_names
  graph_names_lem main =
      let g = message model f in
      let name = bytes_of model Graph-name g in
      let ins : List Bytes = flat_map (value_names model main) (all_of Graph-input g) in
      let tensor : Field → Bytes = λ t. bytes_of model Tensor-name (message model t) in
      let values : List Bytes = map tensor (all_of Graph-initializer g) in
      let inside : List Bytes = flat_map (node_names model inner) (all_of Graph-node g) in
      let outs : List Bytes = flat_map (value_names model main) (all_of Graph-output g) in
      let a = length-append (ins ++ values ++ inside) outs in
      let b = length-append (ins ++ values) inside in
      let c = length-append ins values in
      let d = length-append ins (flat_map (λ t. tensor t ∷ []) (all_of Graph-initializer g)) in
      let e = mapped tensor (all_of Graph-initializer g) in
      omega arith

-- ---- no more are counted

abbrev pub AtMost : Walk → ℕ → Judged Walk → Type 0
AtMost w n o = Tells (λ v. v.odd ≤ w.odd + n) Any o

passing : (w : Walk) (n : ℕ) (o : Judged Walk) → ((v : Walk) → o ≡ pass v → v.odd ≤ w.odd + n) → AtMost w n o
passing w n (pass v) h = h v refl
passing w n (fail r) h = tt

pub each_most : (names : Field → List Bytes) (step : Walk → Field → Judged Walk) → ((w : Walk) (f : Field) → AtMost w (length (names f)) (step w f))
    → (l : List Field) (w : Walk) → AtMost w (length (flat_map names l)) (each step w l)
unfolding each flat_map
each_most names step one [] w = omega arith
each_most names step one (f ∷ l) w =
    let R : Walk → Type 0 = λ v. v.odd ≤ w.odd + length (names f ++ flat_map names l) in
    let n = length-append (names f) (flat_map names l) in
    tells_bind (λ v. v.odd ≤ w.odd + length (names f)) R Any (step w f) _ (one w f) (λ t h.
    tells_weaken (λ v. v.odd ≤ t.odd + length (flat_map names l)) R Any Any (each step t l) (λ v i. omega arith) (λ r _. tt) (each_most names step one l t))

module _ (model : Bytes) (full : ℕ → Bool) where
  -- ---- one level: `nested` judges the graphs further in, whose names `inner` lists

  module _ (nested : GraphJudge) (inner : Field → List Bytes) (nest : (w : Walk) (f : Field) → AtMost w (length (inner f)) (nested w f)) where
    pub body_most : (w : Walk) (f : Field) → AtMost w (length (inner f)) (body nested w f)
    unfolding body leaving
    body_most w f = tells_bind (λ v. v.odd ≤ w.odd + length (inner f)) (λ v. v.odd ≤ w.odd + length (inner f)) Any (nested w f) _ (nest w f) (λ v h. h)

    pub attribute_most : (s : Surroundings) (node : Field) (w : Walk) (f : Field)
        → AtMost w (length (attribute_names model inner f)) (attribute_again model full nested s node w f)
    unfolding attribute_again
    attribute_most s node w f =
        let R : Walk → Type 0 = λ v. v.odd ≤ w.odd + length (attribute_names model inner f) in
        let bodies = bodies_of (message model f) in
        let n = attribute_names_lem model inner f in
        let few = odds_few (bytes_of model Attribute-name (message model f) ∷ []) in
        tells_bind (Adds w _) R Any (attribute_rules model s node w f) _ (attribute_adds model s node w f) (λ t h.
        tells_weaken (λ v. v.odd ≤ t.odd + length (flat_map inner bodies)) R Any Any (each (body nested) t bodies) (λ v i. omega arith) (λ r _. tt)
        (each_most inner (body nested) body_most bodies t))

    pub node_most : (s : Surroundings) (graph : Field) (w : Walk) (f : Field)
        → AtMost w (length (node_names model inner f)) (node_again model full nested s graph w f)
    unfolding node_again
    node_most s graph w f =
        let m = message model f in
        let R : Walk → Type 0 = λ v. v.odd ≤ w.odd + length (node_names model inner f) in
        let n = node_names_lem model inner f in
        tells_bind (λ v. v.odd ≤ w.odd + (2 + length (flat_map (field_names model) (all_of Node-input m)))) R Any (node_rules model s graph w f) _
        (rules_odd model s graph w f) (λ t h.
        tells_bind (λ v. v.odd ≤ t.odd + length (flat_map (attribute_names model inner) (all_of Node-attribute m))) R Any
        (each (attribute_again model full nested s f) t (all_of Node-attribute m)) _
        (each_most (attribute_names model inner) (attribute_again model full nested s f) (attribute_most s f) (all_of Node-attribute m) t) (λ u i.
        tells_weaken (λ v. v.odd ≤ u.odd + length (flat_map (field_names model) (all_of Node-output m))) R Any Any (closing model full u f)
        (λ v j. omega arith) (λ r _. tt) (passing u _ (closing model full u f) (λ v e. closing_odd model full u f v e))))

    graph_most : (s : Surroundings) (w : Walk) (f : Field) → AtMost w (length (graph_names model inner s.main f)) (graph_from model full nested s w f)
    unfolding graph_from context
    graph_most s w f =
        let g = message model f in
        let R : Walk → Type 0 = λ v. v.odd ≤ w.odd + length (graph_names model inner s.main f) in
        let n = graph_names_lem model inner f s.main in
        tells_bind (λ v. v.odd ≤ w.odd + length (opening_names model s.main f)) R Any (opening model full s w f) _
        (grew_few w 0 (opening_names model s.main f) (opening model full s w f) (opening_grew model full s w f)) (λ t h.
        tells_bind (λ v. v.odd ≤ t.odd + length (flat_map (node_names model inner) (all_of Graph-node g))) R Any
        (each (node_again model full nested s f) t (all_of Graph-node g)) _
        (each_most (node_names model inner) (node_again model full nested s f) (node_most s f) (all_of Graph-node g) t) (λ u i.
        tells_weaken (λ v. v.odd ≤ u.odd + length (flat_map (value_names model s.main) (all_of Graph-output g))) R Any Any
        (each (output model (context model s)) u (all_of Graph-output g)) (λ v j. omega arith) (λ r _. tt)
        (outputs_odd model (context model s) (all_of Graph-output g) u)))

  pub again_most : (left : ℕ) (s : Surroundings) (w : Walk) (f : Field) → AtMost w (length (names_in model left s.main f)) (graph_again model full left s w f)
  unfolding graph_again names_in inside
  again_most zero s w f = tt
  again_most (suc left) s w f =
      graph_most (λ v g. graph_again model full left (inside s) v g) (λ b. names_in model left false b) (λ v g. again_most left (inside s) v g) s w f
