-- The judge and the run that enters every body once go in step, graph by graph.
use Prim.Native.Nat.{ℕ, zero, suc, ◌+◌}
use mathlib.Core.Path.{◌≡◌, refl, sym, ap, subst}
use mathlib.Core.Bool.{Bool, true, false, not, ◌||◌, true≢false}
use mathlib.Core.List.{List, [], ◌∷◌}
use native.Mathlib.Nat.{add-suc}
use lib.Dec.{eqb}
use Rattle.varint.specs.Outcome.{pass, ◌>>=◌, ◌>>◌, each, Judged, Rule, refuse◌at:◌when:◌}
use Rattle.wire.specs.declared.Field.{Field}
use Rattle.varint.specs.Lists.{is_empty, keep}
use Rattle.varint.specs.Bytes.{Bytes, same, member}
use Rattle.wire.specs.Message.{Message, all_of, number_of, place_of, text, message, whole}
use Rattle.schema.specs.Numbers.{Model-ir_version, Graph-name, Graph-node, Graph-initializer, Graph-input, Graph-output, Node-input, Node-output}
use Rattle.schema.specs.Numbers.{Node-op_type, Node-attribute, Attribute-name, Tensor-name, Tensor-data_type, ValueInfo-name}
use Rattle.rules.specs.Names.{Name, name_of, name_in, bodies_of, inputs_of, bodies_in}
use Rattle.rules.specs.Walk.{Context, nested_in, Walk, with_node, with_tested, leaving, Along, along, visible, naming, define}
use Rattle.rules.specs.Types.{is_element}
use Rattle.rules.specs.Node.{node_input, node_output, body, attribute, node}
use Rattle.rules.specs.Graph.{input, at_ir3, takes_defaults, is_default, default_or_new, initializer, output, graph_with, graph}
use Rattle.rules.specs.Runner.{binds, reads, visits, unless_empty, initializers, node_script, waiting_in, script, Run, Ran}
use Rattle.rules.specs.Runner.{bind, read, unchosen, choose, forget, perform, run_graph}
use Rattle.rules.proofs.Matching.{Matches, quiet_rule, bind_matches, after_matches, then_matches, quiet_then, quiet_seq, each_matches}
use Rattle.rules.proofs.Matching.{bind_assoc, bind_pass, each_append, each_map, each_flat}
use Rattle.rules.proofs.Visits.{visit_once}
use Rattle.rules.proofs.Defaults.{Agree, agree_first, agree_default, agree_new}
use Rattle.rules.proofs.InStep.{InStep, InStepAlong, in_step_adds, define_matches, read_matches, tested_matches, naming_matches}
use Rattle.rules.proofs.InStep.{type_matches, node_name_matches}

-- the IR version that the judge was told is the one that the runner finds
abbrev pub Versioned : Bytes → Context → Type 0
Versioned model c = c.ir_version ≡ number_of Model-ir_version (message model (whole model))

-- ---- one level: `J` judges and `K` runs the graphs further in

module _ (model : Bytes) (full : ℕ → Bool) (c : Context) (version : Versioned model c) (J : Walk → Field → Judged Walk) (K : Run → Field → Ran)
    (nest : (w : Walk) (r : Run) (f : Field) → InStep w r → Matches InStep (J w f) (K r f)) where
  input_matches : (w : Walk) (r : Run) (f : Field) → InStep w r → Matches InStep (input model full c w f) (perform K r (binds (name_of model ValueInfo-name (message model f))))
  unfolding input perform with_tested
  input_matches w r f h =
      let x = name_of model ValueInfo-name (message model f) in
      naming_matches InStep w x _ _ 22 (λ p. refl)
      (after_matches InStep InStep (define full (with_tested w x) x) (bind r x) _ (define_matches full (with_tested w x) x r h)
      (λ v s k. type_matches model c (message model f) v s k))

  node_input_lem : (w : Walk) (r : Run) (f : Field) → InStep w r → Matches InStep (node_input model w f) (each (perform K) r (unless_empty reads (name_in model f)))
  unfolding node_input unless_empty name_in is_empty perform each with_tested
  node_input_lem w r f h = go (text model f) refl
    where
      go : (t : Bytes) → text model f ≡ t → Matches InStep (node_input model w f) (each (perform K) r (unless_empty reads (name_in model f)))
      go [] e = rw (e, node_input, unless_empty) (r, refl, h)
      go (b ∷ t) e = rw (e, node_input, unless_empty, bind_pass)
          (tested_matches InStep w (name_in model f) _ _
          (then_matches (InStep (with_tested w (name_in model f))) InStep (refuse 30 at: f.place when: not (visible (text model f) w.scope))
          (pass (with_tested w (name_in model f))) (read r (name_in model f))
          (read_matches 30 (with_tested w (name_in model f)) (name_in model f) r (λ p. refl) h) (λ s k. (s, refl, k))))

  node_output_lem : (w : Walk) (r : Run) (f : Field) → InStep w r → Matches InStep (node_output model full w f) (each (perform K) r (unless_empty binds (name_in model f)))
  unfolding node_output unless_empty name_in is_empty perform each with_tested
  node_output_lem w r f h = go (text model f) refl
    where
      go : (t : Bytes) → text model f ≡ t → Matches InStep (node_output model full w f) (each (perform K) r (unless_empty binds (name_in model f)))
      go [] e = rw (e, node_output, unless_empty) (r, refl, h)
      go (b ∷ t) e = rw (e, node_output, unless_empty, bind_pass)
          (tested_matches InStep w (name_in model f) _ _ (define_matches full (with_tested w (name_in model f)) (name_in model f) r h))

  output_matches : (w : Walk) (r : Run) (f : Field) → InStep w r
      → Matches InStep (output model c w f) (perform K r (reads (name_of model ValueInfo-name (message model f))))
  unfolding output perform with_tested
  output_matches w r f h =
      let x = name_of model ValueInfo-name (message model f) in
      naming_matches InStep w x _ _ 22 (λ p. refl)
      (then_matches (InStep (with_tested w x)) InStep (refuse 35 at: x.place when: not (visible x.bytes w.scope)) _ (read r x)
      (read_matches 35 (with_tested w x) x r (λ p. refl) h) (λ s k. type_matches model c (message model f) (with_tested w x) s k))

  -- names of a body are forgotten as they vanish
  body_matches : (w : Walk) (r : Run) (f : Field) → InStep w r → Matches InStep (body J w f) (perform K r (visits f))
  unfolding body forget leaving choose unchosen
  body_matches w r f h =
      rw (visit_once K r f h.1)
      (bind_matches InStep InStep (J w f) (K (choose r) f) _ _ (nest w (choose r) f (h.0, ap unchosen h.1, h.2)) (λ v s k. (_, refl, (h.0, k.1, k.2))))

  attribute_matches : (w : Along) (r : Run) (f : Field) → InStepAlong w r
      → Matches InStepAlong (attribute model c J w f) (each (λ s b. perform K s (visits b)) r (bodies_of (message model f)))
  unfolding attribute with_tested
  attribute_matches w r f h =
      let t = with_tested w.walk (name_of model Attribute-name (message model f)) in
      naming_matches InStepAlong w.walk (name_of model Attribute-name (message model f)) _ _ 22 (λ p. refl)
      (quiet_then InStepAlong (refuse 31 at: _ when: _) _ _ (quiet_rule 31 _ _ refl)
      (quiet_then InStepAlong (refuse 33 at: _ when: _) _ _ (quiet_rule 33 _ _ refl)
      (quiet_then InStepAlong (refuse 32 at: _ when: _) _ _ (quiet_rule 32 _ _ refl)
      (after_matches InStep InStepAlong (each (body J) t (bodies_of (message model f))) _ _
      (each_matches InStep (body J) (λ s b. perform K s (visits b)) (λ v s b k. body_matches v s b k) (bodies_of (message model f)) t r h)
      (λ v s k. (s, refl, k))))))

  node_script_lem : (r : Run) (f : Field) → each (perform K) r (node_script model f) ≡ (
      each (λ s i. each (perform K) s (unless_empty reads (name_in model i))) r (all_of Node-input (message model f)) >>= λ s.
      each (λ s a. each (λ s b. perform K s (visits b)) s (bodies_of (message model a))) s (all_of Node-attribute (message model f)) >>= λ t.
      each (λ s o. each (perform K) s (unless_empty binds (name_in model o))) t (all_of Node-output (message model f)))
  unfolding node_script bodies_in
  node_script_lem r f = simp (each_append, each_map, each_flat, bind_assoc)

  node_matches : (w : Along) (r : Run) (f : Field) → InStepAlong w r → Matches InStepAlong (node model full c J w f) (each (perform K) r (node_script model f))
  unfolding node with_node with_tested along
  node_matches w r f h = rw node_script_lem
      (let m = message model f in
      let t = with_tested w.walk (name_of model Node-op_type m) in
      naming_matches InStepAlong w.walk (name_of model Node-op_type m) _ _ 27 (λ p. refl)
      (quiet_then InStepAlong (refuse 28 at: _ when: _) _ _ (quiet_rule 28 _ _ refl)
      (node_name_matches model InStepAlong w.earlier t m _ _ (λ n a.
      bind_matches InStep InStepAlong (each (node_input model) n.walk (all_of Node-input m)) _ _ _
      (each_matches InStep (node_input model) (λ s i. each (perform K) s (unless_empty reads (name_in model i)))
      (λ v s i k. node_input_lem v s i k) (all_of Node-input m) n.walk r (in_step_adds t n.walk _ r h a))
      (λ i s k. bind_matches InStepAlong InStepAlong (each (attribute model c J) (along i) (all_of Node-attribute m)) _ _ _
      (each_matches InStepAlong (attribute model c J) (λ s a. each (λ s b. perform K s (visits b)) s (bodies_of (message model a)))
      (λ v s a k. attribute_matches v s a k) (all_of Node-attribute m) (along i) s k)
      (λ v t k. quiet_then InStepAlong (refuse 34 at: _ when: _) _ _ (quiet_rule 34 _ _ refl)
      (after_matches InStep InStepAlong (each (node_output model full) v.walk (all_of Node-output m)) _ _
      (each_matches InStep (node_output model full) (λ s o. each (perform K) s (unless_empty binds (name_in model o))) (λ v s o k. node_output_lem v s o k)
      (all_of Node-output m) v.walk t k)
      (λ v s k. (s, refl, k)))))))))

  -- the nodes of a graph or of a function
  pub nodes_match : (ns : List Field) (w : Along) (r : Run) → InStepAlong w r
      → Matches InStepAlong (each (node model full c J) w ns) (each (λ s n. each (perform K) s (node_script model n)) r ns)
  nodes_match = each_matches InStepAlong (node model full c J) (λ s n. each (perform K) s (node_script model n)) (λ v s n k. node_matches v s n k)

  -- ---- initializers, with their defaults

  module _ (inputs : List Bytes) where
    -- the test of the data type that ends an initializer
    type_test : Field → Rule
    type_test f = refuse 26 at: place_of Tensor-data_type (message model f) when: not (is_element (number_of Tensor-data_type (message model f)))

    last_matches : (v : Along) (f : Field) (k : Along → Judged Along) (o : Ran) → Matches InStepAlong (k v) o → Matches InStepAlong (type_test f >> pass v >>= k) o
    unfolding type_test ◌>>=◌
    last_matches v f k o m = quiet_seq InStepAlong (type_test f) (pass v) k o (quiet_rule 26 _ _ refl) m

    initializers_match : (fs : List Field) (w : Along) (waiting : List Bytes) (r : Run)
        → InStepAlong w r → Agree c inputs w.earlier waiting
        → Matches InStepAlong (each (initializer model full c inputs) w fs) (each (perform K) r (initializers model waiting fs))
    unfolding each initializer initializers type_test default_or_new perform with_tested ◌>>=◌
    initializers_match [] w waiting r h a = (r, refl, h)
    initializers_match (f ∷ more) w waiting r h a =
        rw (bind_assoc (naming 22 w.walk x))
        (naming_matches InStepAlong w.walk x _ _ 22 (λ p. refl)
        (quiet_seq InStepAlong (refuse 43 at: _ when: _) _ _ _ (quiet_rule 43 _ _ refl)
        (go (is_default c inputs w.earlier x.bytes) (member x.bytes waiting) refl (a x.bytes) (λ v waiting s h a. initializers_match more v waiting s h a))))
      where
        x : Name
        x = name_of model Tensor-name (message model f)

        t : Walk
        t = with_tested w.walk x

        with_x : Walk → Along
        with_x v = record { walk = v; earlier = x.bytes ∷ w.earlier }

        go : (b m : Bool) → is_default c inputs w.earlier x.bytes ≡ b → m ≡ b
            → ((v : Along) (waiting : List Bytes) (s : Run) → InStepAlong v s → Agree c inputs v.earlier waiting
            → Matches InStepAlong (each (initializer model full c inputs) v more) (each (perform K) s (initializers model waiting more)))
            → Matches InStepAlong ((elim b as (λ _. Judged Walk) [ true ↦ pass t | false ↦ define full t x ])
            >>= (λ v. type_test f >> pass (with_x v)) >>= λ v. each (initializer model full c inputs) v more)
            (each (perform K) r (elim m [ true ↦ initializers model (keep (λ y. not (same x.bytes y)) waiting) more | false ↦ binds x ∷ initializers model waiting more ]))
        go true true e q ih = last_matches (with_x t) f _ _ (ih (with_x t) _ r h (agree_default c inputs w.earlier waiting x.bytes a))
        go false false e q ih =
            rw (bind_assoc (define full t x))
            (bind_matches InStep InStepAlong (define full t x) (bind r x) _ _ (define_matches full t x r h)
            (λ v s k. last_matches (with_x v) f _ _ (ih (with_x v) waiting s k (agree_new c inputs w.earlier waiting x.bytes e a))))
        go true false e q ih = absurd (true≢false (sym q))
        go false true e q ih = absurd (true≢false q)

  -- ---- the graph

  graph_script : (r : Run) (f : Field) → each (perform K) r (script model c.main f) ≡ (
      each (λ s i. perform K s (binds (name_of model ValueInfo-name (message model i)))) r (all_of Graph-input (message model f)) >>= λ s.
      each (perform K) s (initializers model (waiting_in model c.main (message model f)) (all_of Graph-initializer (message model f))) >>= λ t.
      each (λ s n. each (perform K) s (node_script model n)) t (all_of Graph-node (message model f)) >>= λ u.
      each (λ s o. perform K s (reads (name_of model ValueInfo-name (message model o)))) u (all_of Graph-output (message model f)))
  unfolding script
  graph_script r f = simp (each_append, each_flat, each_map, bind_assoc)

  waiting_agree : (g : Message) → Agree c (inputs_of model g) [] (waiting_in model c.main g)
  unfolding waiting_in takes_defaults at_ir3
  waiting_agree g =
      subst (λ (v : ℕ). Agree c (inputs_of model g) [] (elim (c.main || eqb v 3) [ true ↦ inputs_of model g | false ↦ [] ])) version
      (agree_first c (inputs_of model g))

  graph_matches : (w : Walk) (r : Run) (f : Field) → InStep w r → Matches InStep (graph_with model full c J w f) (each (perform K) r (script model c.main f))
  unfolding graph_with with_tested along
  graph_matches w r f h = rw graph_script
      (let g = message model f in
      let t = with_tested w (name_of model Graph-name g) in
      naming_matches InStep w (name_of model Graph-name g) _ _ 20 (λ p. refl)
      (quiet_then InStep (refuse 16 at: _ when: _) _ _ (quiet_rule 16 _ _ refl)
      (bind_matches InStep InStep (each (input model full c) t (all_of Graph-input g)) _ _ _
      (each_matches InStep (input model full c) (λ s i. perform K s (binds (name_of model ValueInfo-name (message model i))))
      (λ v s i k. input_matches v s i k) (all_of Graph-input g) t r h)
      (λ v s k. bind_matches InStepAlong InStep (each (initializer model full c (inputs_of model g)) (along v) (all_of Graph-initializer g)) _ _ _
      (initializers_match (inputs_of model g) (all_of Graph-initializer g) (along v) _ s k (waiting_agree g))
      (λ i t k. bind_matches InStepAlong InStep (each (node model full c J) (along i.walk) (all_of Graph-node g)) _ _ _
      (nodes_match (all_of Graph-node g) (along i.walk) t k)
      (λ n u k. each_matches InStep (output model c) (λ s o. perform K s (reads (name_of model ValueInfo-name (message model o))))
      (λ v s o k. output_matches v s o k) (all_of Graph-output g) n.walk u k))))))

-- ---- the depths: the runner has as many as the judge, or more

pub depths_match : (model : Bytes) (full : ℕ → Bool) (left more : ℕ) (c : Context) → Versioned model c → (w : Walk) (r : Run) (f : Field)
    → InStep w r
    → Matches InStep (graph model full left c w f) (run_graph model (more + left) c.main r f)
unfolding graph run_graph nested_in
depths_match model full zero more c e w r f h = tt
depths_match model full (suc left) more c e w r f h = rw add-suc
    (graph_matches model full c e (graph model full left (nested_in c)) (run_graph model (more + left) false)
    (λ w r f h. depths_match model full left more (nested_in c) e w r f h) w r f h)
