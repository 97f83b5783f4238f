-- Every refusal has a number of document 01's table, and place 0 or one inside the model; a second number is the place of a visible name.
use Prim.Native.Nat.{ℕ, zero, suc, ◌<◌, zero-le}
use native.Mathlib.Omega.{arith}
use mathlib.Core.Path.{◌≡◌, refl}
use mathlib.Core.Logic.{◌⊎◌, inl, inr}
use mathlib.Core.Bool.{Bool, true, false}
use mathlib.Core.List.{List, [], ◌∷◌}
use lib.ListN.{length}
use lib.Dec.{T}
use Rattle.varint.specs.Outcome.{each, Judged}
use Rattle.varint.specs.declared.Refusal.{Refusal}
use Rattle.wire.specs.declared.Field.{Field}
use Rattle.varint.specs.Lists.{is_empty, contains}
use Rattle.varint.specs.Bytes.{Bytes, same}
use Rattle.wire.specs.Message.{Message, all_of, first_of, number_of, text, message, whole}
use Rattle.varint.proofs.Lists.{All, all_map, subset}
use Rattle.varint.proofs.Tells.{Tells, Any, Among, tells_bind, tells_weaken, tells_seq, tells_if, tells_option, tells_rule, tells_first, tells_each}
use Rattle.wire.proofs.Reading.{Fits}
use Rattle.wire.proofs.Fields.{message_ordered, ordered_all}
use Rattle.schema.specs.Numbers.{Model-ir_version, Model-graph, Model-functions, Function-input, Function-output, Function-node}
use Rattle.schema.specs.Numbers.{Graph-node, Graph-name, Graph-initializer, Graph-input, Graph-output, Graph-sparse_initializer, ValueInfo-name}
use Rattle.schema.specs.Numbers.{Tensor-name, Tensor-data_type, Node-input, Node-output, Node-op_type, Node-attribute, Node-domain, Attribute-name}
use Rattle.schema.specs.FirstWalk.{first_walk}
use Rattle.schema.proofs.Refusals.{FirstWalk-refusals, first_walk_tells}
use Rattle.rules.specs.Names.{Name, name_of, name_in, bodies_of, inputs_of}
use Rattle.rules.specs.Walk.{Context, nested_in, in_main, Walk, GraphJudge, start, with_name, with_node, with_tested, leaving, afresh}
use Rattle.rules.specs.Walk.{Along, along, defined_at, tested, naming, define}
use Rattle.rules.specs.Types.{declared_type}
use Rattle.rules.specs.Node.{node_name, node_input, node_output, body, attribute, node}
use Rattle.rules.specs.Graph.{input, is_default, default_or_new, initializer, output, graph_with, graph}
use Rattle.rules.specs.Function.{function_input, function_output, Functions, functions, function_head, function_body, function}
use Rattle.rules.specs.Header.{in_model, header, second_walk_to, second_walk}
use Rattle.rules.specs.Verdict.{fills, verdict}
use Rattle.rules.specs.Refusals.{refusals}
use Rattle.rules.specs.Demands.{RefusedProperly}
use Rattle.rules.proofs.Rules.{more_numbers, Type-refusals, Header-refusals, Adds, GoodMessage, good_message, good_all, good_bodies}
use Rattle.rules.proofs.Rules.{good_first, good_place, main_type_tells, node_name_tells, header_tells}
use Rattle.rules.proofs.FunctionRules.{Function-refusals, Output-refusals, Headed, function_head_tells, function_output_tells}
use Rattle.rules.proofs.MainGraph.{main_graph}

module _ (model : Bytes) where
  abbrev Good : Field → Type 0
  Good f = Fits 0 (length model) f

  abbrev Place : ℕ → Type 0
  Place p = (p ≡ 0) ⊎ (p < length model)

  -- a proper refusal
  abbrev Second : (number first : ℕ) → Type 0
  Second number first = (first ≡ 0) ⊎ ((number ≡ 23) × (first < length model))

  abbrev Proper : Refusal → Type 0
  Proper r = T (contains r.number refusals) × Place r.place × Second r.number r.first

  of_place : (q : ℕ) → Place q → Second 23 q
  of_place q (inl e) = inl e
  of_place q (inr h) = inr (refl, h)

  -- rules that have no second number
  proper_among : {A : Type 0} (R : A → Type 0) (ns : List ℕ) (o : Judged A) → T (subset ns refusals) → Tells R (Among ns Place) o → Tells R Proper o
  proper_among R ns o s t = tells_weaken R R (Among refusals Place) Proper o (λ a h. h) (λ r h. (h.0, h.1, inl h.2)) (more_numbers R Place ns refusals o s t)

  -- what is visible stands at good places
  abbrev Names : List Name → Type 0
  Names scope = All (λ n. Place n.place) scope

  abbrev Scoped : Walk → Type 0
  Scoped w = Names w.scope

  abbrev ScopedAlong : Along → Type 0
  ScopedAlong w = Scoped w.walk

  abbrev ScopedFunctions : Functions → Type 0
  ScopedFunctions w = Scoped w.walk

  defined_place : (x : Bytes) (scope : List Name) → Names scope → Place (defined_at x scope)
  unfolding defined_at
  defined_place x [] s = inl refl
  defined_place x (n ∷ more) s = go (same x n.bytes) (defined_place x more s.1)
    where
      go : (b : Bool) → Place (defined_at x more) → Place (elim b [ true ↦ n.place | false ↦ defined_at x more ])
      go true p = s.0
      go false p = p

  good_at : (f : Field) → Good f → Place f.place
  good_at f g = inr (omega arith)

  good_in : (f : Field) → Good f → All Good (message model f).fields
  good_in f g =
      all_map (Fits f.start f.next) Good (λ h k. (zero-le, k.1, k.2, omega arith)) (message model f).fields
      (ordered_all f.start f.next (message model f).fields (message_ordered model f))

  abbrev Placed : Message → Type 0
  Placed = GoodMessage model Good Place good_at good_in

  placed : (f : Field) → Good f → Placed (message model f)
  placed f g = good_message model Good Place good_at good_in f g

  parts : (n : ℕ) (m : Message) → Placed m → All Good (all_of n m)
  parts n m g = good_all model Good Place good_at good_in n m g

  place : (n : ℕ) (m : Message) → Placed m → Place (Rattle.wire.specs.Message.place_of n m)
  place n m g = good_place model Good Place good_at good_in n m g

  -- a rule that only tests names leaves what is visible as it was
  proper_adds : {A : Type 0} (to : A → Walk) (w : Walk) (k : ℕ) (ns : List ℕ) (o : Judged A) → T (subset ns refusals) → Scoped w
      → Tells (λ a. Adds w k (to a)) (Among ns Place) o → Tells (λ a. Scoped (to a)) Proper o
  proper_adds to w k ns o q s t =
      tells_weaken (λ a. Adds w k (to a)) (λ a. Scoped (to a)) Proper Proper o (λ a h. rw h.0 s) (λ r p. p) (proper_among (λ a. Adds w k (to a)) ns o q t)

  proper_tested : (w : Walk) (x : Name) → Scoped w → Place x.place → Tells Scoped Proper (tested w x)
  unfolding tested with_tested contains
  proper_tested w x s p = tells_rule Scoped Proper 21 _ _ _ (λ b. (tt, p, inl refl)) (λ b. s)

  proper_naming : (empty : ℕ) (w : Walk) (x : Name)
      → T (contains empty refusals) → Scoped w → Place x.place → Tells Scoped Proper (naming empty w x)
  unfolding naming
  proper_naming empty w x q s p = tells_rule Scoped Proper empty _ _ _ (λ b. (q, p, inl refl)) (λ b. proper_tested w x s p)

  proper_type : (c : Context) (v : Message) (w : Walk) → Scoped w → Placed v → Tells Scoped Proper (in_main c (declared_type model v) w)
  unfolding subset contains
  proper_type c v w s g =
      proper_adds (λ u. u) w _ Type-refusals (in_main c (declared_type model v) w) tt s (main_type_tells model Good Place good_at good_in c v w g)

  module _ (full : ℕ → Bool) where
    proper_define : (w : Walk) (x : Name) → Scoped w → Place x.place → Tells Scoped Proper (define full w x)
    unfolding define with_name contains
    proper_define w x s p =
        tells_first Scoped Proper 23 _ _ _ _ (λ b. (tt, p, of_place _ (defined_place x.bytes w.scope s)))
        (λ b. tells_rule Scoped Proper 40 _ _ _ (λ b. (tt, p, inl refl)) (λ b. (p, s)))

    proper_input : (c : Context) (w : Walk) (f : Field) → Scoped w → Good f → Tells Scoped Proper (input model full c w f)
    unfolding input name_of contains
    proper_input c w f s g =
        let m = message model f in
        let x = name_of model ValueInfo-name m in
        let p = place ValueInfo-name m (placed f g) in
        tells_bind Scoped Scoped Proper _ _ (proper_naming 22 w x tt s p) (λ t h.
        tells_bind Scoped Scoped Proper _ _ (proper_define t x h p) (λ v i. proper_type c m v i (placed f g)))

    proper_initializer : (c : Context) (inputs : List Bytes) (w : Along) (f : Field) → ScopedAlong w → Good f → Tells ScopedAlong Proper (initializer model full c inputs w f)
    unfolding initializer default_or_new name_of contains
    proper_initializer c inputs w f s g =
        let m = message model f in
        let x = name_of model Tensor-name m in
        let p = place Tensor-name m (placed f g) in
        tells_bind Scoped ScopedAlong Proper _ _ (proper_naming 22 w.walk x tt s p) (λ t h.
        tells_rule ScopedAlong Proper 43 _ _ _ (λ b. (tt, p, inl refl)) (λ b.
        tells_bind Scoped ScopedAlong Proper _ _
        (tells_if Scoped Proper (is_default c inputs w.earlier x.bytes) _ _ (λ b. h) (λ b. proper_define t x h p)) (λ v i.
        tells_rule ScopedAlong Proper 26 _ _ _ (λ b. (tt, place Tensor-data_type m (placed f g), inl refl)) (λ b. i))))

    proper_node_input : (w : Walk) (f : Field) → Scoped w → Good f → Tells Scoped Proper (node_input model w f)
    unfolding node_input name_in contains
    proper_node_input w f s g =
        tells_if Scoped Proper (is_empty (text model f)) _ _ (λ b. s) (λ b.
        tells_bind Scoped Scoped Proper _ _ (proper_tested w (name_in model f) s (good_at f g)) (λ v h.
        tells_rule Scoped Proper 30 _ _ _ (λ b. (tt, good_at f g, inl refl)) (λ b. h)))

    proper_node_output : (w : Walk) (f : Field) → Scoped w → Good f → Tells Scoped Proper (node_output model full w f)
    unfolding node_output name_in
    proper_node_output w f s g =
        tells_if Scoped Proper (is_empty (text model f)) _ _ (λ b. s) (λ b.
        tells_bind Scoped Scoped Proper _ _ (proper_tested w (name_in model f) s (good_at f g)) (λ v h. proper_define v (name_in model f) h (good_at f g)))

    proper_output : (c : Context) (w : Walk) (f : Field) → Scoped w → Good f → Tells Scoped Proper (output model c w f)
    unfolding output name_of contains
    proper_output c w f s g =
        let m = message model f in
        let p = place ValueInfo-name m (placed f g) in
        tells_bind Scoped Scoped Proper _ _ (proper_naming 22 w (name_of model ValueInfo-name m) tt s p) (λ v h.
        tells_rule Scoped Proper 35 _ _ _ (λ b. (tt, p, inl refl)) (λ b. proper_type c m v h (placed f g)))

    -- ---- one level: `J` judges the graphs further in

    module _ (c : Context) (J : GraphJudge) (nest : (w : Walk) (f : Field) → Scoped w → Good f → Tells Scoped Proper (J w f)) where
      proper_body : (w : Walk) (f : Field) → Scoped w → Good f → Tells Scoped Proper (body J w f)
      unfolding body leaving
      proper_body w f s g = tells_bind Scoped Scoped Proper (J w f) _ (nest w f s g) (λ v _. s)

      proper_attribute : (w : Along) (f : Field) → ScopedAlong w → Good f → Tells ScopedAlong Proper (attribute model c J w f)
      unfolding attribute message name_of contains
      proper_attribute w f s g =
          let m = message model f in
          let p = place Attribute-name m (placed f g) in
          tells_bind Scoped ScopedAlong Proper _ _ (proper_naming 22 w.walk (name_of model Attribute-name m) tt s p) (λ t h.
          tells_rule ScopedAlong Proper 31 _ _ _ (λ b. (tt, p, inl refl)) (λ b.
          tells_rule ScopedAlong Proper 33 _ _ _ (λ b. (tt, good_at f g, inl refl)) (λ b.
          tells_rule ScopedAlong Proper 32 _ _ _ (λ b. (tt, good_at f g, inl refl)) (λ b.
          tells_bind Scoped ScopedAlong Proper _ _ (tells_each Good Scoped Proper (body J) (λ v k t h. proper_body v k t h) (bodies_of m)
          (good_bodies model Good Place good_at good_in m (placed f g)) t h) (λ v i. i)))))

      proper_node : (w : Along) (f : Field) → ScopedAlong w → Good f → Tells ScopedAlong Proper (node model full c J w f)
      unfolding node with_node along message name_of subset contains
      proper_node w f s g =
          let m = message model f in
          let q = placed f g in
          tells_bind Scoped ScopedAlong Proper _ _ (proper_naming 27 w.walk (name_of model Node-op_type m) tt s (place Node-op_type m q)) (λ t h.
          tells_rule ScopedAlong Proper 28 _ _ _ (λ b. (tt, place Node-domain m q, inl refl)) (λ b.
          tells_bind ScopedAlong ScopedAlong Proper _ _ (proper_adds (λ n. n.walk) t _ (21 ∷ 29 ∷ []) (node_name model w.earlier t m) tt h
          (node_name_tells model Good Place good_at good_in w.earlier t m q)) (λ n h.
          tells_bind Scoped ScopedAlong Proper _ _ (tells_each Good Scoped Proper (node_input model) (λ v k t h. proper_node_input v k t h)
          (all_of Node-input m) (parts Node-input m q) n.walk h) (λ i h.
          tells_bind ScopedAlong ScopedAlong Proper _ _ (tells_each Good ScopedAlong Proper (attribute model c J) (λ v k t h. proper_attribute v k t h)
          (all_of Node-attribute m) (parts Node-attribute m q) (along i) h) (λ a h.
          tells_rule ScopedAlong Proper 34 _ _ _ (λ b. (tt, good_at f g, inl refl)) (λ b.
          tells_bind Scoped ScopedAlong Proper _ _ (tells_each Good Scoped Proper (node_output model full) (λ v k t h. proper_node_output v k t h)
          (all_of Node-output m) (parts Node-output m q) a.walk h) (λ v u. u)))))))

      proper_graph : (w : Walk) (f : Field) → Scoped w → Good f → Tells Scoped Proper (graph_with model full c J w f)
      unfolding graph_with along name_of contains
      proper_graph w f s h =
          let g = message model f in
          let q = placed f h in
          tells_bind Scoped Scoped Proper _ _ (proper_naming 20 w (name_of model Graph-name g) tt s (place Graph-name g q)) (λ t h.
          tells_rule Scoped Proper 16 _ _ _ (λ b. (tt, place Graph-sparse_initializer g q, inl refl)) (λ b.
          tells_bind Scoped Scoped Proper _ _ (tells_each Good Scoped Proper (input model full c) (λ v k t h. proper_input c v k t h) (all_of Graph-input g)
          (parts Graph-input g q) t h) (λ v h.
          tells_bind ScopedAlong Scoped Proper _ _ (tells_each Good ScopedAlong Proper (initializer model full c (inputs_of model g))
          (λ v k t h. proper_initializer c (inputs_of model g) v k t h) (all_of Graph-initializer g)
          (parts Graph-initializer g q) (along v) h) (λ i h.
          tells_bind ScopedAlong Scoped Proper _ _ (tells_each Good ScopedAlong Proper (node model full c J) (λ v k t h. proper_node v k t h) (all_of Graph-node g)
          (parts Graph-node g q) (along i.walk) h) (λ n h.
          tells_each Good Scoped Proper (output model c) (λ v k t h. proper_output c v k t h) (all_of Graph-output g) (parts Graph-output g q) n.walk h)))))

    proper_depths : (left : ℕ) (c : Context) (w : Walk) (f : Field) → Scoped w → Good f → Tells Scoped Proper (graph model full left c w f)
    unfolding graph contains
    proper_depths zero c w f s g = (tt, good_at f g, inl refl)
    proper_depths (suc left) c w f s g = proper_graph c (graph model full left (nested_in c)) (λ w f s g. proper_depths left (nested_in c) w f s g) w f s g

    -- ---- functions

    proper_function_input : (w : Walk) (f : Field) → Scoped w → Good f → Tells Scoped Proper (function_input model full w f)
    unfolding function_input name_in contains
    proper_function_input w f s g =
        let x = name_in model f in
        tells_bind Scoped Scoped Proper _ _ (proper_naming 22 w x tt s (good_at f g)) (λ t h. proper_define t x h (good_at f g))

    proper_function_output : (w : Walk) (f : Field) → Scoped w → Good f → Tells Scoped Proper (function_output model w f)
    unfolding subset contains
    proper_function_output w f s g =
        proper_adds (λ u. u) w _ Output-refusals (function_output model w f) tt s (function_output_tells model Good Place good_at good_in w f g)

    module _ (list : Bytes) where
      proper_function_body : (left : ℕ) (c : Context) (w : Walk) (m : Message) → Scoped w → Placed m
          → Tells Scoped Proper (function_body model full c (λ u g. graph model full left (nested_in c) u g) w m)
      unfolding function_body along
      proper_function_body left c w m s q =
          let J : GraphJudge = graph model full left (nested_in c) in
          tells_bind Scoped Scoped Proper _ _ (tells_each Good Scoped Proper (function_input model full) (λ v k t h. proper_function_input v k t h)
          (all_of Function-input m) (parts Function-input m q) w s) (λ i h.
          tells_bind ScopedAlong Scoped Proper _ _ (tells_each Good ScopedAlong Proper (node model full c J)
          (λ v k t h. proper_node c J (λ u b s g. proper_depths left (nested_in c) u b s g) v k t h)
          (all_of Function-node m) (parts Function-node m q) (along i) h) (λ n h.
          tells_each Good Scoped Proper (function_output model) (λ v k t h. proper_function_output v k t h) (all_of Function-output m)
          (parts Function-output m q) n.walk h))

      -- nothing is visible at first
      proper_function : (left v : ℕ) (w : Functions) (f : Field) → Good f → Tells ScopedFunctions Proper (function model list full left v w f)
      unfolding function afresh leaving start subset contains
      proper_function left v w f g =
          let m = message model f in
          let head = function_head model list v w.earlier (afresh w.walk) m in
          let P : Refusal → Type 0 = Among Function-refusals Place in
          tells_bind (λ h. Scoped h.walk) ScopedFunctions Proper head _
          (proper_adds (λ h. h.walk) (afresh w.walk) _ Function-refusals head tt tt
          (tells_weaken (Headed model v (afresh w.walk) m) (λ h. Adds (afresh w.walk) _ h.walk) P P head (λ h a. a.0) (λ r p. p)
          (function_head_tells model Good Place good_at good_in list v w.earlier (afresh w.walk) m (placed f g)))) (λ h s.
          tells_bind Scoped ScopedFunctions Proper _ _ (proper_function_body left h.around h.walk m s (placed f g)) (λ b u. u))

    proper_second : (list : Bytes) → Tells Scoped Proper (second_walk model list full)
    unfolding second_walk second_walk_to functions start message whole subset contains
    proper_second list =
        let m = message model (whole model) in
        let v = number_of Model-ir_version m in
        tells_bind Any Scoped Proper _ _ (proper_among Any Header-refusals (header model list m) tt
        (header_tells model Good Place good_at good_in list m all)) (λ imports _.
        tells_bind Scoped Scoped Proper (main_graph model full 8 (in_model m imports) (first_of Model-graph m)) _
        (tells_option Scoped Proper Good (first_of Model-graph m) _ _ (good_first model Good Place good_at good_in Model-graph m all) (tt, inl refl, inl refl)
        (λ g h. proper_depths 8 (in_model m imports) start g tt h)) (λ w s.
        tells_bind ScopedFunctions Scoped Proper (each (function model list full 7 v) (functions w) (all_of Model-functions m)) _
        (tells_each Good ScopedFunctions Proper (function model list full 7 v) (λ u f _ g. proper_function list 7 v u f g)
        (all_of Model-functions m) (parts Model-functions m all) (functions w) s) (λ f u. u)))
      where
        all : Placed (message model (whole model))
        all = (inl refl, ordered_all 0 (length model) (message model (whole model)).fields (message_ordered model (whole model)))

  proper_verdict : (list : Bytes) (cells : ℕ) → Tells Any Proper (verdict model list cells)
  unfolding verdict subset contains
  proper_verdict list cells =
      tells_rule Any Proper 7 _ _ _ (λ b. (tt, inl refl, inl refl)) (λ b.
      tells_rule Any Proper 8 _ _ _ (λ b. (tt, inl refl, inl refl)) (λ b.
      tells_seq Any Proper (first_walk model) _
      (tells_weaken Any Any (Among refusals (λ p. p < length model)) Proper (first_walk model) (λ u _. tt) (λ r p. (p.0, inr p.1, inl p.2))
      (more_numbers Any (λ p. p < length model) FirstWalk-refusals refusals (first_walk model) tt (first_walk_tells model)))
      (tells_bind Scoped Any Proper _ _ (proper_second (fills cells) list) (λ w _. tt))))

pub refused_properly : RefusedProperly
unfolding RefusedProperly
refused_properly model list cells r e = rw e at (proper_verdict model list cells)
