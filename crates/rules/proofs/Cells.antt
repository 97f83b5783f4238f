-- The cells: the judge with some cells beside the judge with more room, for more cells or with no bound, rule by rule.
use Prim.Native.Nat.{ℕ, zero, suc, ◌≤◌, ◌<◌}
use native.Mathlib.Omega.{arith}
use mathlib.Core.Path.{◌≡◌, refl}
use mathlib.Core.Logic.{inl, inr}
use mathlib.Core.Bool.{Bool, true, false, not, true≢false}
use mathlib.Core.List.{List, [], ◌∷◌}
use mathlib.Core.Option.{Option, none, some}
use lib.ListN.{length}
use lib.Dec.{T, leb, leb→le, nleb→lt}
use Rattle.varint.specs.Outcome.{pass, ◌>>=◌, ◌>>◌, each, Judged, Rule, refuse◌at:◌when:◌, refuse◌at:◌first:◌when:◌}
use Rattle.wire.specs.declared.Field.{Field}
use Rattle.varint.specs.Lists.{is_empty}
use Rattle.varint.specs.Bytes.{Bytes}
use Rattle.wire.specs.Message.{Message, all_of, first_of, number_of, text, message, whole}
use Rattle.varint.proofs.Tells.{Any, any_all, Among, tells_weaken}
use Rattle.schema.specs.Numbers.{Model-ir_version, Model-graph, Model-functions, Function-input, Function-output, Function-node, Graph-node, Graph-name}
use Rattle.schema.specs.Numbers.{Graph-initializer, Graph-input, Graph-output, ValueInfo-name, Tensor-name, Node-input, Node-output, Node-op_type}
use Rattle.schema.specs.Numbers.{Node-attribute, Attribute-name}
use Rattle.rules.specs.Names.{Name, name_of, name_in, bodies_of, inputs_of}
use Rattle.rules.specs.Walk.{Context, nested_in, in_main, Walk, start, with_name, with_node, leaving, afresh, Along, along, visible}
use Rattle.rules.specs.Walk.{defined_at, tested, naming, define}
use Rattle.rules.specs.Identity.{Identity}
use Rattle.rules.specs.Types.{declared_type}
use Rattle.rules.specs.Node.{node_name, node_input, node_output, body, attribute, node}
use Rattle.rules.specs.Graph.{input, is_default, default_or_new, initializer, output, graph_with, graph}
use Rattle.rules.specs.Function.{function_input, function_output, Heading, Functions, functions, function_head, function_body, function}
use Rattle.rules.specs.Header.{in_model, header, second_walk_to, second_walk}
use Rattle.rules.specs.Verdict.{room, fills}
use Rattle.rules.proofs.Rules.{Adds, Type-refusals, main_type_tells, node_name_tells}
use Rattle.rules.proofs.FunctionRules.{Function-refusals, Output-refusals, Headed, head_tells, output_tells}
use Rattle.rules.proofs.MainGraph.{main_graph}
use Rattle.rules.proofs.Held.{UnlessFull, most, most_of, Held, held_pass, held_bind, skip, same_seq, held_each, held_same, held_tested, held_naming}
use Rattle.rules.proofs.Held.{unless_full, fits, passes}

module _ (cells : ℕ) (ample : ℕ → Bool) (wider : (visible : ℕ) → visible < room cells → ample visible ≡ false) where
  -- how many names fit
  abbrev fit : ℕ
  fit = room cells

  abbrev limit : ℕ → Bool
  limit = fills cells

  held_define : (w : Walk) (x : Name) → Held fit most (most w) (define limit w x) (define ample w x)
  unfolding define with_name fills ◌>>◌ refuse◌at:◌when:◌ refuse◌at:◌first:◌when:◌
  held_define w x =
      let n = length w.scope in
      go (visible x.bytes w.scope) (leb fit n) (ample n) (leb→le fit n) (λ t. let l = nleb→lt fit n t in (l, wider n l))
    where
      go : (a b c : Bool) → (T b → fit ≤ length w.scope) → (T (not b) → (length w.scope < fit) × (c ≡ false))
          → Held fit most (most w)
          (refuse 23 at: x.place first: defined_at x.bytes w.scope when: a >> (refuse 40 at: x.place when: b >> pass (with_name w x)))
          (refuse 23 at: x.place first: defined_at x.bytes w.scope when: a >> (refuse 40 at: x.place when: c >> pass (with_name w x)))
      go true b c yes' no' = λ l. inl refl
      go false true true yes' no' = λ l. inl refl
      go false true false yes' no' = let h = yes' tt in (omega arith, λ l. inr (omega arith, (x.place, refl)))
      go false false true yes' no' = absurd (true≢false (no' tt).1)
      go false false false yes' no' = let h = (no' tt).0 in (omega arith, λ l. inl (omega arith, refl))

  module _ (model : Bytes) where
    held_node_input : (w : Walk) (f : Field) → Held fit most (most w) (node_input model w f) (node_input model w f)
    unfolding node_input
    held_node_input w f = go (is_empty (text model f)) (λ v. refuse 30 at: f.place when: not (visible (text model f) v.scope))
      where
        go : (b : Bool) (rule : Walk → Rule) → Held fit most (most w)
            (elim b [ true ↦ pass w | false ↦ tested w (name_in model f) >>= λ v. rule v >> pass v ])
            (elim b [ true ↦ pass w | false ↦ tested w (name_in model f) >>= λ v. rule v >> pass v ])
        go true rule = held_pass fit most w
        go false rule =
            held_bind fit most most (most w) (tested w (name_in model f)) (tested w (name_in model f)) _ _ (held_tested fit w (name_in model f))
            (λ v. same_seq fit most (most v) (rule v) (pass v) (pass v) (held_pass fit most v))

    held_output : (w : Walk) (f : Field) → Held fit most (most w) (node_output model limit w f) (node_output model ample w f)
    unfolding node_output
    held_output w f = go (is_empty (text model f))
      where
        go : (b : Bool) → Held fit most (most w)
            (elim b [ true ↦ pass w | false ↦ tested w (name_in model f) >>= λ v. define limit v (name_in model f) ])
            (elim b [ true ↦ pass w | false ↦ tested w (name_in model f) >>= λ v. define ample v (name_in model f) ])
        go true = held_pass fit most w
        go false =
            held_bind fit most most (most w) (tested w (name_in model f)) (tested w (name_in model f)) _ _ (held_tested fit w (name_in model f))
            (λ v. held_define v (name_in model f))

    held_name : (earlier : List Bytes) (w : Walk) (m : Message) → Held fit most_of (most w) (node_name model earlier w m) (node_name model earlier w m)
    held_name earlier w m = held_same fit most_of (most w) (node_name model earlier w m)
        (tells_weaken (λ n. Adds w _ n.walk) (λ n. most_of n ≡ most w) (Among (21 ∷ 29 ∷ []) Any) Any (node_name model earlier w m) (λ n a. a.2) (λ r _. tt)
        (node_name_tells model Any Any (λ f g. tt) (λ f g. any_all (message model f).fields) earlier w m (tt, any_all m.fields)))

    held_type : (c : Context) (v : Message) (w : Walk) → Held fit most (most w) (in_main c (declared_type model v) w) (in_main c (declared_type model v) w)
    held_type c v w = held_same fit most (most w) (in_main c (declared_type model v) w)
        (tells_weaken (Adds w _) (λ u. most u ≡ most w) (Among Type-refusals Any) Any (in_main c (declared_type model v) w) (λ u a. a.2) (λ r _. tt)
        (main_type_tells model Any Any (λ f g. tt) (λ f g. any_all (message model f).fields) c v w (tt, any_all v.fields)))

    module _ (c : Context) where
      held_input : (w : Walk) (f : Field) → Held fit most (most w) (input model limit c w f) (input model ample c w f)
      unfolding input
      held_input w f =
          let x = name_of model ValueInfo-name (message model f) in
          held_bind fit most most (most w) (naming 22 w x) (naming 22 w x) _ _ (held_naming fit 22 w x) (λ t.
          held_bind fit most most (most t) (define limit t x) (define ample t x) _ _ (held_define t x) (λ v. held_type c (message model f) v))

      held_default : (inputs earlier : List Bytes) (w : Walk) (x : Name)
          → Held fit most (most w) (default_or_new limit c inputs earlier w x) (default_or_new ample c inputs earlier w x)
      unfolding default_or_new
      held_default inputs earlier w x = go (is_default c inputs earlier x.bytes)
        where
          go : (b : Bool)
              → Held fit most (most w) (elim b [ true ↦ pass w | false ↦ define limit w x ]) (elim b [ true ↦ pass w | false ↦ define ample w x ])
          go true = held_pass fit most w
          go false = held_define w x

      held_initializer : (inputs : List Bytes) (w : Along) (f : Field) → Held fit most_of (most_of w) (initializer model limit c inputs w f) (initializer model ample c inputs w f)
      unfolding initializer
      held_initializer inputs w f =
          let x = name_of model Tensor-name (message model f) in
          held_bind fit most most_of (most_of w) (naming 22 w.walk x) (naming 22 w.walk x) _ _ (held_naming fit 22 w.walk x) (λ t.
          same_seq fit most_of (most t) (refuse 43 at: _ when: _) _ _
          (held_bind fit most most_of (most t) (default_or_new limit c inputs w.earlier t x) (default_or_new ample c inputs w.earlier t x) _ _
          (held_default inputs w.earlier t x) (λ v.
          same_seq fit most_of (most v) (refuse 26 at: _ when: _) _ _ (held_pass fit most_of (record { walk = v; earlier = x.bytes ∷ w.earlier })))))

      held_graph_output : (w : Walk) (f : Field) → Held fit most (most w) (output model c w f) (output model c w f)
      unfolding output
      held_graph_output w f =
          let x = name_of model ValueInfo-name (message model f) in
          held_bind fit most most (most w) (naming 22 w x) (naming 22 w x) _ _ (held_naming fit 22 w x) (λ v.
          same_seq fit most (most v) (refuse 35 at: _ when: _) _ _ (held_type c (message model f) v))

      module _ (J K : Walk → Field → Judged Walk) (nest : (w : Walk) (f : Field) → Held fit most (most w) (J w f) (K w f)) where
        held_body : (w : Walk) (f : Field) → Held fit most (most w) (body J w f) (body K w f)
        unfolding body leaving
        held_body w f = held_bind fit most most (most w) (J w f) (K w f) _ _ (nest w f) (λ v. held_pass fit most (leaving w v))

        held_attribute : (w : Along) (f : Field) → Held fit most_of (most_of w) (attribute model c J w f) (attribute model c K w f)
        unfolding attribute
        held_attribute w f =
            let x = name_of model Attribute-name (message model f) in
            held_bind fit most most_of (most_of w) (naming 22 w.walk x) (naming 22 w.walk x) _ _ (held_naming fit 22 w.walk x) (λ t.
            same_seq fit most_of (most t) (refuse 31 at: _ when: _) _ _
            (same_seq fit most_of (most t) (refuse 33 at: _ when: _) _ _ (same_seq fit most_of (most t) (refuse 32 at: _ when: _) _ _
            (held_bind fit most most_of (most t) (each (body J) t (bodies_of (message model f))) (each (body K) t (bodies_of (message model f))) _ _
            (held_each fit most (body J) (body K) held_body t (bodies_of (message model f)))
            (λ v. held_pass fit most_of (record { walk = v; earlier = x.bytes ∷ w.earlier }))))))

        held_node : (w : Along) (f : Field) → Held fit most_of (most_of w) (node model limit c J w f) (node model ample c K w f)
        unfolding node with_node along
        held_node w f =
            let m = message model f in
            let x = name_of model Node-op_type m in
            held_bind fit most most_of (most_of w) (naming 27 w.walk x) (naming 27 w.walk x) _ _ (held_naming fit 27 w.walk x) (λ t.
            same_seq fit most_of (most t) (refuse 28 at: _ when: _) _ _
            (held_bind fit most_of most_of (most t) (node_name model w.earlier t m) (node_name model w.earlier t m) _ _ (held_name w.earlier t m) (λ n.
            held_bind fit most most_of (most_of n) (each (node_input model) n.walk (all_of Node-input m)) (each (node_input model) n.walk (all_of Node-input m)) _ _
            (held_each fit most (node_input model) (node_input model) held_node_input n.walk (all_of Node-input m))
            (λ i. held_bind fit most_of most_of (most i) (each (attribute model c J) (along i) (all_of Node-attribute m))
            (each (attribute model c K) (along i) (all_of Node-attribute m)) _ _
            (held_each fit most_of (attribute model c J) (attribute model c K) held_attribute (along i) (all_of Node-attribute m))
            (λ v. same_seq fit most_of (most_of v) (refuse 34 at: _ when: _) _ _
            (held_bind fit most most_of (most_of v) (each (node_output model limit) v.walk (all_of Node-output m))
            (each (node_output model ample) v.walk (all_of Node-output m)) _ _
            (held_each fit most (node_output model limit) (node_output model ample) held_output v.walk (all_of Node-output m))
            (λ u. held_pass fit most_of (record { walk = with_node u; earlier = n.earlier }))))))))

        held_graph : (w : Walk) (f : Field) → Held fit most (most w) (graph_with model limit c J w f) (graph_with model ample c K w f)
        unfolding graph_with along
        held_graph w f =
            let g = message model f in
            let x = name_of model Graph-name g in
            held_bind fit most most (most w) (naming 20 w x) (naming 20 w x) _ _ (held_naming fit 20 w x) (λ t.
            same_seq fit most (most t) (refuse 16 at: _ when: _) _ _
            (held_bind fit most most (most t) (each (input model limit c) t (all_of Graph-input g)) (each (input model ample c) t (all_of Graph-input g)) _ _
            (held_each fit most (input model limit c) (input model ample c) held_input t (all_of Graph-input g))
            (λ v. held_bind fit most_of most (most v) (each (initializer model limit c (inputs_of model g)) (along v) (all_of Graph-initializer g))
            (each (initializer model ample c (inputs_of model g)) (along v) (all_of Graph-initializer g)) _ _
            (held_each fit most_of (initializer model limit c (inputs_of model g)) (initializer model ample c (inputs_of model g))
            (held_initializer (inputs_of model g)) (along v) (all_of Graph-initializer g))
            (λ i. held_bind fit most_of most (most_of i) (each (node model limit c J) (along i.walk) (all_of Graph-node g))
            (each (node model ample c K) (along i.walk) (all_of Graph-node g)) _ _
            (held_each fit most_of (node model limit c J) (node model ample c K) held_node (along i.walk) (all_of Graph-node g))
            (λ n. held_each fit most (output model c) (output model c) held_graph_output n.walk (all_of Graph-output g))))))

    held_depths : (left : ℕ) (c : Context) (w : Walk) (f : Field) → Held fit most (most w) (graph model limit left c w f) (graph model ample left c w f)
    unfolding graph
    held_depths zero c w f = λ l. inl refl
    held_depths (suc left) c w f = held_graph c (graph model limit left (nested_in c)) (graph model ample left (nested_in c)) (λ w f. held_depths left (nested_in c) w f) w f

    -- ---- functions

    held_function_input : (w : Walk) (f : Field) → Held fit most (most w) (function_input model limit w f) (function_input model ample w f)
    unfolding function_input
    held_function_input w f =
        let x = name_in model f in
        held_bind fit most most (most w) (naming 22 w x) (naming 22 w x) _ _ (held_naming fit 22 w x) (λ t. held_define t x)

    held_function_output : (w : Walk) (f : Field) → Held fit most (most w) (function_output model w f) (function_output model w f)
    held_function_output w f = held_same fit most (most w) (function_output model w f)
        (tells_weaken (Adds w _) (λ u. most u ≡ most w) (Among Output-refusals Any) Any (function_output model w f) (λ u a. a.2) (λ r _. tt)
        (output_tells model w f))

    abbrev most_head : Heading → ℕ
    most_head h = h.walk.most

    abbrev most_in : Functions → ℕ
    most_in w = w.walk.most

    module _ (list : Bytes) where
      held_head : (v : ℕ) (earlier : List Identity) (w : Walk) (m : Message)
          → Held fit most_head (most w) (function_head model list v earlier w m) (function_head model list v earlier w m)
      held_head v earlier w m = held_same fit most_head (most w) (function_head model list v earlier w m)
          (tells_weaken (Headed model v w m) (λ h. most_head h ≡ most w) (Among Function-refusals Any) Any (function_head model list v earlier w m)
          (λ h a. a.0.2) (λ r _. tt) (head_tells model list v earlier w m))

      held_function_body : (left : ℕ) (c : Context) (w : Walk) (m : Message)
          → Held fit most (most w) (function_body model limit c (λ u g. graph model limit left (nested_in c) u g) w m)
          (function_body model ample c (λ u g. graph model ample left (nested_in c) u g) w m)
      unfolding function_body along
      held_function_body left c w m =
          let J : Walk → Field → Judged Walk = graph model limit left (nested_in c) in
          let K : Walk → Field → Judged Walk = graph model ample left (nested_in c) in
          held_bind fit most most (most w) (each (function_input model limit) w (all_of Function-input m))
          (each (function_input model ample) w (all_of Function-input m)) _ _
          (held_each fit most (function_input model limit) (function_input model ample) held_function_input w (all_of Function-input m))
          (λ i. held_bind fit most_of most (most i) (each (node model limit c J) (along i) (all_of Function-node m))
          (each (node model ample c K) (along i) (all_of Function-node m)) _ _
          (held_each fit most_of (node model limit c J) (node model ample c K) (held_node c J K (λ u g. held_depths left (nested_in c) u g))
          (along i) (all_of Function-node m))
          (λ n. held_each fit most (function_output model) (function_output model) held_function_output n.walk (all_of Function-output m)))

      held_function : (left v : ℕ) (w : Functions) (f : Field)
          → Held fit most_in (most_in w) (function model list limit left v w f) (function model list ample left v w f)
      unfolding function afresh leaving start
      held_function left v w f =
          let m = message model f in
          let head = function_head model list v w.earlier (afresh w.walk) m in
          held_bind fit most_head most_in (most_in w) head head _ _ (held_head v w.earlier (afresh w.walk) m) (λ h.
          held_bind fit most most_in (most_head h) _ _ _ _ (held_function_body left h.around h.walk m) (λ b. held_pass fit most_in _))

    -- ---- the whole second walk

    held_main : (c : Context) (o : Option Field) → Held fit most 0 (main_graph model limit 8 c o) (main_graph model ample 8 c o)
    unfolding start
    held_main c none = λ l. inl refl
    held_main c (some g) = held_depths 8 c start g

    held_second : (list : Bytes) → Held fit most 0 (second_walk model list limit) (second_walk model list ample)
    unfolding second_walk second_walk_to functions
    held_second list =
        let m = message model (whole model) in
        let v = number_of Model-ir_version m in
        skip fit most 0 (header model list m) _ _ (λ imports.
        held_bind fit most most 0 _ _ _ _ (held_main (in_model m imports) (first_of Model-graph m)) (λ w.
        held_bind fit most_in most (most w) (each (function model list limit 7 v) (functions w) (all_of Model-functions m))
        (each (function model list ample 7 v) (functions w) (all_of Model-functions m)) _ _
        (held_each fit most_in (function model list limit 7 v) (function model list ample 7 v) (held_function list 7 v) (functions w) (all_of Model-functions m))
        (λ f. held_pass fit most f.walk)))

  module _ (model list : Bytes) where
    pub second_unless_full : UnlessFull (second_walk model list limit) (second_walk model list ample)
    second_unless_full = unless_full fit _ _ (held_second model list)

    pub second_fits : (w : Walk) → second_walk model list limit ≡ pass w → (second_walk model list ample ≡ pass w) × (w.most ≤ fit)
    second_fits = fits fit _ _ (held_second model list)

    pub second_passes : (w : Walk) → second_walk model list ample ≡ pass w → w.most ≤ fit → second_walk model list limit ≡ pass w
    second_passes = passes fit _ _ (held_second model list)
