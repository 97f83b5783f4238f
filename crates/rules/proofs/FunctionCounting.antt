-- The counts of nodes and of odd names, function by function, and of the whole second walk: they are the plain ones.
use Prim.Native.Nat.{ℕ, ◌+◌}
use native.Mathlib.Omega.{arith}
use mathlib.Core.Path.{◌≡◌, refl, ap, ◌∙◌}
use mathlib.Core.Bool.{Bool, true, false}
use mathlib.Core.List.{List, [], ◌∷◌, ◌++◌, flat_map}
use mathlib.Core.Option.{Option, none, some}
use lib.ListN.{length, length-append}
use Rattle.varint.specs.Outcome.{each}
use Rattle.wire.specs.declared.Field.{Field}
use Rattle.varint.specs.Bytes.{Bytes}
use Rattle.wire.specs.Message.{Message, all_of, first_of, number_of, text, message, whole}
use Rattle.varint.proofs.Tells.{Tells, Any, Among, tells_bind, tells_weaken}
use Rattle.schema.specs.Numbers.{Model-ir_version, Model-graph, Model-functions, Function-input, Function-output, Function-node}
use Rattle.rules.specs.Names.{name_in, bodies_in}
use Rattle.rules.specs.Walk.{Context, nested_in, Walk, GraphJudge, start, leaving, afresh, along, naming, define}
use Rattle.rules.specs.Node.{node}
use Rattle.rules.specs.Graph.{graph}
use Rattle.rules.specs.Function.{function_input, function_output, Heading, Functions, functions, function_head, function_body, function}
use Rattle.rules.specs.Header.{in_model, header, second_walk_to, second_walk}
use Rattle.rules.specs.Count.{nodes_in, function_nodes, main_nodes, nodes_to, node_count, odds, node_names, names_in, function_names, main_names, odd_to, odd_in}
use Rattle.rules.proofs.Rules.{Adds, odds_append, map_flat, naming_tells}
use Rattle.rules.proofs.FunctionRules.{Function-refusals, Output-refusals, head_names, Headed, head_tells, output_tells}
use Rattle.rules.proofs.MainGraph.{main_graph}
use Rattle.rules.proofs.Bounds.{nodes_bound, odd_bound}
use Rattle.rules.proofs.Counting.{after, Grew, GrewIn, grew_each, names_each, itself, grew_define, grew_nodes, grew_depths}

abbrev walk_in : Functions → Walk
walk_in w = w.walk

module _ (model : Bytes) (full : ℕ → Bool) where
  pub grew_function_input : (w : Walk) (f : Field) → Tells (Grew w 0 (odds (text model f ∷ []))) Any (function_input model full w f)
  unfolding function_input name_in
  grew_function_input w f =
      let x = name_in model f in
      let R : Walk → Type 0 = Grew w 0 (odds (text model f ∷ [])) in
      tells_bind (Adds w (odds (text model f ∷ []))) R Any (naming 22 w x) _ (naming_tells Any w x 22 tt tt) (λ t h.
      tells_weaken (Grew t 0 0) R Any Any (define full t x) (λ u i. (omega arith, omega arith)) (λ r _. tt) (grew_define full t x))

  pub grew_function_output : (w : Walk) (f : Field) → Tells (Grew w 0 (odds (text model f ∷ []))) Any (function_output model w f)
  grew_function_output w f =
      let k = odds (text model f ∷ []) in
      tells_weaken (Adds w k) (Grew w 0 k) (Among Output-refusals Any) Any (function_output model w f) (λ u a. (omega arith, omega arith)) (λ r _. tt)
      (output_tells model w f)

  -- the odd names of a body: inputs, nodes, outputs
  abbrev body_odds : (inner : Field → List Bytes) → Message → ℕ
  body_odds inner m =
      odds (flat_map (λ i. text model i ∷ []) (all_of Function-input m))
      + odds (flat_map (node_names model inner) (all_of Function-node m))
      + odds (flat_map (λ o. text model o ∷ []) (all_of Function-output m))

  function_odds : (inner : Field → List Bytes) (f : Field)
      → odds (function_names model inner f) ≡ odds (head_names model (message model f)) + body_odds inner (message model f)
  unfolding function_names
  function_odds inner f =
      let m = message model f in
      let head = head_names model m in
      let ins : List Bytes = flat_map (λ i. text model i ∷ []) (all_of Function-input m) in
      let inside : List Bytes = flat_map (node_names model inner) (all_of Function-node m) in
      let outs : List Bytes = flat_map (λ o. text model o ∷ []) (all_of Function-output m) in
      let e : odds (head ++ ins ++ inside ++ outs) ≡ odds head + odds ins + odds inside + odds outs =
      odds_append (head ++ ins ++ inside) outs
      ∙ ap (λ (n : ℕ). n + odds outs) (odds_append (head ++ ins) inside ∙ ap (λ (n : ℕ). n + odds inside) (odds_append head ins)) in
      rw (map_flat (text model) (all_of Function-input m), map_flat (text model) (all_of Function-output m)) (omega arith)

  -- `J` counts the graphs further in as `k` lists their nodes and `l` their names
  grew_function_body : (list : Bytes) (c : Context) (J : GraphJudge) (k : Field → List Field) (l : Field → List Bytes)
      → ((w : Walk) (f : Field) → Tells (Grew w (length (k f)) (odds (l f))) Any (J w f)) → (w : Walk) (m : Message)
      → Tells (Grew w (length (flat_map (λ n. n ∷ flat_map k (bodies_in model n)) (all_of Function-node m))) (body_odds l m)) Any
      (function_body model full c J w m)
  unfolding function_body along
  grew_function_body list c J k l nest w m =
      let nodes : List Field = flat_map (λ n. n ∷ flat_map k (bodies_in model n)) (all_of Function-node m) in
      let ins : List Bytes = flat_map (λ i. text model i ∷ []) (all_of Function-input m) in
      let inside : List Bytes = flat_map (node_names model l) (all_of Function-node m) in
      let outs : List Bytes = flat_map (λ o. text model o ∷ []) (all_of Function-output m) in
      let R : Walk → Type 0 = Grew w (length nodes) (body_odds l m) in
      tells_bind (Grew w 0 (odds ins)) R Any (each (function_input model full) w (all_of Function-input m)) _
      (names_each itself (λ i. text model i ∷ []) (function_input model full) grew_function_input (all_of Function-input m) w) (λ i h.
      tells_bind (λ n. Grew i (length nodes) (odds inside) n.walk) R Any (each (node model full c J) (along i) (all_of Function-node m)) _
      (grew_nodes model full c J k l nest (all_of Function-node m) (along i)) (λ n h₂.
      tells_weaken (Grew n.walk 0 (odds outs)) R Any Any (each (function_output model) n.walk (all_of Function-output m))
      (λ u h₃. (omega arith, omega arith)) (λ r _. tt)
      (names_each itself (λ o. text model o ∷ []) (function_output model) grew_function_output (all_of Function-output m) n.walk)))

  -- the plain counts have as many depths as the judge, or more
  pub grew_function : (list : Bytes) (left more v : ℕ) (w : Functions) (f : Field)
      → Tells (GrewIn walk_in w (length (function_nodes model (more + left) f)) (odds (function_names model (λ b. names_in model (more + left) false b) f))) Any
      (function model list full left v w f)
  unfolding function function_nodes afresh leaving start nested_in
  grew_function list left more v w f =
      let m = message model f in
      let l : Field → List Bytes = λ b. names_in model (more + left) false b in
      let R : Functions → Type 0 = GrewIn walk_in w (length (function_nodes model (more + left) f)) (odds (function_names model l f)) in
      let H : Heading → Type 0 = Headed model v (afresh w.walk) m in
      let head = function_head model list v w.earlier (afresh w.walk) m in
      let e = function_odds l f in
      tells_bind H R Any head _
      (tells_weaken H H (Among Function-refusals Any) Any head (λ h a. a) (λ r _. tt) (head_tells model list v w.earlier (afresh w.walk) m)) (λ h a.
      tells_bind (Grew h.walk (length (function_nodes model (more + left) f)) (body_odds l m)) R Any _ _
      (grew_function_body list h.around (graph model full left (nested_in h.around)) (nodes_in model (more + left)) l
      (λ u g. grew_depths model full left more (nested_in h.around) u g) h.walk m)
      (λ b i. (omega arith, omega arith)))

-- ---- the whole second walk

-- both counts are the plain ones
abbrev pub Plain : Bytes → Walk → Type 0
Plain model w = (w.nodes ≡ node_count model) × (w.odd ≡ odd_in model)

module _ (model list : Bytes) (full : ℕ → Bool) where
  -- depths enough for the plain counts, and those that the judge has besides
  abbrev bound : ℕ
  bound = length model + 8

  abbrev MainCounted : Walk → Type 0
  MainCounted w = (w.nodes ≡ length (main_nodes model bound)) × (w.odd ≡ odds (main_names model bound))

  main_counts : (c : Context) → c.main ≡ true
      → Tells MainCounted Any (main_graph model full 8 c (first_of Model-graph (message model (whole model))))
  unfolding main_nodes main_names start
  main_counts c e = go (first_of Model-graph (message model (whole model)))
    where
      nodes : Option Field → List Field
      nodes o = elim o [ none ↦ [] | some g ↦ nodes_in model bound g ]

      names : Option Field → List Bytes
      names o = elim o [ none ↦ [] | some g ↦ names_in model bound true g ]

      go : (o : Option Field) → Tells (λ w. (w.nodes ≡ length (nodes o)) × (w.odd ≡ odds (names o))) Any (main_graph model full 8 c o)
      go none = tt
      go (some g) =
          let q : odds (names_in model bound c.main g) ≡ odds (names (some g)) = ap (λ (b : Bool). odds (names_in model bound b g)) e in
          tells_weaken (Grew start (length (nodes_in model bound g)) (odds (names_in model bound c.main g)))
          (λ w. (w.nodes ≡ length (nodes (some g))) × (w.odd ≡ odds (names (some g)))) Any Any
          (graph model full 8 c start g) (λ w e. (omega arith, omega arith)) (λ r _. tt) (grew_depths model full 8 (length model) c start g)

  pub second_counts : Tells (Plain model) Any (second_walk model list full)
  unfolding in_model second_walk second_walk_to nodes_to odd_to functions
  second_counts =
      let m = message model (whole model) in
      let v = number_of Model-ir_version m in
      let R : Walk → Type 0 = λ w. (w.nodes ≡ nodes_to model bound) × (w.odd ≡ odd_to model bound) in
      let nodes = function_nodes model bound in
      let names = function_names model (λ b. names_in model bound false b) in
      let same : length model + 1 + 7 ≡ bound = omega arith in
      let l = length-append (main_nodes model bound) (flat_map nodes (all_of Model-functions m)) in
      let o = odds_append (main_names model bound) (flat_map names (all_of Model-functions m)) in
      tells_weaken R (Plain model) Any Any (second_walk model list full)
      (λ w e. (e.0 ∙ nodes_bound model bound (omega arith), e.1 ∙ odd_bound model bound (omega arith))) (λ r _. tt)
      (after R (header model list m) _ (λ imports.
      tells_bind MainCounted R Any _ _ (main_counts (in_model m imports) refl) (λ w h.
      tells_bind (λ f. Grew w (length (flat_map nodes (all_of Model-functions m))) (odds (flat_map names (all_of Model-functions m))) f.walk) R Any
      (each (function model list full 7 v) (functions w) (all_of Model-functions m)) _
      (grew_each walk_in nodes names (function model list full 7 v)
      (λ u f. rw same at (grew_function model full list 7 (length model + 1) v u f)) (all_of Model-functions m) (functions w))
      (λ f i. (omega arith, omega arith)))))
