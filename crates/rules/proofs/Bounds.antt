-- The bounds of the runner and of the plain counts: a graph is longer than one inside it, so any bound from its length on gives
-- the same.
use Prim.Native.Nat.{ℕ, zero, suc, ◌+◌, ◌≤◌, ◌<◌}
use native.Mathlib.Omega.{arith}
use mathlib.Core.Path.{◌≡◌, refl, ap}
use mathlib.Core.Bool.{Bool, true, false, not}
use mathlib.Core.List.{List, [], ◌∷◌, ◌++◌, map, flat_map}
use mathlib.Core.Option.{Option, none, some}
use lib.ListN.{length}
use Rattle.varint.specs.Outcome.{pass, each}
use Rattle.wire.specs.declared.Field.{Field}
use Rattle.varint.specs.Lists.{keep}
use Rattle.varint.specs.Bytes.{Bytes, same, member}
use Rattle.wire.specs.Message.{all_of, first_of, message, whole}
use Rattle.varint.proofs.Lists.{All, If, all_map, all_first, all_mapped, all_append, all_flat, flat_agree}
use Rattle.varint.proofs.Tells.{Any, any_all, each_agree}
use Rattle.wire.proofs.Reading.{Fits}
use Rattle.wire.proofs.Fields.{fields_done, message_ordered, keep_ordered, ordered_all, all_of_ordered}
use Rattle.schema.specs.Numbers.{Model-graph, Model-functions, Function-input, Function-output, Function-node, Graph-node, Graph-initializer}
use Rattle.schema.specs.Numbers.{Graph-input, Graph-output, Node-input, Node-output, Node-attribute, Tensor-name, ValueInfo-name}
use Rattle.rules.specs.Names.{Name, name_of, name_in, bodies_of, bodies_in}
use Rattle.rules.specs.Runner.{Action, binds, reads, visits, unless_empty, initializers, node_script, waiting_in, script, function_script}
use Rattle.rules.specs.Runner.{Run, Ran, begin, chosen, choose, unbound, times, perform, run_graph, run_function, run_main, run_to, run}
use Rattle.rules.specs.Count.{nodes_in, function_nodes, main_nodes, nodes_to, node_count, attribute_names, node_names, graph_names}
use Rattle.rules.specs.Count.{names_in, function_names, main_names, odd_to, odd_in}
use Rattle.rules.proofs.Scripts.{bodies_ordered}

-- a body inside a graph or a function begins after it and ends in time
abbrev Inside : Field → Field → Type 0
Inside f b = (f.start < b.start) × (b.start ≤ b.next) × (b.next ≤ f.next)

-- so does every body that an action visits
abbrev Stays : Field → Action → Type 0
Stays f (binds x) = Unit {0}
Stays f (reads x) = Unit {0}
Stays f (visits b) = Inside f b

module _ (model : Bytes) where
  bodies_inside : (f n : Field) → Fits f.start f.next n → All (Inside f) (bodies_in model n)
  bodies_inside f n h =
      all_map (Fits n.start n.next) (Inside f) (λ b k. (omega arith, omega arith, omega arith)) (bodies_in model n)
      (ordered_all n.start n.next (bodies_in model n) (bodies_ordered model n))

  parts_inside : (n : ℕ) (f : Field) → All (Fits f.start f.next) (all_of n (message model f))
  parts_inside n f = ordered_all f.start f.next (all_of n (message model f)) (all_of_ordered model n f)

  -- ---- the runner

  stays_unless : (f : Field) (act : Name → Action) → ((x : Name) → Stays f (act x)) → (x : Name) → All (Stays f) (unless_empty act x)
  unfolding unless_empty
  stays_unless f act h x = go x.bytes
    where
      go : (t : Bytes) → All (Stays f) (elim t [ [] ↦ [] | b ∷ more ↦ act x ∷ [] ])
      go [] = tt
      go (b ∷ t) = (h x, tt)

  stays_initializers : (f : Field) (waiting : List Bytes) (fs : List Field) → All (Stays f) (initializers model waiting fs)
  unfolding initializers
  stays_initializers f waiting [] = tt
  stays_initializers f waiting (g ∷ fs) = go (member x.bytes waiting) (λ w. stays_initializers f w fs)
    where
      x : Name
      x = name_of model Tensor-name (message model g)

      go : (b : Bool) → ((w : List Bytes) → All (Stays f) (initializers model w fs))
          → All (Stays f) (elim b [
            | true ↦ initializers model (keep (λ y. not (same x.bytes y)) waiting) fs
            | false ↦ binds x ∷ initializers model waiting fs
          ])
      go true ih = ih _
      go false ih = (tt, ih waiting)

  stays_node : (f n : Field) → Fits f.start f.next n → All (Stays f) (node_script model n)
  unfolding node_script
  stays_node f n h =
      let m = message model n in
      all_append (Stays f) (flat_map (λ i. unless_empty reads (name_in model i)) (all_of Node-input m) ++ map visits (bodies_in model n))
      (flat_map (λ o. unless_empty binds (name_in model o)) (all_of Node-output m))
      (all_append (Stays f) (flat_map (λ i. unless_empty reads (name_in model i)) (all_of Node-input m)) (map visits (bodies_in model n))
      (all_flat Any (Stays f) (λ i. unless_empty reads (name_in model i)) (λ i _. stays_unless f reads (λ x. tt) (name_in model i)) (all_of Node-input m)
      (any_all (all_of Node-input m)))
      (all_mapped (Inside f) (Stays f) visits (λ b k. k) (bodies_in model n) (bodies_inside f n h)))
      (all_flat Any (Stays f) (λ o. unless_empty binds (name_in model o)) (λ o _. stays_unless f binds (λ x. tt) (name_in model o)) (all_of Node-output m)
      (any_all (all_of Node-output m)))

  -- an opening that stays, the nodes, and outputs that are read: a graph's script, or a function's
  stays_body : (f : Field) (nodes outputs : ℕ) (opening : List Action) → All (Stays f) opening → (named : Field → Name)
      → All (Stays f) (opening ++ flat_map (node_script model) (all_of nodes (message model f)) ++ map (λ o. reads (named o)) (all_of outputs (message model f)))
  stays_body f nodes outputs opening s named =
      let m = message model f in
      all_append (Stays f) (opening ++ flat_map (node_script model) (all_of nodes m)) (map (λ o. reads (named o)) (all_of outputs m))
      (all_append (Stays f) opening (flat_map (node_script model) (all_of nodes m)) s
      (all_flat (Fits f.start f.next) (Stays f) (node_script model) (λ n h. stays_node f n h) (all_of nodes m) (parts_inside nodes f)))
      (all_mapped Any (Stays f) (λ o. reads (named o)) (λ o _. tt) (all_of outputs m) (any_all (all_of outputs m)))

  stays_binds : (f : Field) (named : Field → Name) (is : List Field) → All (Stays f) (map (λ i. binds (named i)) is)
  stays_binds f named is = all_mapped Any (Stays f) (λ i. binds (named i)) (λ i _. tt) is (any_all is)

  stays_script : (main : Bool) (f : Field) → All (Stays f) (script model main f)
  unfolding script
  stays_script main f =
      let g = message model f in
      let named : Field → Name = λ i. name_of model ValueInfo-name (message model i) in
      let values = initializers model (waiting_in model main g) (all_of Graph-initializer g) in
      stays_body f Graph-node Graph-output (map (λ i. binds (named i)) (all_of Graph-input g) ++ values)
      (all_append (Stays f) (map (λ i. binds (named i)) (all_of Graph-input g)) values (stays_binds f named (all_of Graph-input g))
      (stays_initializers f (waiting_in model main g) (all_of Graph-initializer g))) named

  stays_function : (f : Field) → All (Stays f) (function_script model f)
  unfolding function_script
  stays_function f =
      let inputs = all_of Function-input (message model f) in
      stays_body f Function-node Function-output (map (λ i. binds (name_in model i)) inputs) (stays_binds f (name_in model) inputs) (name_in model)

  perform_agrees : (f : Field) (K L : Run → Field → Ran) → ((b : Field) → Inside f b → (r : Run) → K r b ≡ L r b) → (r : Run) (a : Action)
      → Stays f a
      → perform K r a ≡ perform L r a
  unfolding perform
  perform_agrees f K L h r (binds x) s = refl
  perform_agrees f K L h r (reads x) s = refl
  perform_agrees f K L h r (visits b) s = ap (λ (k : Run → Ran). times (chosen r.choices) k (choose r)) (λ i t. h b s t i)

  script_empty : (main : Bool) (f : Field) → f.next ≤ f.start → script model main f ≡ []
  unfolding script all_of message keep flat_map initializers
  script_empty main f h = rw (fields_done model f.next f.start h, script) refl

  -- a script, to two bounds that agree on the bodies inside
  script_agrees : (n m : ℕ) (f : Field) → ((b : Field) → Inside f b → (r : Run) → run_graph model n false r b ≡ run_graph model m false r b)
      → (acts : List Action) → All (Stays f) acts → (r : Run)
      → each (perform (λ s g. run_graph model n false s g)) r acts ≡ each (perform (λ s g. run_graph model m false s g)) r acts
  script_agrees n m f agree acts stays r =
      each_agree (Stays f) (perform (run_graph model n false)) (perform (run_graph model m false))
      (λ s a i. perform_agrees f (run_graph model n false) (run_graph model m false) agree s a i) acts stays r

  run_agrees : (n m : ℕ) (main : Bool) (f : Field) → f.next ≤ f.start + n → f.next ≤ f.start + m → (r : Run) → run_graph model n main r f ≡ run_graph model m main r f
  unfolding run_graph each
  run_agrees zero zero main f h k r = refl
  run_agrees zero (suc m) main f h k r = rw (script_empty main f (omega arith)) refl
  run_agrees (suc n) zero main f h k r = rw (script_empty main f (omega arith)) refl
  run_agrees (suc n) (suc m) main f h k r =
      script_agrees n m f (λ b j t. run_agrees n m false b (omega arith) (omega arith) t) (script model main f) (stays_script main f) r

  function_agrees : (n m : ℕ) (f : Field) → f.next ≤ f.start + n → f.next ≤ f.start + m → (r : Run) → run_function model n r f ≡ run_function model m r f
  unfolding run_function
  function_agrees n m f h k r =
      script_agrees n m f (λ b j t. run_agrees n m false b (omega arith) (omega arith) t) (function_script model f) (stays_function f) (unbound r)

  -- ---- the plain count

  nodes_empty : (f : Field) → f.next ≤ f.start → all_of Graph-node (message model f) ≡ []
  unfolding all_of message keep
  nodes_empty f h = rw (fields_done model f.next f.start h) refl

  -- node fields of a graph or of a function, with number `p`, and those of the bodies inside
  within_agree : (p n m : ℕ) (f : Field) → ((b : Field) → Inside f b → nodes_in model n b ≡ nodes_in model m b)
      → flat_map (λ x. x ∷ flat_map (λ b. nodes_in model n b) (bodies_in model x)) (all_of p (message model f))
      ≡ flat_map (λ x. x ∷ flat_map (λ b. nodes_in model m b) (bodies_in model x)) (all_of p (message model f))
  within_agree p n m f agree =
      flat_agree (Fits f.start f.next) _ _
      (λ x i. ap (λ (l : List Field). x ∷ l) (flat_agree (Inside f) (nodes_in model n) (nodes_in model m) agree (bodies_in model x) (bodies_inside f x i)))
      (all_of p (message model f)) (parts_inside p f)

  nodes_agree : (n m : ℕ) (f : Field) → f.next ≤ f.start + n → f.next ≤ f.start + m → nodes_in model n f ≡ nodes_in model m f
  unfolding nodes_in flat_map
  nodes_agree zero zero f h k = refl
  nodes_agree zero (suc m) f h k = rw (nodes_empty f (omega arith)) refl
  nodes_agree (suc n) zero f h k = rw (nodes_empty f (omega arith)) refl
  nodes_agree (suc n) (suc m) f h k = within_agree Graph-node n m f (λ b j. nodes_agree n m b (omega arith) (omega arith))

  function_nodes_lem : (n m : ℕ) (f : Field) → f.next ≤ f.start + n → f.next ≤ f.start + m → function_nodes model n f ≡ function_nodes model m f
  unfolding function_nodes
  function_nodes_lem n m f h k = within_agree Function-node n m f (λ b j. nodes_agree n m b (omega arith) (omega arith))

  -- ---- the names

  attributes_inside : (f n : Field) → Fits f.start f.next n → All (Fits f.start f.next) (all_of Node-attribute (message model n))
  attributes_inside f n h =
      let list = all_of Node-attribute (message model n) in
      all_map (Fits n.start n.next) (Fits f.start f.next) (λ a k. (omega arith, k.1, k.2, omega arith)) list
      (ordered_all n.start n.next list (all_of_ordered model Node-attribute n))

  bodies_of_inside : (f a : Field) → Fits f.start f.next a → All (Inside f) (bodies_of (message model a))
  unfolding bodies_of
  bodies_of_inside f a h =
      all_map (Fits a.start a.next) (Inside f) (λ b k. (omega arith, omega arith, omega arith)) (bodies_of (message model a))
      (ordered_all a.start a.next (bodies_of (message model a)) (keep_ordered _ a.start a.next (message model a).fields (message_ordered model a)))

  module _ (f : Field) (k l : Field → List Bytes) (agree : (b : Field) → Inside f b → k b ≡ l b) where
    attribute_names_lem : (a : Field) → Fits f.start f.next a → attribute_names model k a ≡ attribute_names model l a
    unfolding attribute_names
    attribute_names_lem a h = rw (flat_agree (Inside f) k l agree (bodies_of (message model a)) (bodies_of_inside f a h)) refl

    node_names_lem : (n : Field) → Fits f.start f.next n → node_names model k n ≡ node_names model l n
    unfolding node_names
    node_names_lem n h = rw (flat_agree (Fits f.start f.next) (attribute_names model k) (attribute_names model l) attribute_names_lem
        (all_of Node-attribute (message model n)) (attributes_inside f n h)) refl

    names_within : (p : ℕ) → flat_map (node_names model k) (all_of p (message model f)) ≡ flat_map (node_names model l) (all_of p (message model f))
    names_within p = flat_agree (Fits f.start f.next) (node_names model k) (node_names model l) node_names_lem (all_of p (message model f)) (parts_inside p f)

    graph_names_lem : (main : Bool) → graph_names model k main f ≡ graph_names model l main f
    unfolding graph_names
    graph_names_lem main = rw (names_within Graph-node) refl

    function_names_lem : function_names model k f ≡ function_names model l f
    unfolding function_names
    function_names_lem = rw (names_within Function-node) refl

  -- a graph with no bytes has a name too, the empty one: so there must be a bound for it
  names_agree : (n m : ℕ) (main : Bool) (f : Field) → f.start ≤ f.next → f.next < f.start + n → f.next < f.start + m
      → names_in model n main f ≡ names_in model m main f
  unfolding names_in
  names_agree zero m main f o h k = absurd (omega arith)
  names_agree (suc n) zero main f o h k = absurd (omega arith)
  names_agree (suc n) (suc m) main f o h k =
      graph_names_lem f (names_in model n false) (names_in model m false) (λ b i. names_agree n m false b i.1 (omega arith) (omega arith)) main

  -- ---- the whole model

  all_fit : (n : ℕ) → All (Fits 0 (length model)) (all_of n (message model (whole model)))
  unfolding whole
  all_fit n = parts_inside n (whole model)

  main_fits : If (Fits 0 (length model)) (first_of Model-graph (message model (whole model)))
  unfolding first_of
  main_fits = all_first (Fits 0 (length model)) (all_of Model-graph (message model (whole model))) (all_fit Model-graph)

  -- two readings of the main graph that agree
  main_agrees : {A : Type 0} (a : A) (k j : Field → A) → ((g : Field) → Fits 0 (length model) g → k g ≡ j g)
      → ◌≡◌ {A = A} (elim (first_of Model-graph (message model (whole model))) [ none ↦ a | some g ↦ k g ])
      (elim (first_of Model-graph (message model (whole model))) [ none ↦ a | some g ↦ j g ])
  main_agrees {A} a k j agree = go (first_of Model-graph (message model (whole model))) main_fits
    where
      go : (o : Option Field) → If (Fits 0 (length model)) o → ◌≡◌ {A = A} (elim o [ none ↦ a | some g ↦ k g ]) (elim o [ none ↦ a | some g ↦ j g ])
      go none i = refl
      go (some g) i = agree g i

  abbrev functions : List Field
  functions = all_of Model-functions (message model (whole model))

  -- the names of a function whose graphs are read to this bound
  abbrev named : (bound : ℕ) → Field → List Bytes
  named bound = function_names model (λ b. names_in model bound false b)

  module _ (bound : ℕ) (h : length model ≤ bound) where
    main_run : (choices : List ℕ) → run_main model bound choices ≡ run_main model (length model) choices
    unfolding run_main
    main_run choices =
        main_agrees (pass (begin choices)) (run_graph model bound true (begin choices)) (run_graph model (length model) true (begin choices))
        (λ g i. run_agrees bound (length model) true g (omega arith) (omega arith) (begin choices))

    functions_run : (r : Run) → each (run_function model bound) r functions ≡ each (run_function model (length model)) r functions
    functions_run r =
        each_agree (Fits 0 (length model)) (run_function model bound) (run_function model (length model))
        (λ s f i. function_agrees bound (length model) f (omega arith) (omega arith) s) functions (all_fit Model-functions) r

    main_nodes_lem : main_nodes model bound ≡ main_nodes model (length model)
    unfolding main_nodes
    main_nodes_lem = main_agrees [] (nodes_in model bound) (nodes_in model (length model)) (λ g i. nodes_agree bound (length model) g (omega arith) (omega arith))

    functions_nodes : flat_map (function_nodes model bound) functions ≡ flat_map (function_nodes model (length model)) functions
    functions_nodes =
        flat_agree (Fits 0 (length model)) (function_nodes model bound) (function_nodes model (length model))
        (λ f i. function_nodes_lem bound (length model) f (omega arith) (omega arith)) functions (all_fit Model-functions)

    main_names_lem : main_names model bound ≡ main_names model (length model)
    unfolding main_names
    main_names_lem =
        main_agrees [] (names_in model bound true) (names_in model (length model) true)
        (λ g i. names_agree bound (length model) true g i.2 (omega arith) (omega arith))

    functions_names : flat_map (named bound) functions ≡ flat_map (named (length model)) functions
    functions_names =
        flat_agree (Fits 0 (length model)) (named bound) (named (length model))
        (λ f i. function_names_lem f (names_in model bound false) (names_in model (length model) false)
        (λ b j. names_agree bound (length model) false b j.1 (omega arith) (omega arith))) functions (all_fit Model-functions)

  pub run_bound : (bound : ℕ) (choices : List ℕ) → length model ≤ bound → run_to model bound choices ≡ run model choices
  unfolding run run_to each
  run_bound bound choices h = simp (main_run bound h choices, functions_run bound h)

  pub nodes_bound : (bound : ℕ) → length model ≤ bound → nodes_to model bound ≡ node_count model
  unfolding nodes_to node_count
  nodes_bound bound h = simp (main_nodes_lem bound h, functions_nodes bound h)

  pub odd_bound : (bound : ℕ) → length model ≤ bound → odd_to model bound ≡ odd_in model
  unfolding odd_to odd_in
  odd_bound bound h = simp (main_names_lem bound h, functions_names bound h)
