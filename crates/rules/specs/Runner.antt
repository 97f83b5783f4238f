-- Document 01, "The plain runner", and document 02, Req 01: it is fed the model bytes and a list of choices, binds and reads names, "and runs no judge". A
-- graph is first taken for its script, the list of what it does, and a small machine performs the script. Plain runner, choice,
-- body, visit and defining place are document 01's terms; script and action are ours.
use Rattle.std.specs.Prelude.{ℕ, zero, suc, ◌+◌, max, Bool, true, false, not, ◌||◌, length, eqb}
use mathlib.Core.List.{List, [], ◌∷◌, ◌++◌, map, flat_map}
use Rattle.std.proofs.Math.Option.{Option, none, some}
use Rattle.varint.specs.Outcome.{Outcome, pass, fail, ◌>>=◌, each}
use Rattle.wire.specs.declared.Field.{Field}
use Rattle.varint.specs.Lists.{keep}
use Rattle.varint.specs.Bytes.{Bytes, same, member}
use Rattle.wire.specs.Message.{Message, all_of, first_of, number_of, message, whole}
use Rattle.schema.specs.Numbers.{Model-ir_version, Model-graph, Model-functions, Function-input, Function-output, Function-node, Graph-node}
use Rattle.schema.specs.Numbers.{Graph-initializer, Graph-input, Graph-output, Node-input, Node-output, Tensor-name, ValueInfo-name}
use Rattle.rules.specs.Names.{Name, name_of, name_in, inputs_of, bodies_in, Names-computes}

-- ---- the script of a graph

-- What a graph does: it binds or reads a name, or visits a nested body.
pub data Action : Type 0 where
  binds reads : Name → Action
  visits : Field → Action

-- An action on a name that may be left out.
unfoldable pub unless_empty : (Name → Action) → Name → List Action
unless_empty act x = elim x.bytes [ [] ↦ [] | b ∷ more ↦ act x ∷ [] ]

module _ (model : Bytes) where
  -- "for each input, the first initializer that bears its name binds nothing new, and any further one binds a bound name":
  -- `waiting` are the inputs whose first initializer is still to come.
  unfoldable pub initializers : (waiting : List Bytes) → List Field → List Action
  initializers waiting [] = []
  initializers waiting (f ∷ more) =
      let x = name_of model Tensor-name (message model f) in
      elim (member x.bytes waiting) [
        | true ↦ initializers (keep (λ y. not (same x.bytes y)) waiting) more
        | false ↦ binds x ∷ initializers waiting more
      ]

  -- "each node reads its nonempty inputs, visits its bodies in order, .. and binds its nonempty outputs"
  unfoldable pub node_script : Field → List Action
  node_script f =
      let m = message model f in
      flat_map (λ i. unless_empty reads (name_in model i)) (all_of Node-input m)
      ++ map visits (bodies_in model f)
      ++ flat_map (λ o. unless_empty binds (name_in model o)) (all_of Node-output m)

  -- The inputs that wait for one: "in the main graph, for each input"; "a nested default (for each input of that graph ..) as binding
  -- nothing new at IR 3 only", by the ir_version that the model has, wherever it stands.
  unfoldable pub waiting_in : (main : Bool) → (graph : Message) → List Bytes
  waiting_in main g = elim (main || eqb (number_of Model-ir_version (message model (whole model))) 3) [ true ↦ inputs_of model g | false ↦ [] ]

  -- "A graph binds inputs, then initializers (in the main graph, ..); then each node ..; then the graph reads its outputs."
  unfoldable pub script : (main : Bool) → Field → List Action
  script main f =
      let g = message model f in
      map (λ i. binds (name_of model ValueInfo-name (message model i))) (all_of Graph-input g)
      ++ initializers (waiting_in main g) (all_of Graph-initializer g)
      ++ flat_map node_script (all_of Graph-node g)
      ++ map (λ o. reads (name_of model ValueInfo-name (message model o))) (all_of Graph-output g)

  -- "it binds the inputs one by one, runs the nodes and reads the outputs, as for a graph; calls are not unfolded"
  unfoldable pub function_script : Field → List Action
  function_script f =
      let m = message model f in
      map (λ i. binds (name_in model i)) (all_of Function-input m)
      ++ flat_map node_script (all_of Function-node m)
      ++ map (λ o. reads (name_in model o)) (all_of Function-output m)

-- ---- the machine

-- "A read belongs to the field that holds the name read": the place of that field, and the defining place that it found.
pub record Read : Type 0 where
  pub field : ℕ
  pub found : ℕ

-- "The runner stops on reading an unbound or binding a bound name, at the tag of the field that holds that name." Told of a bound
-- name besides: the defining place that was found.
pub data Stop : Type 0 where
  binding : (place found : ℕ) → Stop
  reading : (place : ℕ) → Stop

-- "State: bound names, none at first, each with its defining place", the newest first, and the choices that are left. Told of
-- the run besides: its reads, the latest first, and the most names bound together so far.
pub record Run : Type 0 where
  pub choices : List ℕ
  pub bound : List Name
  pub trace : List Read
  pub most : ℕ

abbrev pub Ran : Type 0
Ran = Outcome Stop Run

-- Before the first action.
unfoldable pub begin : (choices : List ℕ) → Run
begin choices = record { choices = choices; bound = []; trace = []; most = 0 }

-- The defining place of a name.
unfoldable pub find : Bytes → List Name → Option ℕ
find x [] = none
find x (n ∷ more) = elim (same x n.bytes) [ true ↦ some n.place | false ↦ find x more ]

unfoldable pub with_bound : Run → Name → Run
with_bound r x =
    record { choices = r.choices; bound = x ∷ r.bound; trace = r.trace; most = max r.most (length r.bound + 1) }

unfoldable pub with_read : Run → (field found : ℕ) → Run
with_read r field found =
    record { choices = r.choices; bound = r.bound; trace = record { field = field; found = found } ∷ r.trace; most = r.most }

unfoldable pub bind : Run → Name → Ran
bind r x = elim (find x.bytes r.bound) [ none ↦ pass (with_bound r x) | some p ↦ fail (binding x.place p) ]

unfoldable pub read : Run → Name → Ran
read r x = elim (find x.bytes r.bound) [ none ↦ fail (reading x.place) | some p ↦ pass (with_read r x.place p) ]

-- "Each visit to a nested body takes the next number of the list, or 1 when none is left, as its count of runs"
unfoldable pub chosen : List ℕ → ℕ
chosen [] = 1
chosen (c ∷ more) = c

unfoldable pub unchosen : List ℕ → List ℕ
unchosen [] = []
unchosen (c ∷ more) = more

unfoldable pub choose : Run → Run
choose r = record { choices = unchosen r.choices; bound = r.bound; trace = r.trace; most = r.most }

-- "forgetting the body's names after each run"
unfoldable pub forget : (before after : Run) → Run
forget before after = record { choices = after.choices; bound = before.bound; trace = after.trace; most = after.most }

-- "from no bound names"
unfoldable pub unbound : Run → Run
unbound r = record { choices = r.choices; bound = []; trace = r.trace; most = r.most }

-- "running each as often as chosen from the names bound there"
unfoldable pub times : (count : ℕ) → (Run → Ran) → Run → Ran
times zero once r = pass r
times (suc count) once r = once r >>= λ s. times count once (forget r s)

-- One action; `nested` runs a body once.
unfoldable pub perform : (nested : Run → Field → Ran) → Run → Action → Ran
perform nested r (binds x) = bind r x
perform nested r (reads x) = read r x
perform nested r (visits f) = times (chosen r.choices) (λ s. nested s f) (choose r)

module _ (model : Bytes) where
  -- A graph, to `bound` depths.
  unfoldable pub run_graph : (bound : ℕ) → (main : Bool) → Run → Field → Ran
  run_graph zero main r f = pass r
  run_graph (suc bound) main r f = each (perform (λ s g. run_graph bound false s g)) r (script model main f)

  -- A function by itself; the graphs inside it to `bound` depths.
  unfoldable pub run_function : (bound : ℕ) → Run → Field → Ran
  run_function bound r f = each (perform (λ s g. run_graph bound false s g)) (unbound r) (function_script model f)

  unfoldable pub run_main : (bound : ℕ) → (choices : List ℕ) → Ran
  run_main bound choices = elim (first_of Model-graph (message model (whole model))) [
    | none ↦ pass (begin choices)
    | some g ↦ run_graph bound true (begin choices) g
  ]

  -- "after the main graph the runner runs each body alone, in list order": with what is left of the choices.
  unfoldable pub run_to : (bound : ℕ) → (choices : List ℕ) → Ran
  run_to bound choices = do
    r ← run_main bound choices
    each (run_function bound) r (all_of Model-functions (message model (whole model)))

  -- A graph is longer than one inside it, so the length of the model is bound enough.
  unfoldable pub run : (choices : List ℕ) → Ran
  run choices = run_to (length model) choices

-- This file and what it is built on, for whoever computes with it.
unfoldable pub Runner-computes : Unit {0}
unfolding Names-computes unless_empty initializers node_script waiting_in script function_script begin find with_bound with_read bind read chosen unchosen choose forget unbound times perform run_graph run_function run_main run_to run
Runner-computes = tt
