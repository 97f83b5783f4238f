-- The judge and the run that enters every body once go in step, function by function: both begin with no name.
use Prim.Native.Nat.{ℕ, ◌+◌}
use mathlib.Core.Path.{◌≡◌, refl, ◌∙◌}
use mathlib.Core.Bool.{Bool, false, not}
use Rattle.varint.specs.Outcome.{pass, ◌>>=◌, each, Judged, refuse◌at:◌when:◌}
use Rattle.wire.specs.declared.Field.{Field}
use Rattle.varint.specs.Lists.{contains}
use Rattle.varint.specs.Bytes.{Bytes}
use Rattle.wire.specs.Message.{all_of, number_of, message, whole}
use Rattle.varint.proofs.Tells.{Any}
use Rattle.schema.specs.Numbers.{Model-ir_version, Function-input, Function-output, Function-node}
use Rattle.rules.specs.Names.{name_in}
use Rattle.rules.specs.Walk.{Context, nested_in, Walk, start, with_tested, leaving, afresh, along, visible}
use Rattle.rules.specs.Node.{node}
use Rattle.rules.specs.Graph.{graph}
use Rattle.rules.specs.Function.{function_input, function_output, Heading, Functions, function_head, function_body, function}
use Rattle.rules.specs.Runner.{binds, reads, node_script, function_script, Run, Ran, read, unbound, perform, run_graph, run_function}
use Rattle.rules.proofs.FunctionRules.{Function-refusals, Headed, head_tells}
use Rattle.rules.proofs.Matching.{Matches, told_among, told_matches, bind_matches, after_matches, then_matches, each_matches}
use Rattle.rules.proofs.Matching.{bind_assoc, each_append, each_map, each_flat}
use Rattle.rules.proofs.InStep.{InStep, InStepAlong, in_step_adds, define_matches, read_matches, naming_matches}
use Rattle.rules.proofs.Lockstep.{Versioned, nodes_match, depths_match}

abbrev pub InStepFunctions : Functions → Run → Type 0
InStepFunctions w r = InStep w.walk r

module _ (model list : Bytes) (full : ℕ → Bool) where
  -- ---- one level: `J` judges and `K` runs the graphs further in

  module _ (c : Context) (version : Versioned model c) (J : Walk → Field → Judged Walk) (K : Run → Field → Ran)
      (nest : (w : Walk) (r : Run) (f : Field) → InStep w r → Matches InStep (J w f) (K r f)) where
    input_matches : (w : Walk) (r : Run) (f : Field) → InStep w r → Matches InStep (function_input model full w f) (perform K r (binds (name_in model f)))
    unfolding function_input perform with_tested
    input_matches w r f h =
        naming_matches InStep w (name_in model f) _ _ 22 (λ p. refl) (define_matches full (with_tested w (name_in model f)) (name_in model f) r h)

    output_matches : (w : Walk) (r : Run) (f : Field) → InStep w r → Matches InStep (function_output model w f) (perform K r (reads (name_in model f)))
    unfolding function_output perform with_tested
    output_matches w r f h =
        let x = name_in model f in
        naming_matches InStep w x _ _ 22 (λ p. refl)
        (then_matches (InStep (with_tested w x)) InStep (refuse 35 at: x.place when: not (visible x.bytes w.scope)) (pass (with_tested w x)) (read r x)
        (read_matches 35 (with_tested w x) x r (λ p. refl) h) (λ s k. (s, refl, k)))

    body_script : (r : Run) (f : Field) → each (perform K) r (function_script model f) ≡ (
        each (λ s i. perform K s (binds (name_in model i))) r (all_of Function-input (message model f)) >>= λ s.
        each (λ s n. each (perform K) s (node_script model n)) s (all_of Function-node (message model f)) >>= λ t.
        each (λ s o. perform K s (reads (name_in model o))) t (all_of Function-output (message model f)))
    unfolding function_script
    body_script r f = simp (each_append, each_flat, each_map, bind_assoc)

    body_matches : (w : Walk) (r : Run) (f : Field) → InStep w r
        → Matches InStep (function_body model full c J w (message model f)) (each (perform K) r (function_script model f))
    unfolding function_body along
    body_matches w r f h = rw body_script
        (let m = message model f in
        bind_matches InStep InStep (each (function_input model full) w (all_of Function-input m)) _ _ _
        (each_matches InStep (function_input model full) (λ s i. perform K s (binds (name_in model i)))
        (λ v s i k. input_matches v s i k) (all_of Function-input m) w r h)
        (λ i s k. bind_matches InStepAlong InStep (each (node model full c J) (along i) (all_of Function-node m)) _ _ _
        (nodes_match model full c version J K nest (all_of Function-node m) (along i) s k)
        (λ n t k. each_matches InStep (function_output model) (λ s o. perform K s (reads (name_in model o)))
        (λ v s o k. output_matches v s o k) (all_of Function-output m) n.walk t k)))

  -- ---- functions, one after the other

  -- the runner has as many depths as the judge, or more
  pub function_matches : (left more v : ℕ) → v ≡ number_of Model-ir_version (message model (whole model)) → (w : Functions) (r : Run) (f : Field)
      → InStepFunctions w r
      → Matches InStepFunctions (function model list full left v w f) (run_function model (more + left) r f)
  unfolding function run_function afresh leaving start unbound nested_in contains
  function_matches left more v e w r f h =
      let m = message model f in
      let R : Heading → Type 0 = Headed model v (afresh w.walk) m in
      let head = function_head model list v w.earlier (afresh w.walk) m in
      told_matches R InStepFunctions head _ _
      (told_among R Any Function-refusals head (tt, tt, tt) (head_tells model list v w.earlier (afresh w.walk) m)) (λ t a.
      after_matches InStep InStepFunctions _ (run_function model (more + left) r f) _
      (body_matches t.around (a.2 ∙ e) (graph model full left (nested_in t.around)) (run_graph model (more + left) false)
      (λ u s g k. depths_match model full left more (nested_in t.around) (a.2 ∙ e) u s g k) t.walk (unbound r) f
      (in_step_adds (afresh w.walk) t.walk _ (unbound r) (refl, h.1, h.2) a.0))
      (λ b s k. (s, refl, k)))
