-- The body of a function, part by part.
use Rattle.varint.specs.Answers.{Answer}
use Rattle.std.specs.Prelude.{Err, Ok}
use Prim.Native.Nat.{ℕ, ◌+◌, ◌≤◌}
use native.Mathlib.Omega.{arith}
use mathlib.Core.Path.{◌≡◌, refl, sym, ap, subst, ◌∙◌}
use mathlib.Core.Bool.{Bool, false}
use mathlib.Core.List.{List, [], ◌∷◌, ◌++◌, flat_map}
use lib.ListN.{length, length-append}
use Rattle.varint.specs.Outcome.{pass, ◌>>=◌, each, Judged}
use Rattle.varint.specs.declared.Refusal.{Refusal}
use Rattle.varint.proofs.Answers.{says}
use Rattle.varint.proofs.Passing.{passed_tells}
use Rattle.varint.proofs.Tells.{Tells, Any, tells_bind, tells_weaken}
use Rattle.wire.specs.declared.Field.{Field}
use Rattle.varint.specs.Bytes.{Bytes}
use Rattle.wire.specs.Answers.{contents_of}
use Rattle.wire.specs.Message.{all_of, message}
use Rattle.wire.proofs.Along.{all_from, along_contents}
use Rattle.schema.specs.Numbers.{Function-input, Function-output, Function-node}
use Rattle.schema.specs.declared.Kind.{Kind}
use Rattle.wire.specs.Message.{text}
use Rattle.rules.specs.Walk.{Walk}
use Rattle.rules.specs.Function.{function_input, function_output}
use Rattle.rules.specs.Count.{odds, node_names, names_in}
use Rattle.rules.specs.Verdict.{fills}
use Rattle.rules.proofs.Counting.{Grew, names_each}
use Rattle.rules.proofs.FunctionCounting.{grew_function_input, grew_function_output}
use Rattle.rules.proofs.NamesFew.{odds_few}
use Rattle.values.specs.Answers.{tally_says, Addable}
use Rattle.values.proofs.TallyLaws.{tally_few, addable}
use Rattle.scope.specs.Scope.{scope_in, walk_in, step_says, counting, Countable, grows, Enters, counted, Keeps}
use Rattle.scope.proofs.ScopeLaws.{keeps_fewer, keeps_then}
use Rattle.scope.proofs.StepLaws.{counting_says, grew_few}
use Rattle.scope.specs.declared.scopes.Progress.{Progress}
use Rattle.messages.specs.Around.{inside}
use Rattle.messages.specs.Again.{field_names, node_again}
use Rattle.messages.specs.declared.contexts.Surroundings.{Surroundings}
use Rattle.parts.proofs.OpeningLaws.{grows_then}
use Rattle.nodes.proofs.NodeCounts.{seeing}
use Rattle.cycle.proofs.CountLaws.{AtMost, each_most, node_most, again_most}
use Rattle.cycle.proofs.PromiseLaws.{Promised, refusing, refused_bind, counting_more, counting_counts, used_more}
use Rattle.cycle.proofs.AttributeLaws.{Nested}
use Rattle.functions.specs.Function.{body_names, nodes_again, body_again}

-- ---- the loop over its nodes

pub nodes_by : (model : Bytes) (size left : ℕ) (s : Surroundings) (w : Walk) (f : Field)
    → each (node_again model (fills size) (Nested model left s size) s f) w (all_from model Function-node f.next f.start) ≡ nodes_again model (fills size) left s w f
unfolding nodes_again contents_of
nodes_by model size left s w f = along_contents model Function-node _ _ f refl

pub nodes_countable : (model : Bytes) (left : ℕ) (p : Progress) (f : Field)
    → Countable p (flat_map (node_names model (names_in model left false)) (all_of Function-node (message model f)))
    → Countable p (flat_map (node_names model (names_in model left false)) (all_from model Function-node f.next f.start))
unfolding all_from all_of message
nodes_countable model left p f h = h

-- ---- what is counted: no more than there are names

module _ (model : Bytes) where
  pub body_names_lem : (inner : Field → List Bytes) (f : Field) → length (body_names model inner f)
      ≡ length (flat_map (field_names model) (all_of Function-input (message model f)))
      + length (flat_map (node_names model inner) (all_of Function-node (message model f)))
      + length (flat_map (field_names model) (all_of Function-output (message model f)))
  unfolding body_names
  body_names_lem inner f =
      let m = message model f in
      let ins : List Bytes = flat_map (field_names model) (all_of Function-input m) in
      let nodes : List Bytes = flat_map (node_names model inner) (all_of Function-node m) in
      let outs : List Bytes = flat_map (field_names model) (all_of Function-output m) in
      let a = length-append (ins ++ nodes) outs in
      let b = length-append ins nodes in
      omega arith

  inputs_grew : (full : ℕ → Bool) (l : List Field) (w : Walk)
      → Tells (Grew w 0 (odds (flat_map (field_names model) l))) Any (each (function_input model full) w l)
  unfolding field_names
  inputs_grew full l w = names_each (λ v. v) (λ f. text model f ∷ []) (function_input model full) (grew_function_input model full) l w

  outputs_grew : (l : List Field) (w : Walk) → Tells (Grew w 0 (odds (flat_map (field_names model) l))) Any (each (function_output model) w l)
  unfolding field_names
  outputs_grew l w = names_each (λ v. v) (λ f. text model f ∷ []) (function_output model) (grew_function_output model (λ _. false)) l w

  nodes_most : (full : ℕ → Bool) (left : ℕ) (s : Surroundings) (w : Walk) (f : Field)
      → AtMost w (length (flat_map (node_names model (names_in model left false)) (all_of Function-node (message model f)))) (nodes_again model full left s w f)
  unfolding nodes_again inside
  nodes_most full left s w f =
      each_most (node_names model (names_in model left false)) (node_again model full _ s f)
      (node_most model full _ (names_in model left false) (again_most model full left (inside s)) s f) (all_of Function-node (message model f)) w

  pub body_most : (full : ℕ → Bool) (left : ℕ) (s : Surroundings) (w : Walk) (f : Field)
      → AtMost w (length (body_names model (names_in model left false) f)) (body_again model full left s w f)
  unfolding body_again
  body_most full left s w f =
      let m = message model f in
      let R : Walk → Type 0 = λ v. v.odd ≤ w.odd + length (body_names model (names_in model left false) f) in
      let ins = flat_map (field_names model) (all_of Function-input m) in
      let outs = flat_map (field_names model) (all_of Function-output m) in
      let n = body_names_lem (names_in model left false) f in
      tells_bind (λ v. v.odd ≤ w.odd + length ins) R Any (each (function_input model full) w (all_of Function-input m)) _
      (grew_few w 0 ins (each (function_input model full) w (all_of Function-input m)) (inputs_grew full (all_of Function-input m) w)) (λ i h.
      tells_bind (λ v. v.odd ≤ i.odd + length (flat_map (node_names model (names_in model left false)) (all_of Function-node m))) R Any (nodes_again model full left s i f) _
      (nodes_most full left s i f) (λ u k.
      tells_weaken (λ v. v.odd ≤ u.odd + length outs) R Any Any (each (function_output model) u (all_of Function-output m)) (λ v j. omega arith) (λ r _. tt)
      (grew_few u 0 outs (each (function_output model) u (all_of Function-output m)) (outputs_grew (all_of Function-output m) u))))

-- ---- the body: b is the step of its inputs, with the cells `later`

module _ (model : Bytes) (left : ℕ) (s : Surroundings) (cells : List ℕ) (p : Progress) (f : Field) where
  abbrev Body : Judged Walk
  Body = body_again model (fills (length cells)) left s (walk_in model cells p) f

  abbrev Inputs : Judged Walk
  Inputs = each (function_input model (fills (length cells))) (walk_in model cells p) (all_of Function-input (message model f))

  Outputs : Walk → Judged Walk
  Outputs n = each (function_output model) n (all_of Function-output (message model f))

  Rest : Walk → Judged Walk
  Rest w = nodes_again model (fills (length cells)) left s w f >>= Outputs

  body_by : (Inputs >>= Rest) ≡ Body
  unfolding body_again Rest Outputs
  body_by = refl

  pub inputs_countable : Countable p (body_names model (names_in model left false) f) → Countable p (flat_map (field_names model) (all_of Function-input (message model f)))
  unfolding Countable
  inputs_countable room = let n = body_names_lem model (names_in model left false) f in omega arith

  module _ (later : List ℕ) (b : Answer Progress) (bound : step_says model later b ≡ Inputs) (more : grows p b) (kept : Keeps p.used cells later) where
    pub body_unbound : {x : Refusal} → b ≡ Err x → Promised model Body cells later p f b
    body_unbound k = refusing model p k (refused_bind model later Rest bound k ∙ body_by) kept

    module _ {q : Progress} (k : b ≡ Ok q) where
      bound_to : Inputs ≡ pass (walk_in model later q)
      unfolding step_says
      bound_to = sym (says (step_says model later) bound k)

      -- inputs are no nodes
      still : (q.nodes ≡ p.nodes) × (q.odd ≤ p.odd + length (flat_map (field_names model) (all_of Function-input (message model f))))
      unfolding walk_in
      still =
          let l = all_of Function-input (message model f) in
          let g = passed_tells _ Any Inputs (walk_in model later q) (inputs_grew model (fills (length cells)) l (walk_in model cells p)) bound_to in
          let few = odds_few (flat_map (field_names model) l) in
          (omega arith, omega arith)

      pub body_enters : {kind : Kind} → Enters model kind p f → Enters model kind q f
      body_enters n = record { short = n.short; walked = n.walked; tagged = n.tagged; ends = n.ends; few = (let few = n.few in let same = still.0 in omega arith) }

      pub body_nodes_countable : Countable p (body_names model (names_in model left false) f)
          → Countable q (flat_map (node_names model (names_in model left false)) (all_of Function-node (message model f)))
      unfolding Countable
      body_nodes_countable room = let n = body_names_lem model (names_in model left false) f in let odd = still.1 in omega arith

      rest_by : (nodes_again model (fills (length later)) left s (walk_in model later q) f >>= Outputs) ≡ Body
      unfolding Rest ◌>>=◌
      rest_by =
          ap (λ (size : ℕ). nodes_again model (fills size) left s (walk_in model later q) f >>= Outputs) kept.size
          ∙ ap (λ (o : Judged Walk). o >>= Rest) (sym bound_to)
          ∙ body_by

      -- r is the step of its nodes, with the cells `last`
      module _ (last : List ℕ) (r : Answer Progress) (ran : step_says model last r ≡ nodes_again model (fills (length later)) left s (walk_in model later q) f)
          (on : grows q r) (count : counted f q r) (held : Keeps q.used later last) where
        all_kept : Keeps p.used cells last
        all_kept = keeps_then kept (keeps_fewer (used_more p q (subst (grows p) k more)) held)

        pub body_stops : {x : Refusal} → r ≡ Err x → Promised model Body cells last p f r
        body_stops i = refusing model p i (refused_bind model last Outputs ran i ∙ rest_by) all_kept

        -- t is the tally of its outputs
        module _ {u : Progress} (i : r ≡ Ok u) (t : Answer ℕ)
            (ruled : (w : Walk) → w.scope ≡ scope_in model last u.used → tally_says w t ≡ each (function_output model) w (all_of Function-output (message model f))) where
          ran_to : nodes_again model (fills (length later)) left s (walk_in model later q) f ≡ pass (walk_in model last u)
          unfolding step_says
          ran_to = sym (says (step_says model last) ran i)

          pub body_fits : Countable p (body_names model (names_in model left false) f) → Addable u.odd t
          unfolding Countable walk_in
          body_fits room =
              let l = all_of Function-output (message model f) in
              let names = flat_map (field_names model) l in
              let n = body_names_lem model (names_in model left false) f in
              let odd = still.1 in
              let nodes = passed_tells _ Any _ (walk_in model last u) (nodes_most model (fills (length later)) left s (walk_in model later q) f) ran_to in
              let w = seeing (scope_in model last u.used) in
              addable u.odd t u.odd (length names) (omega arith)
              (λ k e. tally_few w (ruled w refl) names (Grew w 0 (odds names)) (λ v a. a.1) (outputs_grew model l w) e) (omega arith)

          pub body_done : {b : Answer Progress} → b ≡ counting u t → Promised model Body cells last p f b
          unfolding Outputs walk_in ◌>>=◌ counted
          body_done {b} j =
              let few : u.nodes + f.place ≤ q.nodes + f.next = rw i at count in
              let same = still.0 in
              let at_most : u.nodes + f.place ≤ p.nodes + f.next = omega arith in
              record {
                answer = ap (step_says model last) j
                    ∙ counting_says model last u t
                    ∙ ruled (walk_in model last u) refl
                    ∙ ap (λ (o : Judged Walk). o >>= Outputs) (sym ran_to)
                    ∙ rest_by;
                grown = rw j (counting_more p u t (grows_then p q (Ok u) (subst (grows p) k more) (subst (grows q) i on)));
                counts = rw j (counting_counts f p u t at_most);
                kept = all_kept;
              }
