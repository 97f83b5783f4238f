-- The demands, from their parts: Lockstep and FunctionLockstep (judge beside runner), Choices, Traces, Bounds, Depth, FunctionCounting.
use Prim.Native.Nat.{ℕ, ◌+◌}
use native.Mathlib.Omega.{arith}
use mathlib.Core.Path.{◌≡◌, refl, sym, ap, ◌∙◌}
use mathlib.Core.Bool.{Bool, true, not}
use mathlib.Core.List.Memᴰ
use mathlib.Core.List.{List, []}
use mathlib.Core.Option.{Option, none, some}
use lib.ListN.{length}
use lib.Dec.{ltb}
use Rattle.varint.specs.Outcome.{pass, each, refuse◌at:◌when:◌}
use Rattle.wire.specs.declared.Field.{Field}
use Rattle.varint.specs.Lists.{contains}
use Rattle.varint.specs.Bytes.{Bytes}
use Rattle.wire.specs.Message.{all_of, first_of, number_of, message, whole}
use Rattle.varint.proofs.Tells.{Any, any_all}
use Rattle.varint.proofs.Passing.{pass_same, passed_bind, passed_seq, passed_tells}
use Rattle.wire.proofs.Fields.{fields_bound}
use Rattle.operators.specs.Operators.{sound}
use Rattle.operators.proofs.Entries.{entries_bound}
use Rattle.schema.specs.Numbers.{Model-ir_version, Model-graph, Model-functions}
use Rattle.schema.specs.FirstWalk.{first_walk}
use Rattle.schema.proofs.Bound.{walk_bound}
use Rattle.schema.proofs.Refusals.{FirstWalk-refusals, first_walk_tells}
use Rattle.rules.specs.Walk.{start}
use Rattle.rules.specs.Function.{functions, function}
use Rattle.rules.specs.Header.{in_model, header, second_walk_to, second_walk}
use Rattle.rules.specs.Verdict.{LARGEST, Counts, counts, fills, verdict}
use Rattle.rules.specs.Runner.{Run, begin, run_graph, run_function, run_main, run_to, run}
use Rattle.rules.specs.Demands.{Faithful, Demand3, CountsTrue, BoundsNeverDecide}
use Rattle.rules.proofs.Rules.{Header-refusals, header_tells}
use Rattle.rules.proofs.Matching.{Matches, Quiet, quiet_among, quiet_rule, quiet_matches, quiet_then, bind_matches, after_matches, each_matches}
use Rattle.rules.proofs.InStep.{InStep}
use Rattle.rules.proofs.MainGraph.{main_graph}
use Rattle.rules.proofs.Lockstep.{depths_match}
use Rattle.rules.proofs.FunctionLockstep.{InStepFunctions, function_matches}
use Rattle.rules.proofs.Choices.{Follows, Sub, follows_run}
use Rattle.rules.proofs.Traces.{functional}
use Rattle.rules.proofs.Bounds.{run_bound, nodes_bound, odd_bound}
use Rattle.rules.proofs.Depth.{second_bound}
use Rattle.rules.proofs.FunctionCounting.{Plain, second_counts}

pub bounds_never_decide : BoundsNeverDecide
bounds_never_decide = record {
  of_fields = fields_bound;
  of_entries = entries_bound;
  of_first_walk = walk_bound;
  of_second_walk = second_bound;
  of_run = run_bound;
  of_nodes = nodes_bound;
  of_odd = odd_bound;
}

-- ---- the whole judge beside the run that enters every body once

module _ (model list : Bytes) where
  quiet_header : Quiet (header model list (message model (whole model)))
  unfolding contains
  quiet_header = quiet_among Any Any Header-refusals (header model list (message model (whole model))) (tt, tt, tt)
      (header_tells model Any Any (λ f g. tt) (λ f g. any_all (message model f).fields) list (message model (whole model)) (tt, any_all (message model (whole model)).fields))

  quiet_first : Quiet (first_walk model)
  unfolding contains
  quiet_first = quiet_among Any _ FirstWalk-refusals (first_walk model) (tt, tt, tt) (first_walk_tells model)

  main_matches : (full : ℕ → Bool) (imports : List Bytes)
      → Matches InStep (main_graph model full 8 (in_model (message model (whole model)) imports) (first_of Model-graph (message model (whole model))))
      (run_main model (length model + 8) [])
  unfolding in_model run_main start begin
  main_matches full imports = go (first_of Model-graph (message model (whole model)))
    where
      go : (o : Option Field) → Matches InStep (main_graph model full 8 (in_model (message model (whole model)) imports) o)
          (elim o [ none ↦ pass (begin []) | some g ↦ run_graph model (length model + 8) true (begin []) g ])
      go none = tt
      go (some g) = depths_match model full 8 (length model) (in_model (message model (whole model)) imports) refl start (begin []) g (refl, refl, refl)

  -- the functions after it: they have a depth less, of which the runner has enough
  second_matches : (full : ℕ → Bool) → Matches InStep (second_walk model list full) (run model [])
  unfolding second_walk second_walk_to run_to functions
  second_matches full = rw (← (run_bound model (length model + 8) [] (omega arith)))
      (let m = message model (whole model) in
      let v = number_of Model-ir_version m in
      let bound : length model + 1 + 7 ≡ length model + 8 = omega arith in
      quiet_matches InStep (header model list m) _ _ quiet_header (λ imports.
      bind_matches InStep InStep _ (run_main model (length model + 8) []) _ _ (main_matches full imports) (λ w r h.
      after_matches InStepFunctions InStep (each (function model list full 7 v) (functions w) (all_of Model-functions m)) _ _
      (each_matches InStepFunctions (function model list full 7 v) (run_function model (length model + 8))
      (λ u s f k. rw bound at (function_matches model list full 7 (length model + 1) v refl u s f k)) (all_of Model-functions m) (functions w) r h)
      (λ f s k. (s, refl, k)))))

  -- an acceptance counts the names that the run had bound together
  abbrev Counted : Counts → Run → Type 0
  Counted c r = c.names ≡ r.most

  verdict_matches : (cells : ℕ) → Matches Counted (verdict model list cells) (run model [])
  unfolding verdict counts
  verdict_matches cells =
      quiet_then Counted (refuse 7 at: _ when: _) _ _ (quiet_rule 7 _ _ refl)
      (quiet_then Counted (refuse 8 at: _ when: _) _ _ (quiet_rule 8 _ _ refl)
      (quiet_then Counted (first_walk model) _ _ quiet_first
      (after_matches InStep Counted (second_walk model list (fills cells)) (run model []) _ (second_matches (fills cells)) (λ w r h. (r, refl, h.2)))))

-- ---- demand 3

module _ (model list : Bytes) (cells : ℕ) where
  -- of an accepted model the run with no choices ends, with the names counted
  plain : (c : Counts) → verdict model list cells ≡ pass c → (r : Run) × (run model [] ≡ pass r) × (c.names ≡ r.most)
  plain c e = rw e at (verdict_matches model list cells)

  follows : (choices : List ℕ) (r₀ : Run) → run model [] ≡ pass r₀ → Follows [] [] (pass r₀) (run model choices)
  follows choices r₀ e = rw e at (follows_run model choices)

  -- every read of every run is one of the run with no choices
  among_plain : (choices : List ℕ) (r₀ r : Run) → run model [] ≡ pass r₀ → run model choices ≡ pass r → Sub r.trace r₀.trace
  among_plain choices r₀ r e e' =
      let m = follows choices r₀ e in
      let q = m.1 in
      let same : m.0 ≡ r = cc in
      rw same at (m.4 r₀.trace (λ x h. h) (λ x h. absurd (Memᴰ.not-nil h)))

  faithful : Faithful model list cells
  faithful = record {
    ends = λ c e choices. let r₀ = plain c e in let m = follows choices r₀.0 r₀.1 in (m.0, m.1);
    agrees = λ c e choices₁ choices₂ r₁ r₂ e₁ e₂ x₁ x₂ m₁ m₂ q.
        let r₀ = plain c e in
        functional model r₀.0 r₀.1 x₁ x₂ (among_plain choices₁ r₀.0 r₁ r₀.1 e₁ x₁ m₁) (among_plain choices₂ r₀.0 r₂ r₀.1 e₂ x₂ m₂) q;
    stops_binding = λ p first e. rw e at (verdict_matches model list cells);
    stops_reading = λ p e. rw e at (verdict_matches model list cells);
    stops_output = λ p e. rw e at (verdict_matches model list cells);
  }

pub demand3 : Demand3
unfolding Demand3
demand3 model list cells = faithful model list cells

-- ---- the counts

pub counts_true : CountsTrue
unfolding CountsTrue verdict counts
counts_true model list cells c e =
    let a = passed_seq (refuse 7 at: 0 when: ltb LARGEST (length model)) _ c e in
    let b = passed_seq (refuse 8 at: 0 when: not (sound list)) _ c a.1 in
    let d = passed_seq (first_walk model) _ c b.1 in
    let w = passed_bind (second_walk model list (fills cells)) (λ w. pass (counts w)) c d.1 in
    let q : counts w.0 ≡ c = pass_same (counts w.0) c w.2 in
    let n = passed_tells (Plain model) Any (second_walk model list (fills cells)) w.0 (second_counts model list (fills cells)) w.1 in
    (ap (λ (k : Counts). k.nodes) (sym q) ∙ n.0, plain model list cells c e, ap (λ (k : Counts). k.odd) (sym q) ∙ n.1)
