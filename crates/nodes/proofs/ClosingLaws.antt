-- A node after its attributes: outputs, and the count.
use Rattle.std.specs.Prelude.{Err, Ok}
use Rattle.varint.specs.Answers.{Answer}
use Prim.Native.Nat.{ℕ, ◌+◌, ◌≤◌}
use native.Mathlib.Omega.{arith}
use mathlib.Core.Path.{◌≡◌, sym, ap, ◌∙◌}
use mathlib.Core.Bool.{Bool, true, false, not}
use mathlib.Core.List.{List, flat_map}
use lib.ListN.{length}
use Rattle.varint.specs.Outcome.{pass, ◌>>=◌, each, Judged, refused}
use Rattle.varint.specs.declared.Refusal.{Refusal}
use Rattle.wire.specs.declared.Field.{Field}
use Rattle.varint.specs.Lists.{is_empty, present}
use Rattle.varint.specs.Bytes.{Bytes}
use Rattle.wire.specs.Message.{all_of, first_of, message}
use Rattle.varint.proofs.Tells.{Any}
use Rattle.varint.proofs.Lists.{no_first}
use Rattle.varint.proofs.Passing.{pass_same, passed_tells, passed_bind, passed_seq}
use Rattle.varint.proofs.Answers.{says}
use Rattle.varint.proofs.Refusing.{when_broken, when_kept}
use Rattle.schema.specs.Numbers.{Node-output}
use Rattle.rules.specs.Walk.{Walk, with_node}
use Rattle.rules.specs.Count.{odds}
use Rattle.rules.specs.Node.{node_output}
use Rattle.scope.specs.Scope.{walk_in, step_says}
use Rattle.messages.specs.Again.{field_names, closing}
use Rattle.scope.specs.declared.scopes.Progress.{Progress}
use Rattle.rules.proofs.Counting.{Grew, names_each, grew_node_output}
use Rattle.rules.proofs.NamesFew.{odds_few}

-- no output counts a node, and none more odd names than it has names
module _ (model : Bytes) (full : ℕ → Bool) where
  outputs_grew : (w : Walk) (l : List Field) (v : Walk) → each (node_output model full) w l ≡ pass v → Grew w 0 (odds (flat_map (field_names model) l)) v
  unfolding field_names
  outputs_grew w l v =
      passed_tells (Grew w 0 (odds (flat_map (field_names model) l))) Any (each (node_output model full) w l) v
      (names_each (λ u. u) (field_names model) (node_output model full) (grew_node_output model full) l w)

  pub outputs_stay : (w : Walk) (l : List Field) (v : Walk) → each (node_output model full) w l ≡ pass v → v.nodes ≡ w.nodes
  outputs_stay w l v e = let g = (outputs_grew w l v e).0 in omega arith

module _ (model : Bytes) (full : ℕ → Bool) (w : Walk) (f : Field) where
  abbrev Outputs : Judged Walk
  Outputs = each (node_output model full) w (all_of Node-output (message model f))

  Counted : Judged Walk → Judged Walk
  Counted o = o >>= λ v. pass (with_node v)

  module _ {b : Bool} (i : b ≡ present (first_of Node-output (message model f))) where
    lacks : is_empty (all_of Node-output (message model f)) ≡ not b
    unfolding first_of
    lacks = no_first (all_of Node-output (message model f)) ∙ ap not (sym i)

    pub closing_none : b ≡ false → refused 34 f.place ≡ closing model full w f
    unfolding closing Counted
    closing_none h = sym (when_broken 34 f.place (Counted Outputs) (lacks ∙ ap not h))

    module _ (h : b ≡ true) (later : List ℕ) (s : Answer Progress) (put : step_says model later s ≡ Outputs) where
      closing_by : Counted Outputs ≡ closing model full w f
      unfolding closing Counted
      closing_by = sym (when_kept 34 f.place (Counted Outputs) (lacks ∙ ap not h))

      pub closing_stops : {x : Refusal} → s ≡ Err x → step_says model later s ≡ closing model full w f
      unfolding step_says Counted ◌>>=◌
      closing_stops k = ap (step_says model later) k ∙ ap Counted (says (step_says model later) put k) ∙ closing_by

      module _ {q : Progress} (k : s ≡ Ok q) where
        pub closing_went : step_says model later (Ok (record { used = q.used; nodes = q.nodes + 1; most = q.most; odd = q.odd })) ≡ closing model full w f
        unfolding step_says Counted walk_in with_node ◌>>=◌
        closing_went = ap Counted (says (step_says model later) put k) ∙ closing_by

        -- the outputs count no node
        pub closing_still : q.nodes ≡ w.nodes
        unfolding step_says walk_in
        closing_still = outputs_stay model full w (all_of Node-output (message model f)) (walk_in model later q) (sym (says (step_says model later) put k))

  -- one node is counted, and no more odd names than there are outputs
  module _ (v : Walk) (e : closing model full w f ≡ pass v) where
    pub closing_counts : v.nodes ≡ w.nodes + 1
    unfolding closing with_node
    closing_counts =
        let p = passed_bind Outputs (λ u. pass (with_node u)) v (passed_seq _ _ v e).1 in
        let k = outputs_stay model full w (all_of Node-output (message model f)) p.0 p.1 in
        let l : p.0.nodes + 1 ≡ v.nodes = ap (λ (u : Walk). u.nodes) (pass_same (with_node p.0) v p.2) in
        omega arith

    pub closing_odd : v.odd ≤ w.odd + length (flat_map (field_names model) (all_of Node-output (message model f)))
    unfolding closing with_node
    closing_odd =
        let p = passed_bind Outputs (λ u. pass (with_node u)) v (passed_seq _ _ v e).1 in
        let k = (outputs_grew model full w (all_of Node-output (message model f)) p.0 p.1).1 in
        let l : p.0.odd ≡ v.odd = ap (λ (u : Walk). u.odd) (pass_same (with_node p.0) v p.2) in
        let few = odds_few (flat_map (field_names model) (all_of Node-output (message model f))) in
        omega arith
