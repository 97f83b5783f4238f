-- The header and the main graph, in the order of the code's tests.
use Rattle.std.specs.Prelude.{Err, None, Ok, Some}
use Rattle.varint.specs.Answers.{Answer, outcome_of}
use Prim.Native.Nat.{ℕ, ◌^◌, ◌≤◌, ◌<◌}
use native.Mathlib.Omega.{arith}
use mathlib.Core.Path.{◌≡◌, refl, sym, ap, subst, ◌∙◌}
use mathlib.Core.Bool.{Bool, true}
use mathlib.Core.List.{List, []}
use mathlib.Core.Option.{Option, none, some}
use lib.ListN.{length, drop}
use Rattle.varint.specs.Outcome.{pass, fail, ◌>>=◌, Judged, refused}
use Rattle.varint.specs.Bytes.{Bytes}
use Rattle.varint.specs.declared.Refusal.{Refusal}
use Rattle.varint.proofs.Lists.{first_here}
use Rattle.varint.proofs.Passing.{passed_tells, fail_no_pass}
use Rattle.varint.proofs.Tells.{Any}
use Rattle.wire.specs.Wire.{field}
use Rattle.wire.specs.Message.{all_of, first_of, number_of, message, whole}
use Rattle.wire.specs.Answers.{sought_says, found_in, Sought}
use Rattle.wire.specs.declared.Field.{Field}
use Rattle.wire.specs.declared.Cursor.{Cursor}
use Rattle.wire.proofs.Reading.{Fits, AtTag, field_tells}
use Rattle.wire.proofs.MessageLaws.{missing, found, first_read}
use Rattle.schema.specs.declared.Kind.TheVariants.{Model, Graph}
use Rattle.schema.specs.Numbers.{Model-ir_version, Model-graph, Model-opset_import, Graph-node}
use Rattle.schema.specs.FirstWalk.{first_walk}
use Rattle.schema.specs.Opened.{Walked}
use Rattle.schema.specs.Answers.{silent}
use Rattle.schema.proofs.Opened.{walked_inner, walked_whole, model_graph}
use Rattle.rules.specs.Walk.{Walk, start}
use Rattle.rules.specs.Graph.{graph}
use Rattle.rules.specs.Count.{names_in}
use Rattle.rules.specs.Header.{in_model, header}
use Rattle.rules.proofs.NamesFew.{names_few}
use Rattle.index.proofs.ListingLaws.{listed_begin}
use Rattle.values.proofs.RulingLaws.{ruled_kept, ruled_refused}
use Rattle.headers.specs.Imports.{imports_in}
use Rattle.headers.specs.Imported.{Imported, holds}
use Rattle.headers.specs.declared.imports.Imports.{Imports}
use Rattle.headers.proofs.Silent.{silent_fails, silent_passes}
use Rattle.headers.proofs.HeaderLaws.{header_imports}
use Rattle.messages.specs.Around.{field_of, import_number, imports_of, attributes_of}
use Rattle.messages.specs.Again.{graph_again}
use Rattle.messages.specs.declared.contexts.Owner.TheVariants as owners
use Rattle.messages.specs.declared.contexts.Surroundings.{Surroundings}
use Rattle.scope.specs.Scope.{scope_in, walk_in, step_says, Enters, Countable, counted}
use Rattle.scope.specs.Recall.{Recalling, Minds, HeldOn}
use Rattle.scope.specs.declared.remembered.Index.{Index}
use Rattle.scope.specs.declared.scopes.Progress.{Progress}
use Rattle.scope.proofs.RecallLaws.{holding, recalling_held, recalling_with}
use Rattle.cycle.proofs.CountLaws.{again_most}
use Rattle.second_walk.specs.Walks.{main_graph, few_counted}
use Rattle.second_walk.proofs.AgainLaws.{Answers}
use Rattle.second_walk.proofs.GraphAgain.{graph_again_lem}

-- nothing is visible and nothing is counted before the main graph
abbrev pub Outset : Progress
Outset = record { used = 0; nodes = 0; most = 0; odd = 0 }

-- what surrounds it: v is the IR version, m the whole model
abbrev pub outermost : (v : ℕ) (m : Field) → Surroundings
outermost v m = record { main = true; version = v; nodes = Graph-node; owner = owners.Model m }

-- the header keeps what is read again of it
outermost_answers : (model list : Bytes) (v : ℕ) (imports : List Bytes) → header model list (message model (whole model)) ≡ pass imports
    → Answers model (outermost v (whole model)) imports []
unfolding field_of imports_of import_number attributes_of
outermost_answers model list v imports e = record { imported = header_imports model list imports e; declared = λ x _. refl }

-- ---- what is counted

few_failed : (model : Bytes) (cells : List ℕ) (r : Answer Progress) {x : Refusal} → step_says model cells r ≡ fail x → few_counted r
unfolding step_says few_counted
few_failed model cells (Ok q) {x} e = absurd (fail_no_pass x _ (sym e))
few_failed model cells (Err y) e = tt

-- r is the answer for the main graph
pub main_few : (model : Bytes) (full : ℕ → Bool) (v : ℕ) (m g : Field) (cells later : List ℕ) (r : Answer Progress) → Enters model Graph Outset g
    → step_says model later r ≡ graph_again model full 8 (outermost v m) (walk_in model cells Outset) g → counted g Outset r → few_counted r
unfolding step_says few_counted counted walk_in
main_few model full v m g cells later (Err x) n e c = tt
main_few model full v m g cells later (Ok q) n e c =
    let names = names_few model true g n.tagged n.ends in
    let odd = passed_tells _ Any _ (walk_in model later q) (again_most model full 8 (outermost v m) (walk_in model cells Outset) g) (sym e) in
    let short = n.short in
    let inside = n.walked.inside in
    (omega arith, omega arith)

-- ---- r is the ruling on the header, m the whole model, a what is found of its graph

module _ (model list : Bytes) (full : ℕ → Bool) where
  abbrev Head : Judged (List Bytes)
  Head = header model list (message model (whole model))

  abbrev Main : Option Field → List Bytes → Judged Walk
  Main o imports = elim o [ none ↦ refused 11 (whole model).place | some g ↦ graph model full 8 (in_model (message model (whole model)) imports) start g ]

  headed : {o : Judged (List Bytes)} → Head ≡ o → main_graph model list full ≡ (o >>= Main (first_of Model-graph (message model (whole model))))
  unfolding main_graph message
  headed e = ap (λ (o : Judged (List Bytes)). o >>= Main (first_of Model-graph (message model (whole model)))) e

  module _ (r : Answer (Unit {0})) (ruled : outcome_of r ≡ silent Head) where
    pub main_unheaded : {x : Refusal} → r ≡ Err x → (cells : List ℕ) {s : Answer Progress} → s ≡ Err x
        → (step_says model cells s ≡ main_graph model list full) × few_counted s
    unfolding step_says ◌>>=◌
    main_unheaded {x} k cells {s} e =
        let fails : step_says model cells s ≡ fail x = ap (step_says model cells) e in
        (fails ∙ sym (headed (silent_fails Head (ruled_refused ruled k))), few_failed model cells s fails)

    module _ (k : r ≡ (Ok tt)) {m : Field} (em : m ≡ whole model) (a : Sought) (read : sought_says a ≡ found_in m.next (first_of Model-graph (message model m))) where
      passed : (imports : List Bytes) × (Head ≡ pass imports)
      passed = silent_passes Head (ruled_kept ruled k)

      mained : {o : Option Field} → o ≡ first_of Model-graph (message model m) → Main o passed.0 ≡ main_graph model list full
      unfolding ◌>>=◌
      mained e = ap (λ (o : Option Field). Main o passed.0) (e ∙ ap (λ (f : Field). first_of Model-graph (message model f)) em) ∙ sym (headed passed.1)

      pub main_missing : a ≡ None → (cells : List ℕ) (s : Answer Progress) → step_says model cells s ≡ refused 11 m.place
          → (step_says model cells s ≡ main_graph model list full) × few_counted s
      main_missing u cells s e =
          (e ∙ ap (λ (f : Field). refused 11 f.place) em ∙ mained (missing model Model-graph m a read u), few_failed model cells s e)

      -- v is the IR version
      pub main_found : {v : ℕ} → v ≡ number_of Model-ir_version (message model (whole model)) → {g : Field} {next : Cursor} → a ≡ Some (g, next) → (cells : List ℕ)
          → graph_again model full 8 (outermost v m) (walk_in model cells Outset) g ≡ main_graph model list full
      unfolding walk_in scope_in start in_model
      main_found {v} ev {g} u cells =
          ap (λ (f : Field). graph_again model full 8 (outermost v f) start g) em
          ∙ ap (λ (n : ℕ). graph_again model full 8 (outermost n (whole model)) start g) ev
          ∙ sym (graph_again_lem model full 8 (outermost (number_of Model-ir_version (message model (whole model))) (whole model)) refl
          (outermost_answers model list _ passed.0 passed.1) start g)
          ∙ mained (found model Model-graph m a read u)

-- ---- what the main graph goes by

-- there is room to count all its names
pub main_countable : (model : Bytes) (g : Field) → Enters model Graph Outset g → Countable Outset (names_in model 8 true g)
unfolding Countable
main_countable model g n =
    let h = names_few model true g n.tagged n.ends in
    let short = n.short in
    let inside = n.walked.inside in
    omega arith

-- the walk may go into it
pub main_enters : (model : Bytes) → length model < 2 ^ 32 → first_walk model ≡ pass tt → {m : Field} → m ≡ whole model → (a : Sought)
    → sought_says a ≡ found_in m.next (first_of Model-graph (message model m)) → {g : Field} {next : Cursor} → a ≡ Some (g, next)
    → Enters model Graph Outset g
unfolding first_of whole
main_enters model h passed {m} em a read {g} u = record {
  short = h;
  walked = walked_inner (subst (Walked model Model) (sym em) (walked_whole model passed)) Model-graph
      (first_here (all_of Model-graph (message model m)) (found model Model-graph m a read u)) model_graph;
  tagged = fits.1;
  ends = fits.2;
  few = (let inside = fits.3 in let size = walked_inside in omega arith);
}
  where
    fits : Fits g.place m.next g
    fits =
        passed_tells (Fits g.place m.next) (AtTag g.place) (field model m.next g.place) g (field_tells model m.next g.place)
        (first_read model Model-graph m (found model Model-graph m a read u))

    walked_inside : m.next ≡ length model
    walked_inside = ap (λ (f : Field). f.next) em

-- the lists hold the imports, and no attributes
pub main_minds : {model : Bytes} {ix : Index} {cells before after : List ℕ}
    → Recalling model ix cells before → HeldOn model ix before after → {r : Answer Imports}
    → holds model Model-opset_import (whole model) ix.seed 0 (drop ix.split after) r → {i : Imports} → r ≡ Ok i
    → (v : ℕ) {m : Field} → m ≡ whole model
    → Minds model (imports_of model (outermost v m)) (attributes_of model (outermost v m)) (holding ix i (record { base = 0; top = 0; whole = true })) i.listing.top cells after
unfolding holds field_of imports_of import_number attributes_of
main_minds {model} {ix} {cells} {before} {after} h k {r} x {i} e v em =
    let y : Imported model ix.seed (drop ix.split after) i (imports_in model Model-opset_import (whole model)) × (0 ≤ i.listing.top) = rw e at x in
    rw em (record {
      recalls = recalling_with (recalling_held h k);
      imported = y.0;
      resolved = listed_begin k.lists.index (omega arith) true;
      above = omega arith;
      beyond = omega arith;
      fits = y.0.listed.fits;
    })
