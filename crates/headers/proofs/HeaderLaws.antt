-- The rules of the header in the order of the code's tests.
use Rattle.std.specs.Prelude.{Err, Ok}
use Rattle.varint.specs.Answers.{Answer, outcome_of, refusal}
use Prim.Native.Nat.{ℕ, ◌≤◌, ◌<◌}
use mathlib.Core.Path.{◌≡◌, refl, sym, ap, subst, ◌∙◌}
use mathlib.Core.Bool.{Bool, true, false, not}
use mathlib.Core.List.{List, []}
use lib.Dec.{leb}
use borrow.Author.Tests.{le-leb, lt-leb}
use Rattle.varint.specs.Outcome.{pass, ◌>>=◌, ◌>>◌, each, Judged, Rule, refused, refuse◌at:◌when:◌}
use Rattle.varint.specs.Lists.{is_empty, present, within}
use Rattle.varint.specs.Bytes.{Bytes, member}
use Rattle.wire.specs.Message.{all_of, first_of, number_of, place_of, message, whole}
use Rattle.varint.specs.declared.Refusal.{Refusal}
use Rattle.wire.specs.declared.Field.{Field}
use Rattle.wire.specs.declared.outlines.Outline.{Outline}
use Rattle.wire.specs.Outline.{Starts, Outlines}
use Rattle.varint.proofs.Lists.{no_first}
use Rattle.varint.proofs.Passing.{passed_seq}
use Rattle.varint.proofs.Refusing.{when_broken, when_kept}
use Rattle.schema.specs.Numbers.{Model-ir_version, Model-graph, Model-opset_import, Model-functions}
use Rattle.schema.specs.Answers.{silent}
use Rattle.rules.specs.Import.{opset_import}
use Rattle.rules.specs.Header.{header}
use Rattle.headers.specs.Imports.{imports_in}
use Rattle.headers.specs.Imported.{Outlined, ruling_of, holds}
use Rattle.headers.specs.declared.imports.Imports.{Imports}
use Rattle.headers.proofs.ImportLaws.{All, imports_agree}

pub version_below : (n : ℕ) → n < 3 → false ≡ within 3 11 n
unfolding within
version_below n h = simp (lt-leb 3 n h)

pub version_rest : (n : ℕ) → 3 ≤ n → leb n 11 ≡ within 3 11 n
unfolding within
version_rest n h = simp (le-leb 3 n h)

-- ---- one reading of the model's own fields

pub outlined : (model : Bytes) {m : Field} → m ≡ whole model → {o : Outline}
    → Outlines model m Model-ir_version Model-graph Model-opset_import Model-functions 0 0 o → Outlined model o
outlined model em {o} k = record {
  version = subst (λ (m : Field). Starts model m Model-ir_version o.first) em k.0;
  graph = subst (λ (m : Field). Starts model m Model-graph o.second) em k.1;
  imports = subst (λ (m : Field). Starts model m Model-opset_import o.third) em k.2;
  functions = subst (λ (m : Field). Starts model m Model-functions o.fourth) em k.3;
  rest = subst (λ (m : Field). Starts model m 0 o.fifth × Starts model m 0 o.sixth) em (k.4, k.5);
}

-- ---- the answer of the header, as a ruling

-- of a refusal nothing is left in the lists
pub refused_holds : {r : Answer Imports} {x : Refusal} → r ≡ Err x → (model : Bytes) (n : ℕ) (m : Field) (seed top : ℕ) (lists : List ℕ) → holds model n m seed top lists r
unfolding holds
refused_holds e model n m seed top lists = rw e tt

pub refused_ruling : {r : Answer Imports} {n p : ℕ} → r ≡ Err (refusal n p) → outcome_of (ruling_of r) ≡ refused n p
unfolding outcome_of ruling_of
refused_ruling e = rw e refl

module _ {h : Answer Imports} where
  pub refused_heading : {x : Refusal} → h ≡ Err x → ruling_of h ≡ Err x
  unfolding ruling_of
  refused_heading e = ap ruling_of e

  pub imported_heading : {i : Imports} → h ≡ Ok i → ruling_of h ≡ (Ok tt)
  unfolding ruling_of
  imported_heading e = ap ruling_of e

-- ---- the header: m is the whole model, n its version, b whether it is one of those that are judged

module _ (model list : Bytes) {m : Field} (em : m ≡ whole model) {n : ℕ} (en : n ≡ number_of Model-ir_version (message model m)) {b : Bool} (eb : b ≡ within 3 11 n) where
  abbrev Ruled : Rule
  Ruled = silent (header model list (message model (whole model)))

  answers : {o : Judged (List Bytes)} → header model list (message model m) ≡ o → silent o ≡ Ruled
  answers e = ap silent (sym e) ∙ ap (λ (f : Field). silent (header model list (message model f))) em

  version : {t : Bool} → b ≡ t → not (within 3 11 (number_of Model-ir_version (message model m))) ≡ not t
  version k = ap (λ (v : ℕ). not (within 3 11 v)) (sym en) ∙ ap not (sym eb ∙ k)

  pub header_version : b ≡ false → {p : ℕ} → p ≡ place_of Model-ir_version (message model m) → refused 10 p ≡ Ruled
  unfolding header silent ◌>>=◌
  header_version k e = ap (λ (q : ℕ). refused 10 q) e ∙ answers (when_broken 10 (place_of Model-ir_version (message model m)) _ (version k))

  -- g is whether there is a graph, i whether there is an import
  module _ (k : b ≡ true) {g : Bool} (eg : g ≡ present (first_of Model-graph (message model m))) where
    abbrev Each : Judged (List Bytes)
    Each = each (opset_import model list) [] (all_of Model-opset_import (message model m))

    graphed : header model list (message model m)
        ≡ (refuse 11 at: m.place when: not (present (first_of Model-graph (message model m)))
        >> (refuse 12 at: m.place when: is_empty (all_of Model-opset_import (message model m)) >> Each))
    unfolding header message
    graphed = when_kept 10 _ _ (version k)

    pub header_graph : g ≡ false → refused 11 m.place ≡ Ruled
    unfolding silent ◌>>=◌
    header_graph l = answers (graphed ∙ when_broken 11 m.place _ (ap not (sym eg ∙ l)))

    module _ (l : g ≡ true) {i : Bool} (ei : i ≡ present (first_of Model-opset_import (message model m))) where
      imported : {t : Bool} → i ≡ t → is_empty (all_of Model-opset_import (message model m)) ≡ not t
      unfolding first_of
      imported e = no_first (all_of Model-opset_import (message model m)) ∙ ap not (sym ei ∙ e)

      importing : header model list (message model m) ≡ (refuse 12 at: m.place when: is_empty (all_of Model-opset_import (message model m)) >> Each)
      importing = graphed ∙ when_kept 11 _ _ (ap not (sym eg ∙ l))

      pub header_import : i ≡ false → refused 12 m.place ≡ Ruled
      unfolding silent ◌>>=◌
      header_import e = answers (importing ∙ when_broken 12 m.place _ (imported e))

      last : i ≡ true → header model list (message model m) ≡ Each
      last j = importing ∙ when_kept 12 _ _ (imported j)

      -- r is the ruling on the imports
      pub header_imported : i ≡ true → (r : Answer (Unit {0})) → outcome_of r ≡ silent Each → outcome_of r ≡ Ruled
      header_imported j r ruled = ruled ∙ answers (last j)

-- the domains that a header passes on are those that the model imports
pub header_imports : (model list : Bytes) (imports : List Bytes) → header model list (message model (whole model)) ≡ pass imports → (x : Bytes)
    → member x imports ≡ member x (imports_in model Model-opset_import (whole model))
unfolding header imports_in
header_imports model list imports e x =
    let after12 = (passed_seq _ _ imports (passed_seq _ _ imports (passed_seq _ _ imports e).1).1).1 in
    imports_agree model list (All model Model-opset_import (whole model)) imports after12 x
