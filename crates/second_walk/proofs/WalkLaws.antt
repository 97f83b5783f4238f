-- The second walk: the header and the main graph, and then the functions.
use Rattle.std.specs.Prelude.{Err, Ok}
use Rattle.varint.specs.Answers.{Answer}
use Prim.Native.Nat.{ℕ}
use mathlib.Core.Path.{◌≡◌, sym, ap, ◌∙◌}
use mathlib.Core.List.{List}
use Rattle.varint.specs.Outcome.{◌>>=◌, Judged}
use Rattle.varint.specs.Bytes.{Bytes}
use Rattle.varint.specs.declared.Refusal.{Refusal}
use Rattle.varint.proofs.Answers.{says}
use Rattle.wire.specs.Message.{number_of, message, whole}
use Rattle.schema.specs.Numbers.{Model-ir_version}
use Rattle.rules.specs.Walk.{Walk}
use Rattle.rules.specs.Header.{header, second_walk_to, second_walk}
use Rattle.rules.specs.Verdict.{fills}
use Rattle.rules.proofs.Matching.{bind_assoc}
use Rattle.scope.specs.Scope.{walk_in, step_says}
use Rattle.scope.specs.declared.scopes.Progress.{Progress}
use Rattle.second_walk.specs.Walks.{main_graph, functions_again, few_counted}
use Rattle.second_walk.proofs.FunctionAgain.{functions_again_lem}

-- r is the answer for the header and the main graph, with `size` cells, now `later`; v is the IR version
module _ (model list : Bytes) (size : ℕ) (later : List ℕ) (r : Answer Progress) (main : step_says model later r ≡ main_graph model list (fills size)) where
  abbrev Version : ℕ
  Version = number_of Model-ir_version (message model (whole model))

  both : {s : Answer Progress} → r ≡ s → (step_says model later s >>= λ w. functions_again model list (fills size) Version w) ≡ second_walk model list (fills size)
  unfolding main_graph second_walk second_walk_to
  both e =
      ap (λ (o : Judged Walk). o >>= λ w. functions_again model list (fills size) Version w) (says (step_says model later) main e)
      ∙ ap (λ (k : Walk → Judged Walk). main_graph model list (fills size) >>= k) (λ i w. sym (functions_again_lem model list (fills size) Version w) i)
      ∙ bind_assoc (header model list (message model (whole model))) _ _

  pub walk_stops : {x : Refusal} → r ≡ Err x → step_says model later r ≡ second_walk model list (fills size)
  unfolding step_says ◌>>=◌
  walk_stops e = ap (step_says model later) e ∙ both e

  pub walk_goes : {v n : ℕ} → v ≡ Version → {p : Progress} → r ≡ Ok p → n ≡ size
      → functions_again model list (fills n) v (walk_in model later p) ≡ second_walk model list (fills size)
  unfolding step_says ◌>>=◌
  walk_goes {v} ev {p} e en =
      ap (λ (k : ℕ). functions_again model list (fills k) v (walk_in model later p)) en
      ∙ ap (λ (k : ℕ). functions_again model list (fills size) k (walk_in model later p)) ev
      ∙ both e

  -- it leaves room to count what functions have
  pub walk_few : few_counted r → {p : Progress} → r ≡ Ok p → few_counted (Ok p)
  walk_few few e = rw e at few
