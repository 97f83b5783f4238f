-- The second walk in the parts that the code makes of it. No rule speaks of this; contracts of the code do, and `functions_again_lem` in proofs/FunctionAgain.antt
-- says that the second part is that of document 02.
use Rattle.scope.specs.declared.scopes.Progress.{Progress}
use Rattle.varint.specs.Answers.{Answer}
use Rattle.std.specs.Prelude.{ℕ, ◌*◌, ◌^◌, ◌≤◌, Bool, map, Err, Ok}
use Rattle.std.proofs.Math.Option.{none, some}
use Rattle.varint.specs.Outcome.{◌>>=◌, each, Judged, refused}
use Rattle.varint.specs.Bytes.{Bytes}
use Rattle.wire.specs.Message.{all_of, first_of, message, whole}
use Rattle.wire.specs.declared.Field.{Field}
use Rattle.schema.specs.Numbers.{Model-graph, Model-functions}
use Rattle.rules.specs.Walk.{Walk, start}
use Rattle.rules.specs.Identity.{Identity, identity_of, identified}
use Rattle.rules.specs.Graph.{graph}
use Rattle.rules.specs.Header.{in_model, header}
use Rattle.identities.specs.Functions.{functions_before}
use Rattle.functions.specs.Function.{function_again}

module _ (model list : Bytes) (full : ℕ → Bool) where
  -- "Header order: ..", "Then the main graph."
  unfoldable pub main_graph : Judged Walk
  main_graph = do
    let m = message model (whole model)
    imports ← header model list m
    elim (first_of Model-graph m) [ none ↦ refused 11 m.place | some g ↦ graph model full 8 (in_model m imports) start g ]

  -- A function, where those before it are read again.
  unfoldable pub one_again : (ir_version : ℕ) → Walk → Field → Judged Walk
  one_again v w f =
      let who : Field → Identity = λ g. identity_of model v (message model g) in
      function_again model full 7 list v (identified (who f) (map who (functions_before model f.place))) w f

  unfoldable pub functions_again : (ir_version : ℕ) → Walk → Judged Walk
  functions_again v w = each (one_again v) w (all_of Model-functions (message model (whole model)))

-- The main graph leaves room to count what functions have: a model has fewer than 2 ^ 32 bytes, a byte no more than 48 names.
unfoldable pub few_counted : Answer Progress → Type 0
few_counted (Ok p) = (p.nodes ≤ 2 ^ 32) × (p.odd ≤ 48 * 2 ^ 32)
few_counted (Err r) = Unit {0}
