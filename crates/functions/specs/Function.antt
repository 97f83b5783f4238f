-- A function as the code judges it. No rule speaks of this; contracts of the code do, and `function_again_lem` in `second_walk` says that it is the
-- function of document 02.
use Rattle.std.specs.Prelude.{ℕ, Bool, false}
use mathlib.Core.List.{List, ◌++◌, flat_map}
use Rattle.varint.specs.Outcome.{◌>>=◌, each, Judged}
use Rattle.wire.specs.declared.Field.{Field}
use Rattle.varint.specs.Bytes.{Bytes}
use Rattle.wire.specs.Message.{all_of, message}
use Rattle.schema.specs.Numbers.{Function-input, Function-output, Function-node}
use Rattle.rules.specs.Walk.{Walk, afresh}
use Rattle.rules.specs.Count.{node_names}
use Rattle.rules.specs.Function.{function_input, function_output}
use Rattle.messages.specs.Around.{inside}
use Rattle.messages.specs.Again.{field_names, node_again, graph_again}
use Rattle.signatures.specs.Signature.{signature_again}
use Rattle.messages.specs.declared.contexts.Owner.TheVariants.{Function}
use Rattle.messages.specs.declared.contexts.Surroundings.{Surroundings}

-- What surrounds the body of a function.
unfoldable pub within : (ir_version : ℕ) → (function : Field) → Surroundings
within v f = record { main = false; version = v; nodes = Function-node; owner = Function f }

module _ (model : Bytes) where
  -- The names in its body; `inner` has those of the graphs within.
  unfoldable pub body_names : (inner : Field → List Bytes) → Field → List Bytes
  body_names inner f =
      let m = message model f in
      flat_map (field_names model) (all_of Function-input m)
      ++ flat_map (node_names model inner) (all_of Function-node m)
      ++ flat_map (field_names model) (all_of Function-output m)

  module _ (full : ℕ → Bool) (left : ℕ) where
    unfoldable pub nodes_again : Surroundings → Walk → Field → Judged Walk
    nodes_again s w f = each (node_again model full (λ v g. graph_again model full left (inside s) v g) s f) w (all_of Function-node (message model f))

    -- "inputs ..; nodes ..; outputs"
    unfoldable pub body_again : Surroundings → Walk → Field → Judged Walk
    body_again s w f = do
      i ← each (function_input model full) w (all_of Function-input (message model f))
      n ← nodes_again s i f
      each (function_output model) n (all_of Function-output (message model f))

    -- `twice` says whether the function stood before.
    unfoldable pub function_again : (list : Bytes) → (ir_version : ℕ) → (twice : Bool) → Walk → Field → Judged Walk
    function_again list v twice w f = do
      t ← signature_again model list twice (afresh w) f
      body_again (within v f) t f
